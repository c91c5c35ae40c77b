use Rattle.std.proofs.Common.{◌≡◌, IsTrue}
use Rattle.qcow2_base.specs.Storage.{SameDevice}
use Rattle.qcow2_metadata.proofs.PiecesLemmas.{IsWrittenUpTo}
use Rattle.qcow2_metadata.proofs.pieces.write_in_pieces.Given as goal

-- the pieces before this one are written, and no call has failed
abbrev pub invariant-loop-piece : goal.invariant-loop-piece
invariant-loop-piece g l =
    let old = g.S.Storage.state l.initial.image in
    let new = g.S.Storage.state l.image in
    record {
      told : IsTrue old.tells → IsWrittenUpTo l.piece ((g.P.Packed.layout l.packed).bytes_of (g.P.Packed.numbers l.packed)) (g.P.Packed.layout l.packed).byte_count
          l.offset.0 old.byte_at new.byte_at;
      failures : new.failures ≡ old.failures;
      device : SameDevice old new;
    }
