use Rattle.std.proofs.Common.{◌≡◌, ◌*◌, IsTrue, None, length, map, min, take}
use Rattle.qcow2_base.specs.Storage.{SameDevice}
use Rattle.qcow2_metadata.specs.Table.{first_fault, table_numbers}
use Rattle.qcow2_metadata.proofs.table.reread.read_over.Given as goal

-- the entries of the pieces before this one are in their places, all are valid, and no call has failed
abbrev pub invariant-loop-piece : goal.invariant-loop-piece
invariant-loop-piece g l =
    let numbers = map g.E.TableEntry.plain l.entries in
    let done = min (512 * l.piece) l.count in
    let old = g.S.Storage.state l.initial.image in
    let new = g.S.Storage.state l.image in
    record {
      told : IsTrue old.tells → take done numbers ≡ table_numbers old.byte_at l.offset.0 done;
      count : length l.entries ≡ length l.initial.entries;
      valid : first_fault (g.E.TableEntry.fault_of l.header.v2.cluster_bits) numbers ≡ None;
      bytes : new.byte_at ≡ old.byte_at;
      end : new.len ≡ old.len;
      failures : new.failures ≡ old.failures;
      device : SameDevice old new;
    }
