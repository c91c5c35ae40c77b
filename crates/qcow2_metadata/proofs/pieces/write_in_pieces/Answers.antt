use Rattle.std.proofs.Common.{◌≡◌, ◌-◌, ◌*◌, ◌∙◌, length, min, arith, rules}
use Rattle.std.proofs.lemmas.Result.{err_from_is_err_and}
use Rattle.qcow2_metadata.proofs.PiecesLemmas.{IsTornAtPiece-at, IsWrittenUpTo-more, others_kept}
use Rattle.qcow2_metadata.proofs.pieces.write_in_pieces.Goals as goal

pub returns-in_err-write_piece : goal.returns-in_err-write_piece
returns-in_err-write_piece g c =
    let bytes = (g.P.Packed.layout c.args.packed.now).bytes_of (g.P.Packed.numbers c.args.packed.now) in
    let len = (g.P.Packed.layout c.args.packed.now).byte_count in
    let piece = c.loop-piece.piece in
    let before = c.loop-piece.invariant in
    let count : length c.pack.new.buffer ≡ min (len - 4096 * piece) 4096 = search rules in
    let left = err_from_is_err_and c.from_residual.result c.from_residual.ensures.1 in
    rw left.1 (record {
      written = tt;
      torn = λ told. IsTornAtPiece-at piece bytes len c.args.offset.0 (length c.pack.new.buffer) _ _ _ (omega arith) (omega arith)
          (before.told told) (c.write_piece.ensures.others (before.device.tells ∙ told));
      others = λ told. others_kept piece bytes len c.args.offset.0 (length c.pack.new.buffer) _ _ _ (omega arith)
          (before.told told) (c.write_piece.ensures.others (before.device.tells ∙ told));
      failures = search rules;
      device = search rules;
    })

pub loop-piece-preserved : goal.loop-piece-preserved
loop-piece-preserved g c =
    let before = c.loop-piece.invariant in
    record {
      told = λ told.
          IsWrittenUpTo-more c.loop-piece.piece _ _ c.args.offset.0 _ _ _ c.pack.new.buffer (omega arith) (search rules)
          (λ i h. c.pack.ensures.packed i h) (before.told told)
          (c.in_ok-write_piece.ensures.written (before.device.tells ∙ told)) (c.write_piece.ensures.others (before.device.tells ∙ told));
      failures = search rules;
      device = search rules;
    }
