use Rattle.std.proofs.Common.{◌∙◌, arith, length, rules}
use Rattle.qcow2_layout.proofs.PictureLemmas.{shapes-all, shapes-more}
use Rattle.qcow2_layout.specs.Picture.{shapes_at}
use Rattle.qcow2_layout.proofs.picture.shapes_of.Goals as goal
use Rattle.qcow2_layout.proofs.picture.shapes_of.Goals.{then-begins_shape+in_ok-push, else-begins_shape}

pub loop-index-preserved : goal.loop-index-preserved
loop-index-preserved c =
    let more = shapes-more (shapes_at c.args.squares.now) (length c.args.squares.now) c.loop-index.index (omega arith) in
    elim c.if-begins_shape.branch [
      | then-begins_shape+in_ok-push w ↦ rw (more, ← c.loop-index.invariant) (search rules)
      | else-begins_shape w ↦ rw (more, ← c.loop-index.invariant) (search rules)
    ]

pub returns : goal.returns
returns c = c.loop-index.invariant ∙ shapes-all (shapes_at c.args.squares.now) (length c.args.squares.now) c.loop-index.index (omega arith)
