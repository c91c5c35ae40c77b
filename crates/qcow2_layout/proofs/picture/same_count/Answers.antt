use Rattle.std.proofs.Common.{arith}
use Rattle.qcow2_layout.proofs.PictureLemmas.{same-ends, same-more, same-stops}
use Rattle.qcow2_layout.proofs.picture.same_count.Goals as goal

pub returns-then-squares-index : goal.returns-then-squares-index
returns-then-squares-index c =
    omega (arith, c.loop-index.invariant, same-stops c.args.shade c.loop-index.index c.args.squares.now (omega arith) (search arith))

pub loop-index-preserved : goal.loop-index-preserved
loop-index-preserved c =
    omega (arith, c.loop-index.invariant, same-more c.args.shade c.loop-index.index c.args.squares.now (omega arith) (search arith))

pub returns : goal.returns
returns c = omega (arith, c.loop-index.invariant, same-ends c.args.shade c.loop-index.index c.args.squares.now (omega arith))
