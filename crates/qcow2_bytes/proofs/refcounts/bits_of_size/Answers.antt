use Rattle.std.proofs.Common.{◌∙◌, arith}
use Rattle.qcow2_bytes.proofs.RefcountsLemmas.{bits_from_first, bits_from_next}
use Rattle.qcow2_bytes.proofs.refcounts.bits_of_size.Goals as goal

pub loop-bits-init : goal.loop-bits-init
loop-bits-init c = record {
  least = omega arith;
  left = bits_from_first c.args.size;
}

pub loop-bits-preserved : goal.loop-bits-preserved
loop-bits-preserved c = record {
  least = omega (arith, c.loop-bits.invariant.least);
  left = c.loop-bits.invariant.left ∙ bits_from_next c.args.size c.loop-bits.bits c.loop-bits-test.true c.if-size-bits.false;
}
