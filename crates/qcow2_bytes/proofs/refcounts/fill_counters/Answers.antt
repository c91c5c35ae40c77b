use Rattle.std.proofs.Common.{arith}
use Rattle.qcow2_base.specs.Storage.{image_of}
use Rattle.qcow2_metadata.specs.Refblock.Packing.{counter_at}
use Rattle.qcow2_bytes.proofs.RefcountsLemmas.{filled_from}
use Rattle.qcow2_bytes.proofs.refcounts.fill_counters.Goals as goal

pub returns : goal.returns
returns c = filled_from (counter_at c.args.order (image_of c.args.bytes.now) 0) c.loop-index.counters c.args.first _ c.loop-index.invariant.len
    (λ i below. c.loop-index.invariant.read i (omega (arith, c.loop-index-test.false, c.loop-index.invariant.len)))
