use Rattle.std.proofs.Common.{◌*◌, rules, arith}
use Rattle.qcow2_check.proofs.FindingsLemmas.{right_chunk}
use Rattle.qcow2_check.proofs.findings.plain_clusters.Goals as goal

pub loop-chunk-preserved : goal.loop-chunk-preserved
loop-chunk-preserved c = λ k below.
    right_chunk c.args.block.now.numbers c.counters_from.result c.args.tally.now c.args.index c.args.first (64 * c.loop-chunk.chunk) 64
    c.loop-chunk.invariant (search rules) c.counters_from.ensures k (omega (arith, below))
