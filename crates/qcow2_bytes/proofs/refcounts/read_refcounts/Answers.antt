use Rattle.std.proofs.Common.{arith}
use Rattle.qcow2_bytes.proofs.RefcountsLemmas.{counters_within}
use Rattle.qcow2_bytes.proofs.refcounts.read_refcounts.Goals as goal

pub fill_counters-requires-clause-within : goal.fill_counters-requires-clause-within
fill_counters-requires-clause-within c =
    let found = c.in_ok-cluster_bits.ensures in
    rw found.size (counters_within c.in_ok-cluster_bits.cluster_bits c.args.refcount_order _ found.bits found.order (omega (arith, c.if-first-entries.false, c.if-counters-left.false, c.saturating_sub-left.ensures, c.entries_of-entries.ensures.value)))
