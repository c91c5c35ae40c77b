use Rattle.qcow2_check.proofs.UsesLemmas.{single_counted}
use Rattle.qcow2_check.proofs.counting.count_single.Goals as goal

pub returns-clause-counted : goal.returns-clause-counted
returns-clause-counted c = λ counted.
    single_counted c.args.cluster_bits c.args.entry c.cluster_bounds-first.result.0 c.cluster_bounds-first.result.1 c.refers.result _ _ c.if-first-last.false
    (c.refers.ensures c.args.cluster_bits)
    c.cluster_bounds-first.ensures
    (c.try_add_if.ensures.counted counted)
    c.try_add_if.ensures.unused
