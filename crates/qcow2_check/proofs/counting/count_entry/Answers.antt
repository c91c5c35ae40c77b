use Rattle.std.proofs.Common.{sym}
use Rattle.qcow2_check.proofs.UsesLemmas.{entry_counts, no_entry_counts}
use Rattle.qcow2_check.proofs.counting.count_entry.Goals as goal

pub returns-in-Some-clause-counted : goal.returns-in-Some-clause-counted
returns-in-Some-clause-counted c =
    entry_counts c.args.cluster_bits c.args.entry c.args.times _ c.count_clusters.result _ _ (sym c.in-Some.ensures.value) c.count_clusters.ensures.counted

pub returns-in-None-clause-counted : goal.returns-in-None-clause-counted
returns-in-None-clause-counted c =
    no_entry_counts c.args.cluster_bits c.args.entry c.args.times _ (sym c.in-None.ensures.value)
