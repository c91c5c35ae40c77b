use Rattle.qcow2_apply.proofs.ErrorsLemmas.{no-leaks}
use Rattle.qcow2_apply.proofs.laws.edits_leak_no_clusters.Goals as goal

pub returns : goal.returns
returns c header edits plan old new valid for of follows apart none =
    no-leaks header edits plan old new (record { valid = valid; for = for; of = of; follows = follows; apart = apart }) none
