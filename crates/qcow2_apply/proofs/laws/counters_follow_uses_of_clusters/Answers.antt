use Rattle.qcow2_apply.proofs.BooksLemmas.{books}
use Rattle.qcow2_apply.proofs.laws.counters_follow_uses_of_clusters.Goals as goal

pub returns : goal.returns
returns c header edits plan old new valid for of follows apart cluster has = books header edits plan old new cluster valid for of follows apart has
