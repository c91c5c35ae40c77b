use Rattle.qcow2_summary.proofs.ReportedLemmas.{counters-right}
use Rattle.qcow2_summary.proofs.laws.counters_are_uses_where_nothing_is_found.Goals as goal

pub returns : goal.returns
returns c = λ tables image right k below. counters-right tables image k right below
