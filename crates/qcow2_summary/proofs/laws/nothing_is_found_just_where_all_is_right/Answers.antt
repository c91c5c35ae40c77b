use Rattle.qcow2_check.proofs.FindingsListLemmas.{none-just-where-right}
use Rattle.qcow2_summary.proofs.laws.nothing_is_found_just_where_all_is_right.Goals as goal

pub returns : goal.returns
returns c = none-just-where-right
