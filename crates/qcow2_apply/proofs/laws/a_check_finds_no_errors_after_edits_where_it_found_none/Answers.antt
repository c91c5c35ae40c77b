use Rattle.qcow2_apply.proofs.CheckedLemmas.{finds-none}
use Rattle.qcow2_apply.proofs.laws.a_check_finds_no_errors_after_edits_where_it_found_none.Goals as goal

pub returns : goal.returns
returns c = finds-none
