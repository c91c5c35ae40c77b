use Rattle.qcow2_apply.proofs.ApartLemmas.{all-apart}
use Rattle.qcow2_apply.proofs.laws.tables_and_blocks_are_apart_where_nothing_is_found.Goals as goal

pub returns : goal.returns
returns c = all-apart
