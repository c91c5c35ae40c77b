use Rattle.qcow2_apply.proofs.ApartLemmas.{apart-unshared}
use Rattle.qcow2_apply.proofs.CheckedLemmas.{unshared}
use Rattle.qcow2_apply.proofs.laws.tables_and_blocks_are_apart_where_there_are_no_errors.Goals as goal

pub returns : goal.returns
returns c tables image none = apart-unshared tables image (unshared tables image none)
