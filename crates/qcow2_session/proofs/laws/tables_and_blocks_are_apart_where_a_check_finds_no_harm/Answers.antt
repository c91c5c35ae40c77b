use Rattle.qcow2_apply.proofs.ApartLemmas.{apart-unshared}
use Rattle.qcow2_apply.proofs.CheckedLemmas.{unshared}
use Rattle.qcow2_session.proofs.HarmLemmas.{no-errors-of-verdict}
use Rattle.qcow2_session.proofs.laws.tables_and_blocks_are_apart_where_a_check_finds_no_harm.Goals as goal

pub returns : goal.returns
returns c file tables image safe = apart-unshared tables image (unshared tables image (no-errors-of-verdict _ tables image safe))
