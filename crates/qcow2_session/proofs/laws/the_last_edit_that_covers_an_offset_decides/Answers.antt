use Rattle.qcow2_session.proofs.EditedReadsLemmas.{last-decides}
use Rattle.qcow2_session.proofs.laws.the_last_edit_that_covers_an_offset_decides.Goals as goal

pub returns : goal.returns
returns c = last-decides
