use Rattle.qcow2_apply.proofs.HeaderLeftLemmas.{header-left}
use Rattle.qcow2_apply.proofs.laws.an_image_has_the_header_that_edits_leave.Goals as goal

pub returns : goal.returns
returns c = header-left
