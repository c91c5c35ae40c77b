use Rattle.qcow2_apply.specs.Apply.{tables_by}
use Rattle.qcow2_summary.proofs.ReportedLemmas.{right-unshared}
use Rattle.qcow2_session.proofs.EditedImageLemmas.{bytes-read-as-left}
use Rattle.qcow2_session.proofs.laws.a_consistent_image_reads_as_edits_leave_it.Goals as goal

pub returns : goal.returns
returns c header edits plan old new is keeps valid for of follows right =
    bytes-read-as-left header edits plan old new is keeps valid for of follows (right-unshared (tables_by header plan) old right)
