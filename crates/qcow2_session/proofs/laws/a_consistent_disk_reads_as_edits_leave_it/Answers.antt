use Rattle.qcow2_apply.specs.Apply.{tables_by}
use Rattle.qcow2_summary.proofs.ReportedLemmas.{right-unshared}
use Rattle.qcow2_session.proofs.EditedImageLemmas.{image-reads-as-left}
use Rattle.qcow2_session.proofs.laws.a_consistent_disk_reads_as_edits_leave_it.Goals as goal

pub returns : goal.returns
returns c header edits plan old new valid for of follows right =
    image-reads-as-left header edits plan old new valid for of follows (right-unshared (tables_by header plan) old right)
