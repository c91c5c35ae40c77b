use Rattle.qcow2_apply.specs.Apply.{tables_by}
use Rattle.qcow2_apply.proofs.CheckedLemmas.{unshared}
use Rattle.qcow2_session.proofs.EditedImageLemmas.{image-reads-as-left}
use Rattle.qcow2_session.proofs.HarmLemmas.{no-errors-of-verdict}
use Rattle.qcow2_session.proofs.laws.a_disk_without_harm_reads_as_edits_leave_it.Goals as goal

pub returns : goal.returns
returns c header edits plan file old new valid for of follows safe =
    let apart = unshared (tables_by header plan) old (no-errors-of-verdict _ (tables_by header plan) old safe) in
    image-reads-as-left header edits plan old new valid for of follows apart
