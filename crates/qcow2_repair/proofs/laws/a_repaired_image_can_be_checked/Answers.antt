use Rattle.qcow2_repair.proofs.CheckableLemmas.{checkable-repaired}
use Rattle.qcow2_repair.proofs.laws.a_repaired_image_can_be_checked.Goals as goal

pub returns : goal.returns
returns w = checkable-repaired
