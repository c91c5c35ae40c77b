use Rattle.qcow2_repair.proofs.EndLemmas.{consistent-passed}
use Rattle.qcow2_repair.proofs.laws.marks_are_cleared_only_of_a_consistent_image.Goals as goal

pub returns : goal.returns
returns w = consistent-passed
