use Rattle.qcow2_repair.proofs.TrueFlagsLemmas.{true-repaired}
use Rattle.qcow2_repair.proofs.laws.no_step_of_a_repair_makes_a_flag_false.Goals as goal

pub returns : goal.returns
returns w = true-repaired
