use Rattle.qcow2_repair.proofs.TooLowLemmas.{enough-repaired}
use Rattle.qcow2_repair.proofs.laws.no_step_of_a_repair_makes_a_counter_too_low.Goals as goal

pub returns : goal.returns
returns w = enough-repaired
