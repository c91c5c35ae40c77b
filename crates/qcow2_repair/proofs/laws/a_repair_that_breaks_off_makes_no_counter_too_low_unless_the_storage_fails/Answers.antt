use Rattle.qcow2_repair.proofs.TooLowLemmas.{enough-left}
use Rattle.qcow2_repair.proofs.laws.a_repair_that_breaks_off_makes_no_counter_too_low_unless_the_storage_fails.Goals as goal

pub returns : goal.returns
returns w = enough-left
