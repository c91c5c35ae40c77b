use Rattle.qcow2_repair.proofs.TooLowLemmas.{enough-whole}
use Rattle.qcow2_repair.proofs.laws.a_part_of_a_repair_makes_no_counter_too_low_that_it_leaves_whole.Goals as goal

pub returns : goal.returns
returns w = enough-whole
