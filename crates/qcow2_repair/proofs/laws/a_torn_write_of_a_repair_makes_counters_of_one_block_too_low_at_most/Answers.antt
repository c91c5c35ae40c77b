use Rattle.qcow2_repair.proofs.TooLowLemmas.{one-block-too-low}
use Rattle.qcow2_repair.proofs.laws.a_torn_write_of_a_repair_makes_counters_of_one_block_too_low_at_most.Goals as goal

pub returns : goal.returns
returns w = one-block-too-low
