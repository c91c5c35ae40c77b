use Rattle.qcow2_apply.proofs.BrokenLemmas.{keep-distance}
use Rattle.qcow2_apply.proofs.laws.edits_that_break_off_make_no_counter_too_low.Goals as goal

pub returns : goal.returns
returns c = keep-distance
