use Rattle.qcow2_apply.proofs.CrashesLemmas.{crash-keeps-distance}
use Rattle.qcow2_apply.proofs.laws.a_crash_makes_no_counter_too_low.Goals as goal

pub returns : goal.returns
returns c = crash-keeps-distance
