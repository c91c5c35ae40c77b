use Rattle.qcow2_repair.proofs.StagesLemmas.{uses-repaired}
use Rattle.qcow2_repair.proofs.laws.a_repair_keeps_uses.Goals as goal

pub returns : goal.returns
returns w = uses-repaired
