use Rattle.qcow2_repair.proofs.FoundLemmas.{repairable-found-written}
use Rattle.qcow2_repair.proofs.laws.what_is_not_refused_can_be_repaired.Goals as goal

pub returns : goal.returns
returns w = repairable-found-written
