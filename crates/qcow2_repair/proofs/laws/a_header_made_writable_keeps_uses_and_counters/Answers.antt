use Rattle.qcow2_repair.proofs.FoundLemmas.{kept-found-written}
use Rattle.qcow2_repair.proofs.laws.a_header_made_writable_keeps_uses_and_counters.Goals as goal

pub returns : goal.returns
returns w = kept-found-written
