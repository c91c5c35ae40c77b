use Rattle.qcow2_session.proofs.ConsistentLemmas.{right-where-fine}
use Rattle.qcow2_session.proofs.laws.all_is_right_where_the_verdict_is_fine.Goals as goal

pub returns : goal.returns
returns c = right-where-fine
