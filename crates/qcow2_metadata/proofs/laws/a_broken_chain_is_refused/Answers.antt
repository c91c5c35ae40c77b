use Rattle.qcow2_metadata.proofs.ChainLemmas.{breaks-extensions_at}
use Rattle.qcow2_metadata.proofs.laws.a_broken_chain_is_refused.Goals as goal

pub returns : goal.returns
returns c = breaks-extensions_at
