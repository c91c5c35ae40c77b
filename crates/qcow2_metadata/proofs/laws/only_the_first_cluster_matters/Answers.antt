use Rattle.qcow2_metadata.proofs.LawsLemmas.{accepted_header-same}
use Rattle.qcow2_metadata.proofs.laws.only_the_first_cluster_matters.Goals as goal

pub returns : goal.returns
returns c = accepted_header-same
