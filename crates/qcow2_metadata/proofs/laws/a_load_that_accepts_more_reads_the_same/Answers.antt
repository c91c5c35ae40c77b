use Rattle.qcow2_metadata.proofs.GrammarLemmas.{plain-accepted}
use Rattle.qcow2_metadata.proofs.laws.a_load_that_accepts_more_reads_the_same.Goals as goal

pub returns : goal.returns
returns c = plain-accepted
