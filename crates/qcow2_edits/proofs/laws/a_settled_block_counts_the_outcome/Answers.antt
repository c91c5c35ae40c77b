use Rattle.qcow2_edits.proofs.SettledLemmas.{settled-counts}
use Rattle.qcow2_edits.proofs.laws.a_settled_block_counts_the_outcome.Goals as goal

pub returns : goal.returns
returns c = settled-counts
