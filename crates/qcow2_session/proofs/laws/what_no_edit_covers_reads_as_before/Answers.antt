use Rattle.qcow2_session.proofs.EditedReadsLemmas.{reads-as-before}
use Rattle.qcow2_session.proofs.laws.what_no_edit_covers_reads_as_before.Goals as goal

pub returns : goal.returns
returns c = reads-as-before
