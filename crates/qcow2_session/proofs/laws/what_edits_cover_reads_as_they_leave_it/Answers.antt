use Rattle.qcow2_session.proofs.EditedReadsLemmas.{covered-reads}
use Rattle.qcow2_session.proofs.laws.what_edits_cover_reads_as_they_leave_it.Goals as goal

pub returns : goal.returns
returns c = covered-reads
