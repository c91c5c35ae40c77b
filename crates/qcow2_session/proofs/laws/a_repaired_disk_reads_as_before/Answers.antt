use Rattle.qcow2_session.proofs.RepairedDiskLemmas.{repaired-reads}
use Rattle.qcow2_session.proofs.laws.a_repaired_disk_reads_as_before.Goals as goal

pub returns : goal.returns
returns c = repaired-reads
