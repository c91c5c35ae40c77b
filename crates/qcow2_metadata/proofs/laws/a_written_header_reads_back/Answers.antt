use Rattle.qcow2_metadata.proofs.WriteLemmas.{kept-settled}
use Rattle.qcow2_metadata.proofs.laws.a_written_header_reads_back.Goals as goal

pub returns : goal.returns
returns c = λ header written valid is. kept-settled header written valid.storable is
