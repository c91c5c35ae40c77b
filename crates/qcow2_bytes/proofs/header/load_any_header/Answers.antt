use Rattle.qcow2_metadata.specs.Header.{each_feature}
use Rattle.qcow2_bytes.proofs.HeaderLemmas.{loaded-read}
use Rattle.qcow2_bytes.proofs.header.load_any_header.Goals as goal

pub returns : goal.returns
returns g c = loaded-read each_feature c.load_accepting.result _ _ (rw c.each.ensures at c.load_accepting.ensures)
