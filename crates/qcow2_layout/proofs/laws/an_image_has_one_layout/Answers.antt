use Rattle.qcow2_layout.proofs.LayoutLemmas.{runs-once}
use Rattle.qcow2_layout.proofs.laws.an_image_has_one_layout.Goals as goal

pub returns : goal.returns
returns c = λ cb parts end one other first second. runs-once cb parts end 0 one other first second
