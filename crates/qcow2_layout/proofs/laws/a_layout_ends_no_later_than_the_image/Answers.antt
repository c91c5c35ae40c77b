use Rattle.qcow2_layout.proofs.EndLemmas.{end-within}
use Rattle.qcow2_layout.proofs.laws.a_layout_ends_no_later_than_the_image.Goals as goal

pub returns : goal.returns
returns c = end-within
