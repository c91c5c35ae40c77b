use Rattle.qcow2_layout.proofs.EndLemmas.{same-end}
use Rattle.qcow2_layout.proofs.laws.a_layout_ends_where_the_image_does.Goals as goal

pub returns : goal.returns
returns c = same-end
