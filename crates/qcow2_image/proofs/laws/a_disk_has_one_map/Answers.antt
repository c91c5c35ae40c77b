use Rattle.qcow2_image.proofs.ExtentsLemmas.{map_once}
use Rattle.qcow2_image.proofs.laws.a_disk_has_one_map.Goals as goal

pub returns : goal.returns
returns c = λ contents size one other first second. map_once contents size 0 one other first second
