use Rattle.qcow2_repair.proofs.LeftLemmas.{right-repaired}
use Rattle.qcow2_repair.proofs.laws.a_repaired_image_is_right_where_blocks_count.Goals as goal

pub returns : goal.returns
returns w = right-repaired
