use Rattle.qcow2_repair.proofs.LeftLemmas.{consistent-repaired}
use Rattle.qcow2_repair.proofs.laws.a_repaired_image_is_consistent_where_blocks_count_all_uses.Goals as goal

pub returns : goal.returns
returns w = consistent-repaired
