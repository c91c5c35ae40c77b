use Rattle.qcow2_metadata.proofs.GrowthLemmas.{IsRoomy-image, least_spare-is}
use Rattle.qcow2_metadata.specs.Table.Growth.{growth_of}
use Rattle.qcow2_metadata.proofs.laws.the_spare_by_division_is_the_least.Goals as goal

pub returns : goal.returns
returns c = λ header len index bits order.
    least_spare-is (growth_of header len index) (IsRoomy-image header len index bits order)
