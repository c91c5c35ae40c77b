use Rattle.qcow2_metadata.proofs.ClearedLemmas.{accepted-cleared}
use Rattle.qcow2_metadata.proofs.laws.a_cleared_field_leaves_the_other_parts_of_a_header.Goals as goal

pub returns : goal.returns
returns c = accepted-cleared
