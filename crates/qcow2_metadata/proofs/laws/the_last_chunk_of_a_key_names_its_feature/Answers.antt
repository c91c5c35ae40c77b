use Rattle.qcow2_metadata.proofs.FeatureNamesLemmas.{named-after_chunk}
use Rattle.qcow2_metadata.proofs.laws.the_last_chunk_of_a_key_names_its_feature.Goals as goal

pub returns : goal.returns
returns c = named-after_chunk
