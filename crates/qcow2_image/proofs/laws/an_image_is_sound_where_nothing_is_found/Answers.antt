use Rattle.qcow2_image.proofs.SoundLemmas.{sound-where-right}
use Rattle.qcow2_image.proofs.laws.an_image_is_sound_where_nothing_is_found.Goals as goal

pub returns : goal.returns
returns c = sound-where-right
