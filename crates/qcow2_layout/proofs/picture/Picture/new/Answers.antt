use Rattle.std.proofs.Common.{replicate}
use Rattle.std.proofs.lemmas.List.{get_or-replicate}
use Rattle.qcow2_layout.proofs.PictureLemmas.{nothing-shown}
use Rattle.qcow2_layout.proofs.picture.Picture.new.Goals as goal

pub returns-clause-blank : goal.returns-clause-blank
returns-clause-blank c = λ shades. nothing-shown shades (replicate 4096 0) (λ i below. get_or-replicate 4096 i 0 0 below)
