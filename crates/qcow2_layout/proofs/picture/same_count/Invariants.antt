use Rattle.std.proofs.Common.{◌≡◌, ◌+◌, drop}
use Rattle.qcow2_layout.specs.Picture.{same_count}
use Rattle.qcow2_layout.proofs.picture.same_count.Given as goal

-- the squares so far have this colour
abbrev pub invariant-loop-index : goal.invariant-loop-index
invariant-loop-index l = same_count l.shade l.squares ≡ l.index + same_count l.shade (drop l.index l.squares)
