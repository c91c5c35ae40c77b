use Rattle.std.proofs.Common.{◌≡◌, flat_map, length, take}
use Rattle.std.specs.List.{range_with_len}
use Rattle.qcow2_layout.specs.Picture.{shapes_at}
use Rattle.qcow2_layout.proofs.picture.shapes_of.Given as goal

-- the shapes of the squares so far
abbrev pub invariant-loop-index : goal.invariant-loop-index
invariant-loop-index l = l.shapes.items ≡ flat_map (shapes_at l.squares) (take l.index (range_with_len 0 (length l.squares)))
