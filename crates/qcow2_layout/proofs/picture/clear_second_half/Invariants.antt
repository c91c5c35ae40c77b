use Rattle.std.proofs.Common.{◌≡◌, ℕ, ◌<◌, ◌≤◌, length, slice_index}
use Rattle.qcow2_layout.proofs.picture.clear_second_half.Given as goal

-- the squares of the second half so far have the colour 0
abbrev pub invariant-loop-index : goal.invariant-loop-index
invariant-loop-index l = record {
  count : length l.squares ≡ length l.fn.squares;
  cleared : (i : ℕ) → 2048 ≤ i → i < l.index → slice_index l.squares i ≡ 0;
  others : (i : ℕ) → i < 2048 → slice_index l.squares i ≡ slice_index l.fn.squares i;
}
