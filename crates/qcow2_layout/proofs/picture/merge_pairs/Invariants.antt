use Rattle.std.proofs.Common.{◌≡◌, ℕ, ◌+◌, ◌*◌, ◌<◌, ◌≤◌, max, length, slice_index}
use Rattle.qcow2_layout.proofs.picture.merge_pairs.Given as goal

-- the first squares have the colours of two, and the others their own
abbrev pub invariant-loop-index : goal.invariant-loop-index
invariant-loop-index l = record {
  count : length l.squares ≡ length l.fn.squares;
  merged : (i : ℕ) → i < l.index → slice_index l.squares i ≡ max (slice_index l.fn.squares (2 * i)) (slice_index l.fn.squares (2 * i + 1));
  kept : (i : ℕ) → l.index ≤ i → slice_index l.squares i ≡ slice_index l.fn.squares i;
}
