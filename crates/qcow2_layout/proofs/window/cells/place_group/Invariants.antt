use Rattle.std.proofs.Common.{◌≡◌, ◌==◌, ◌⊎◌, ℕ, ◌+◌, ◌<◌, ◌≤◌, if◌then◌else◌, length, slice_index}
use Rattle.qcow2_layout.proofs.window.cells.place_group.Given as goal

-- the cells of the group before this one have their numbers, and no other has changed
abbrev pub invariant-loop-k : goal.invariant-loop-k
invariant-loop-k l = record {
  count : length l.cells ≡ length l.initial.cells;
  each : (k : ℕ) → k < l.k → slice_index l.cells (l.first + k)
      ≡ (if slice_index l.initial.cells (l.first + k) == 0 then l.code + k else slice_index l.initial.cells (l.first + k));
  others : (i : ℕ) → (i < l.first) ⊎ (l.first + l.k ≤ i) → slice_index l.cells i ≡ slice_index l.initial.cells i;
}
