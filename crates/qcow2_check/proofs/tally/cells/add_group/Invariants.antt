use Rattle.std.proofs.Common.{◌≡◌, ◌⊎◌, ℕ, ◌+◌, ◌<◌, ◌≤◌, length, slice_index}
use Rattle.qcow2_check.specs.Tally.{with_use}
use Rattle.qcow2_check.specs.declared.tally.TallyKind.TheVariants.{Guest}
use Rattle.qcow2_check.proofs.tally.cells.add_group.Given as goal

-- the cells of the group before this one count one use more, and no other has changed
abbrev pub invariant-loop-k : goal.invariant-loop-k
invariant-loop-k l = record {
  count : length l.cells ≡ length l.initial.cells;
  each : (k : ℕ) → k < l.k → slice_index l.cells (l.first + k) ≡ with_use Guest (slice_index l.initial.cells (l.first + k));
  others : (i : ℕ) → (i < l.first) ⊎ (l.first + l.k ≤ i) → slice_index l.cells i ≡ slice_index l.initial.cells i;
}
