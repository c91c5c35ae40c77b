use Rattle.std.proofs.Common.{◌≡◌, ℕ, ◌-◌, ◌<◌, ◌≤◌, length, slice_index}
use Rattle.qcow2_layout.specs.Window.{cell_further}
use Rattle.qcow2_layout.proofs.window.cells.groups_end.Given as goal

-- the cells before this one go on from the first
abbrev pub invariant-loop-end : goal.invariant-loop-end
invariant-loop-end l = record {
  some : l.index < l.end;
  within : l.end ≤ length l.cells;
  one : (i : ℕ) → l.index ≤ i → i < l.end → slice_index l.cells i ≡ cell_further (slice_index l.cells l.index) (i - l.index);
}

abbrev pub decreases-loop-end : goal.decreases-loop-end
decreases-loop-end l = length l.cells - l.end
