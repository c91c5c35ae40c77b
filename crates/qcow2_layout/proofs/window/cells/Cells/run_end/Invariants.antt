use Rattle.std.proofs.Common.{◌≡◌, ℕ, ◌-◌, ◌<◌, ◌≤◌, length, slice_index}
use Rattle.qcow2_layout.specs.Window.{cell_further}
use Rattle.qcow2_layout.specs.Window.Cells.{window_cells}
use Rattle.qcow2_layout.proofs.window.cells.Cells.run_end.Given as goal

-- the cells before this one go on from the first
abbrev pub invariant-loop-end : goal.invariant-loop-end
invariant-loop-end l = record {
  first : l.first ≡ slice_index (window_cells l.fn.self) l.index;
  some : l.index < l.end;
  within : l.end ≤ length (window_cells l.fn.self);
  one : (i : ℕ) → l.index ≤ i → i < l.end → slice_index (window_cells l.fn.self) i ≡ cell_further (slice_index (window_cells l.fn.self) l.index) (i - l.index);
}

abbrev pub decreases-loop-end : goal.decreases-loop-end
decreases-loop-end l = length (window_cells l.fn.self) - l.end
