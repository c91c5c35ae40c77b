use Rattle.std.proofs.Common.{◌≡◌, ℕ, ◌+◌, ◌<◌, IsTrue, slice_index}
use Rattle.qcow2_layout.specs.Window.{cell_further}
use Rattle.qcow2_layout.proofs.window.cells.are_further.Given as goal

-- the cells before this one are one run, where it says so
abbrev pub invariant-loop-k : goal.invariant-loop-k
invariant-loop-k l = IsTrue l.are → (k : ℕ) → k < l.k → slice_index l.cells (l.index + k) ≡ cell_further l.cell k
