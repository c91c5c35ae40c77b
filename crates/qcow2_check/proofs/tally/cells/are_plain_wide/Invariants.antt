use Rattle.std.proofs.Common.{ℕ, ◌<◌, IsTrue, slice_index}
use Rattle.qcow2_check.specs.Tally.{IsPlain}
use Rattle.qcow2_check.proofs.tally.cells.are_plain_wide.Given as goal

-- where all cells before this one are plain, it says so
abbrev pub invariant-loop-k : goal.invariant-loop-k
invariant-loop-k l = IsTrue l.plain → (k : ℕ) → k < l.k → IsPlain (slice_index l.cells k) (slice_index l.counters k)
