use Rattle.std.proofs.Common.{ℕ, ◌+◌, ◌<◌, IsTrue, slice_index}
use Rattle.qcow2_check.specs.Groups.{IsInRow}
use Rattle.qcow2_check.proofs.groups.are_copied_from.Given as goal

-- the entries before this one are in a row, where it says so
abbrev pub invariant-loop-k : goal.invariant-loop-k
invariant-loop-k l = IsTrue l.are_copied → (k : ℕ) → k < l.k →
    IsInRow l.table.geometry.cluster_bits (slice_index l.table.numbers (l.first + k)) (l.start.0 + k)
