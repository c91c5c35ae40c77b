use Rattle.std.proofs.Common.{◌≡◌, ℕ, ◌+◌, ◌<◌, IsTrue, slice_index}
use Rattle.qcow2_check.proofs.groups.are_unallocated.Given as goal

-- where all entries before this one are 0, it says so
abbrev pub invariant-loop-k : goal.invariant-loop-k
invariant-loop-k l = IsTrue l.unallocated → (k : ℕ) → k < l.k → slice_index l.table.numbers (l.first + k) ≡ 0
