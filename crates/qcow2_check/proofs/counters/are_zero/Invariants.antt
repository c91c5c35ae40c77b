use Rattle.std.proofs.Common.{◌≡◌, ℕ, ◌+◌, ◌<◌, IsTrue, slice_index}
use Rattle.qcow2_check.proofs.counters.are_zero.Given as goal

-- the counters before this one are 0, where it says so
abbrev pub invariant-loop-k : goal.invariant-loop-k
invariant-loop-k l = IsTrue l.zero → (k : ℕ) → k < l.k → slice_index l.block.numbers (l.first + k) ≡ 0
