use Rattle.std.proofs.Common.{◌≡◌, ℕ, ◌+◌, ◌<◌, IsTrue, slice_index}
use Rattle.qcow2_check.proofs.soles.are_one.Given as goal

-- the counters before this one are 1, where it says so
abbrev pub invariant-loop-k : goal.invariant-loop-k
invariant-loop-k l = IsTrue l.are_one → (k : ℕ) → k < l.k → slice_index l.block.numbers (l.first + k) ≡ 1
