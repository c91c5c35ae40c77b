use Rattle.std.proofs.Common.{◌≡◌, ℕ, ◌+◌, ◌/◌, ◌<◌, IsTrue, slice_index}
use Rattle.qcow2_repair.proofs.counters.are_counted.Given as goal

-- the counters before this one are the uses, where it says so
abbrev pub invariant-loop-k : goal.invariant-loop-k
invariant-loop-k l = IsTrue l.counted → (k : ℕ) → k < l.k → slice_index l.block.numbers (l.index + k) ≡ slice_index l.cells k / 8
