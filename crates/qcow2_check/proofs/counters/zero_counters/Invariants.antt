use Rattle.std.proofs.Common.{◌≡◌, ℕ, ◌+◌, ◌<◌, slice_index}
use Rattle.qcow2_check.proofs.counters.zero_counters.Given as goal

-- the counters before this one are 0
abbrev pub invariant-loop-k : goal.invariant-loop-k
invariant-loop-k l = (k : ℕ) → k < l.k → slice_index l.block.numbers (l.first + k) ≡ 0
