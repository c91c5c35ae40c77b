use Rattle.std.proofs.Common.{◌≡◌, ℕ, ◌+◌, ◌<◌, slice_index}
use Rattle.std.specs.Int.{bit_at}
use Rattle.qcow2_check.proofs.soles.ones.Given as goal

-- the bits before this one that are 1 are those of counters that are
abbrev pub invariant-loop-k : goal.invariant-loop-k
invariant-loop-k l = (k : ℕ) → k < 64 → bit_at l.word k ≡ 1 → slice_index l.block.numbers (l.first + k) ≡ 1
