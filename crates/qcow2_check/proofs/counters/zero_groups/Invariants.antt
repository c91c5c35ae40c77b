use Rattle.std.proofs.Common.{◌≡◌, ℕ, ◌+◌, ◌*◌, ◌<◌, slice_index}
use Rattle.qcow2_check.proofs.counters.zero_groups.Given as goal

-- the counters before this group are 0
abbrev pub invariant-loop-group : goal.invariant-loop-group
invariant-loop-group l = (k : ℕ) → k < 64 * l.group → slice_index l.block.numbers (l.first + k) ≡ 0
