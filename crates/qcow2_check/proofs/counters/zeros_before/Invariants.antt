use Rattle.std.proofs.Common.{◌≡◌, ℕ, ◌+◌, ◌*◌, ◌<◌, ◌≤◌, slice_index}
use Rattle.qcow2_check.proofs.counters.zeros_before.Given as goal

-- the counters of the groups passed so far are 0
abbrev pub invariant-loop-group : goal.invariant-loop-group
invariant-loop-group l = (k : ℕ) → l.end ≤ k + 64 * l.group → k < l.end → slice_index l.block.numbers k ≡ 0
