use Rattle.std.proofs.Common.{◌≡◌, ℕ, ◌+◌, ◌*◌, ◌/◌, ◌<◌, slice_index}
use Rattle.qcow2_check.specs.Tally.{cell_at}
use Rattle.qcow2_repair.proofs.counters.counted_groups.Given as goal

-- the counters before this group are the uses
abbrev pub invariant-loop-group : goal.invariant-loop-group
invariant-loop-group l = (k : ℕ) → k < 64 * l.group →
    slice_index l.block.numbers (l.index + k) ≡ cell_at l.tally (l.first + k) / 8
