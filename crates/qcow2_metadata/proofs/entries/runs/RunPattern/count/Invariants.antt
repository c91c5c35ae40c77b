use Rattle.std.proofs.Common.{◌≡◌, ◌≤◌, ◌-◌, ℕ, true, ◌+◌, ◌<◌, get_or, length}
use Rattle.qcow2_metadata.specs.Entries.Runs.{follows}
use Rattle.qcow2_metadata.proofs.entries.runs.RunPattern.count.Given as goal

-- the entries of the blocks before this one follow the pattern
abbrev pub invariant-loop-done : goal.invariant-loop-done
invariant-loop-done l =
    (l.done ≤ length l.entries) × ((k : ℕ) → k < l.done → follows l.self (k + 1) (get_or l.entries k 0) ≡ true)

abbrev pub decreases-loop-done : goal.decreases-loop-done
decreases-loop-done l = length l.entries - l.done
