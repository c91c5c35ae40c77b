use Rattle.std.proofs.Common.{◌≡◌, ◌↔◌, ◌≤◌, ℕ, true, ◌+◌, ◌*◌, ◌<◌, get_or}
use Rattle.qcow2_metadata.specs.Entries.Runs.{follows}
use Rattle.qcow2_metadata.proofs.entries.runs.RunPattern.all_follow.Given as goal

-- the value has grown by a step for each entry, and all tests held just where each of them follows the pattern
abbrev pub invariant-loop-index : goal.invariant-loop-index
invariant-loop-index l =
    (l.expected ≡ l.self.value + l.index * l.self.step)
    × ((l.all ≡ true) ↔ ((k : ℕ) → l.first ≤ k → k < l.index → follows l.self (k + 1) (get_or l.entries k 0) ≡ true))
