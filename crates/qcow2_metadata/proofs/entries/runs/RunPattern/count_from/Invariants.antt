use Rattle.std.proofs.Common.{◌≡◌, ℕ, true, ◌+◌, ◌*◌, ◌<◌, get_or}
use Rattle.qcow2_metadata.specs.Entries.Runs.{follows}
use Rattle.qcow2_metadata.proofs.entries.runs.RunPattern.count_from.Given as goal

-- the entries before this one follow the pattern, and the value has grown by a step for each
abbrev pub invariant-loop-index : goal.invariant-loop-index
invariant-loop-index l =
    (l.expected ≡ l.self.value + l.index * l.self.step)
    × ((k : ℕ) → k < l.index → follows l.self (k + 1) (get_or l.entries k 0) ≡ true)
