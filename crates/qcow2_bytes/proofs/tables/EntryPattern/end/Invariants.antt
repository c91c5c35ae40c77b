use Rattle.std.proofs.Common.{◌≡◌, ℕ, true, ◌+◌, ◌-◌, ◌/◌, ◌<◌, ◌≤◌, length}
use Rattle.qcow2_bytes.specs.Tables.{has_pattern}
use Rattle.qcow2_bytes.proofs.tables.EntryPattern.end.Given as goal

-- the entries up to this end have the pattern
abbrev pub invariant-loop-end : goal.invariant-loop-end
invariant-loop-end l =
    (l.index < l.end) × (l.end ≤ length l.bytes / 8)
    × ((k : ℕ) → 1 ≤ k → l.index + k < l.end → has_pattern l.self l.bytes l.index k ≡ true)

-- what is left up to the last entry
abbrev pub decreases-loop-end : goal.decreases-loop-end
decreases-loop-end l = length l.bytes - l.end
