use Rattle.std.proofs.Common.{◌≡◌, ℕ, true, ◌+◌, ◌-◌, ◌*◌, ◌<◌, ◌≤◌}
use Rattle.qcow2_bytes.specs.Tables.{has_pattern}
use Rattle.qcow2_bytes.proofs.tables.EntryPattern.end_before.Given as goal

-- the value has grown by a step for each entry, and those before this one have the pattern
abbrev pub invariant-loop-next : goal.invariant-loop-next
invariant-loop-next l =
    (l.expected ≡ l.self.value + (l.next - l.index) * l.self.step)
    × ((k : ℕ) → 1 ≤ k → l.index + k < l.next → has_pattern l.self l.bytes l.index k ≡ true)
