use Rattle.std.proofs.Common.{◌≡◌, ◌↔◌, ℕ, true, ◌+◌, ◌-◌, ◌*◌, ◌<◌, ◌≤◌, IsTrue}
use Rattle.qcow2_bytes.specs.Tables.{has_pattern}
use Rattle.qcow2_bytes.proofs.tables.EntryPattern.all_have.Given as goal

-- the value has grown by a step for each entry, and all tests held just where each of them has the pattern
abbrev pub invariant-loop-next : goal.invariant-loop-next
invariant-loop-next l =
    (l.expected ≡ l.self.value + (l.next - l.index) * l.self.step)
    × (IsTrue l.all ↔ ((k : ℕ) → l.first ≤ l.index + k → l.index + k < l.next → has_pattern l.self l.bytes l.index k ≡ true))
