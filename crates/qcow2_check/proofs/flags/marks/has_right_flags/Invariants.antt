use Rattle.std.proofs.Common.{◌≡◌, ℕ, ◌-◌, ◌≤◌, length}
use Rattle.qcow2_check.specs.Flags.{l2_flags_from}
use Rattle.qcow2_check.specs.Soles.{AreSoles}
use Rattle.qcow2_check.proofs.flags.marks.has_right_flags.Given as goal

-- all wrong flags of the table are those from this entry on
abbrev pub invariant-loop-index : goal.invariant-loop-index
invariant-loop-index l = record {
  within : l.index ≤ length l.table.numbers;
  left : (counter : ℕ → ℕ) (l1_index : ℕ) → AreSoles counter l.soles
      → l2_flags_from l.table.geometry counter l1_index l.table.numbers 0 ≡ l2_flags_from l.table.geometry counter l1_index l.table.numbers l.index;
}

abbrev pub decreases-loop-index : goal.decreases-loop-index
decreases-loop-index l = length l.table.numbers - l.index
