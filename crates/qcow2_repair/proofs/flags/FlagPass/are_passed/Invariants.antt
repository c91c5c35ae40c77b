use Rattle.std.proofs.Common.{◌≡◌, ℕ, ◌+◌, ◌<◌, IsTrue, slice_index}
use Rattle.qcow2_repair.specs.Flags.{pass_by, passed_l2}
use Rattle.qcow2_repair.proofs.flags.FlagPass.are_passed.Given as goal

-- the entries before this one stay, where it says so
abbrev pub invariant-loop-k : goal.invariant-loop-k
invariant-loop-k l = IsTrue l.passed → (k : ℕ) → k < l.k →
    passed_l2 (pass_by l.self) (slice_index l.table.numbers (l.first + k)) ≡ slice_index l.table.numbers (l.first + k)
