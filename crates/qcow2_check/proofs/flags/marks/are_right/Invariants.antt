use Rattle.std.proofs.Common.{◌≡◌, ℕ, ◌+◌, ◌<◌, false, IsTrue, slice_index}
use Rattle.qcow2_check.specs.Flags.{HasNoFlag}
use Rattle.qcow2_check.proofs.flags.marks.are_right.Given as goal

-- none of the entries before this one has a wrong flag, as far as all were right
abbrev pub invariant-loop-k : goal.invariant-loop-k
invariant-loop-k l = IsTrue l.right → l.table.geometry.external_data_file ≡ false
    → (j : ℕ) → j < l.k → HasNoFlag l.table.geometry l.soles (slice_index l.table.numbers (l.first + j))
