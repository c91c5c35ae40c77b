use Rattle.std.proofs.Common.{◌≡◌, ◌↔◌, ℕ, ◌<◌, IsTrue, None}
use Rattle.qcow2_metadata.specs.Entries.L2Entry.{l2_fault}
use Rattle.qcow2_bytes.specs.Entries.{number_at}
use Rattle.qcow2_bytes.proofs.entries.are_entries.Given as goal

-- all tests held just where the numbers before this one are entries
abbrev pub invariant-loop-index : goal.invariant-loop-index
invariant-loop-index l = IsTrue l.all ↔ ((i : ℕ) → i < l.index → l2_fault l.cluster_bits (number_at l.bytes i) ≡ None)
