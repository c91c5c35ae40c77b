use Rattle.std.proofs.Common.{◌≡◌, ℕ, ◌<◌, None}
use Rattle.qcow2_metadata.specs.Entries.L2Entry.{l2_fault}
use Rattle.qcow2_bytes.specs.Entries.{number_at}
use Rattle.qcow2_bytes.proofs.entries.first_bad.Given as goal

-- the numbers before this one are entries
abbrev pub invariant-loop-index : goal.invariant-loop-index
invariant-loop-index l = (i : ℕ) → i < l.index → l2_fault l.cluster_bits (number_at l.bytes i) ≡ None
