use Rattle.std.proofs.Common.{◌≡◌, ℕ, ◌<◌, ◌≤◌, None, get_or}
use Rattle.qcow2_check.specs.NamedTables.{named_cluster}
use Rattle.qcow2_image.proofs.lookups.next_named.Given as goal

-- no entry before this one names an L2 table
abbrev pub invariant-loop-index : goal.invariant-loop-index
invariant-loop-index l =
    (k : ℕ) → l.first ≤ k → k < l.index → named_cluster l.l1_table.geometry.cluster_bits (get_or l.l1_table.numbers k 0) ≡ None
