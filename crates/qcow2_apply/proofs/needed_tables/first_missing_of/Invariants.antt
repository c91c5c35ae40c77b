use Rattle.std.proofs.Common.{◌≡◌, ℕ, ◌<◌, None, false, slice_index}
use Rattle.qcow2_check.specs.NamedTables.{named_cluster}
use Rattle.qcow2_apply.specs.GuestEdits.{has_clusters_in}
use Rattle.qcow2_apply.proofs.needed_tables.first_missing_of.Given as goal

-- the entries before this one name the tables of the edit
abbrev pub invariant-loop-index : goal.invariant-loop-index
invariant-loop-index l = (i : ℕ) → i < l.index → named_cluster l.header.v2.cluster_bits (slice_index l.l1_table.numbers i) ≡ None
    → has_clusters_in l.header.v2.cluster_bits i l.edit ≡ false
