-- Which L2 tables do edits of a disk need, and which is the first that isn't there?
use Rattle.std.specs.Prelude.{◌≡◌, ℕ, Bool, true, false, not, ◌&&◌, ◌<◌, ◌≤◌, List, slice_index, None}
use Rattle.std.specs.List.{list_any}
use Rattle.qcow2_check.specs.NamedTables.{named_cluster}
use Rattle.qcow2_metadata.specs.Header.{HeaderRecord}
use Rattle.qcow2_apply.specs.GuestEdits.{ends_after, has_clusters_in, is_discard}
use Rattle.qcow2_apply.specs.declared.guest_edits.GuestEdit.{GuestEdit}

-- whether edits need the table of the L1 entry at an index
abbrev pub is_table_needed : ℕ → List GuestEdit → ℕ → Bool
is_table_needed cb edits index = list_any (λ edit. has_clusters_in cb index edit && not (is_discard edit)) edits

-- whether edits need more L1 entries than that many
abbrev pub are_more_needed : ℕ → List GuestEdit → ℕ → Bool
are_more_needed cb edits entries = list_any (λ edit. ends_after cb entries edit && not (is_discard edit)) edits

-- the first index before an end of an L1 entry that names no table which is needed; the end, where there is none
pub record IsFirstMissing (header : HeaderRecord) (l1 : List ℕ) (is_needed : ℕ → Bool) (end first : ℕ) : Type 0 where
  pub within : first ≤ end
  pub earlier : (i : ℕ) → i < first → named_cluster header.v2.cluster_bits (slice_index l1 i) ≡ None → is_needed i ≡ false
  pub here : first < end → (named_cluster header.v2.cluster_bits (slice_index l1 first) ≡ None) × (is_needed first ≡ true)
