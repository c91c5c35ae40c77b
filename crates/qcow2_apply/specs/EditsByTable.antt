-- Which edits of a disk are of which L2 table?
use Rattle.std.specs.Prelude.{◌≡◌, ℕ, Bool, false, List, [], ◌∷◌, ◌++◌, if◌then◌else◌, length, slice_get, slice_index, IsSome, Option, None, Some}
use Rattle.std.specs.BTreeMap.{get}
use Rattle.std.specs.List.{filter, range_with_len}
use Rattle.std.specs.Ordering.{nat_cmp}
use Rattle.qcow2_check.specs.NamedTables.{named_cluster}
use Rattle.qcow2_metadata.specs.Header.{HeaderRecord}
use Rattle.qcow2_apply.specs.GuestEdits.{has_clusters_in}
use Rattle.qcow2_apply.specs.declared.edits_by_table.EditsByTable.{EditsByTable}
use Rattle.qcow2_apply.specs.declared.guest_edits.GuestEdit.{GuestEdit}

-- whether there is an edit, and it has guest clusters in the L2 table of the L1 entry at an index
abbrev pub is_one_in : ℕ → ℕ → Option GuestEdit → Bool
is_one_in cb l1_index None = false
is_one_in cb l1_index (Some edit) = has_clusters_in cb l1_index edit

-- whether the one at a position has
abbrev pub is_of_table : ℕ → ℕ → List GuestEdit → ℕ → Bool
is_of_table cb l1_index edits at = is_one_in cb l1_index (slice_get edits at)

-- the positions of those that have
abbrev pub positions_in : ℕ → ℕ → List GuestEdit → List ℕ
positions_in cb l1_index edits = filter (is_of_table cb l1_index edits) (range_with_len 0 (length edits))

-- the positions that are kept for a table
abbrev pub kept_positions : EditsByTable → ℕ → List ℕ
kept_positions by_table l1_index = elim (get nat_cmp by_table.positions l1_index) [
  | None ↦ []
  | Some list ↦ list.items
]

-- the tables that an L1 table names have the positions of their edits
abbrev pub IsByTable : HeaderRecord → List ℕ → List GuestEdit → EditsByTable → Type 0
IsByTable header l1 edits by_table = let cb = header.v2.cluster_bits in
    (i : ℕ) → IsSome (named_cluster cb (slice_index l1 i)) → kept_positions by_table i ≡ positions_in cb i edits

-- the position of an edit was kept for the tables that it is of and an L1 table names
abbrev pub AddsEdit : HeaderRecord → List ℕ → ℕ → GuestEdit → EditsByTable → EditsByTable → Type 0
AddsEdit header l1 position edit old new = let cb = header.v2.cluster_bits in (i : ℕ) → IsSome (named_cluster cb (slice_index l1 i)) →
    kept_positions new i ≡ kept_positions old i ++ (if has_clusters_in cb i edit then position ∷ [] else [])
