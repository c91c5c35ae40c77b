-- What does a change of an L2 table's entries do to the entries, and to references to clusters?
use Rattle.std.specs.Prelude.{◌≡◌, ℕ, Bool, true, false, not, ◌&&◌, ◌==◌, ◌+◌, ◌*◌, ◌^◌, List, [], ◌∷◌, ◌++◌, slice_index, slice_set, if◌then◌else◌, Option, Some, None, option_to_list, nat_le}
use Rattle.std.specs.Borrow.{MutBor}
use Rattle.std.specs.Int.NonZero.{non_zero_u64_get}
use Rattle.std.specs.List.{sum_by}
use Rattle.qcow2_base.specs.Format.{max_offset}
use Rattle.qcow2_metadata.specs.Entries.L2Entry.{IsAllocation, Meets, allocation, has_host_cluster, meets, with_zero_flag}
use Rattle.qcow2_metadata.specs.Entries.L2Mapping.{data_file, entry_of}
use Rattle.qcow2_metadata.specs.Entries.{is_among}
use Rattle.qcow2_metadata.specs.Header.{Geometry}
use Rattle.qcow2_metadata.specs.Placed.{with_number}
use Rattle.qcow2_metadata.specs.Table.{TableState}
use Rattle.qcow2_metadata.specs.declared.entries.ClustersToFreeEntry.{ClustersToFreeEntry}
use Rattle.qcow2_metadata.specs.declared.table.l2_guards.L2TableWriteGuard.{L2TableWriteGuard}
use Rattle.qcow2_metadata.specs.declared.table.l2_guards.CompressedClusterReadGuard.{CompressedClusterReadGuard}

-- the table that a guard has permission to change
abbrev pub guarded_table : L2TableWriteGuard → TableState
guarded_table guard = guard.table.now

-- two guards of one table
abbrev pub IsSameTable : L2TableWriteGuard → L2TableWriteGuard → Type 0
IsSameTable old new = new.table.ghost_name ≡ old.table.ghost_name

-- a guard that begins with a table as it is lent, and ends with what the table is afterwards
pub record IsTableGuard (lent : MutBor TableState) (guard : L2TableWriteGuard) : Type 0 where
  pub table : guarded_table guard ≡ lent.now
  pub same : guard.table.ghost_name ≡ lent.ghost_name

-- where the data that a guard keeps begins, and how many bytes it takes at most
abbrev pub guarded_range : CompressedClusterReadGuard → ℕ × ℕ
guarded_range guard = (guard.offset.0, non_zero_u64_get guard.length)

-- a change of an L2 entry: to data in a host cluster, to zeros, which may keep its cluster, or to nothing
pub data EntryEdit : Type 0 where
  to_data : (cluster : ℕ) → EntryEdit
  to_zeros : (keep : Bool) → EntryEdit
  to_nothing : EntryEdit

-- the entry after the change: one that maps to a host cluster says that it has no other reference
abbrev pub entry_after : Geometry → EntryEdit → ℕ → ℕ
entry_after g (to_data cluster) v = entry_of g.cluster_bits (data_file cluster true)
entry_after g (to_zeros keep) v = if keep && has_host_cluster g v then with_zero_flag v else 1
entry_after g to_nothing v = 0

-- whether these clusters are just the one
abbrev pub is_just : ℕ → Option ClustersToFreeEntry → Bool
is_just cluster None = false
is_just cluster (Some clusters) = clusters.first.0 == cluster && clusters.count.0 == 1

-- whether the entry goes on referring to all that it refers to
abbrev pub keeps_clusters : Geometry → EntryEdit → ℕ → Bool
keeps_clusters g (to_data cluster) v = is_just cluster (allocation g v)
keeps_clusters g (to_zeros keep) v = keep && has_host_cluster g v
keeps_clusters g to_nothing v = false

-- the host clusters that the change hands back: all that the entry referred to, unless it goes on doing so
abbrev pub clusters_freed_by : Geometry → EntryEdit → ℕ → Option ClustersToFreeEntry
clusters_freed_by g edit v = if keeps_clusters g edit v then None else allocation g v

-- the host cluster that gains a reference, if one does
abbrev pub cluster_gained_by : Geometry → EntryEdit → ℕ → Option ℕ
cluster_gained_by g (to_data cluster) v = if keeps_clusters g (to_data cluster) v then None else Some cluster
cluster_gained_by g (to_zeros keep) v = None
cluster_gained_by g to_nothing v = None

-- one, where the test holds
abbrev pub one_if : Bool → ℕ
one_if test = if test then 1 else 0

-- how many of the entries refer to a cluster
abbrev pub references : Geometry → List ℕ → ℕ → ℕ
references g numbers cluster = sum_by (λ v. one_if (meets g v cluster)) numbers

-- how many references to a cluster are handed back
abbrev pub handed_back : List ClustersToFreeEntry → ℕ → ℕ
handed_back freed cluster = sum_by (λ clusters. one_if (is_among clusters cluster)) freed

-- how many references a cluster gains
abbrev pub times_gained : List ℕ → ℕ → ℕ
times_gained clusters cluster = sum_by (λ c. one_if (c == cluster)) clusters

-- a change of the entry at an index
pub record TableEdit : Type 0 where
  pub index : ℕ
  pub edit : EntryEdit

-- what edits leave: the table's numbers, and in order what was handed back and what gained a reference
pub record RunEnd : Type 0 where
  pub numbers : List ℕ
  pub freed : List ClustersToFreeEntry
  pub gained : List ℕ

-- the numbers after one edit
abbrev pub after_edit : Geometry → TableEdit → List ℕ → List ℕ
after_edit g e numbers = slice_set numbers e.index (entry_after g e.edit (slice_index numbers e.index))

-- what edits leave of a table, one after the other
abbrev pub run_of : Geometry → List TableEdit → List ℕ → RunEnd
run_of g [] numbers = record { numbers = numbers; freed = []; gained = [] }
run_of g (e ∷ edits) numbers =
    let v = slice_index numbers e.index in
    let rest = run_of g edits (after_edit g e numbers) in
    record {
      numbers = rest.numbers;
      freed = option_to_list (clusters_freed_by g e.edit v) ++ rest.freed;
      gained = option_to_list (cluster_gained_by g e.edit v) ++ rest.gained;
    }

-- whether an entry can hold a host cluster's offset, and it isn't the header's, but in an external data file
abbrev pub is_mappable : Geometry → ℕ → Bool
is_mappable g cluster =
    nat_le (cluster * 2 ^ g.cluster_bits) max_offset
    && (if g.external_data_file then true else not (cluster == 0))

-- whether a change can be made: the host cluster that it maps to, if it does, can be mapped to
abbrev pub can_be_made : Geometry → EntryEdit → Bool
can_be_made g (to_data cluster) = is_mappable g cluster
can_be_made g (to_zeros keep) = true
can_be_made g to_nothing = true

-- whether an edit can be made of a table with that many entries
abbrev pub fits_table : Geometry → ℕ → TableEdit → Bool
fits_table g entries e = nat_le (e.index + 1) entries && can_be_made g e.edit

-- a change of the entry at an index of a table, which handed these clusters back: all that the entry referred to,
-- unless it goes on doing so
pub record MakesEdit (edit : EntryEdit) (index : ℕ) (freed : Option ClustersToFreeEntry) (old new : TableState) : Type 0 where
  pub table : new ≡ with_number old index (entry_after old.geometry edit (slice_index old.numbers index))
  pub freed_is : freed ≡ clusters_freed_by old.geometry edit (slice_index old.numbers index)

-- the entry refers to this cluster and to no other
abbrev pub MeetsJust : Geometry → ℕ → ℕ → Type 0
MeetsJust g v cluster = Meets g v cluster × ((c : ℕ) → Meets g v c → c ≡ cluster)

-- what an entry gives up when it is mapped to a cluster: nothing where it refers to that one alone, and else all that it
-- refers to
pub record GivesUp (g : Geometry) (v cluster : ℕ) (freed : Option ClustersToFreeEntry) : Type 0 where
  pub same : MeetsJust g v cluster → freed ≡ None
  pub others : (MeetsJust g v cluster → ⊥) → IsAllocation g v freed
