-- How are the uses of clusters counted, in memory of a bounded size?
pub mod Cells
use Rattle.std.specs.Prelude.{◌≡◌, ℕ, zero, suc, Bool, ◌==◌, ◌&&◌, ◌||◌, ◌+◌, ◌-◌, ◌/◌, ◌%◌, ◌<◌, ◌≤◌, nat_lt, if◌then◌else◌, List, [], ◌++◌, flat_map, length, slice_index, take, Option, IsSome, unwrap_or}
use Rattle.std.specs.Ordering.{nat_cmp}
use Rattle.std.specs.BTreeMap.{is_at}
use Rattle.std.specs.List.{fold}
use Rattle.std.specs.Map.{lookup}
use Rattle.qcow2_base.specs.Format.{max_file_length}
use Rattle.qcow2_metadata.specs.Entries.{is_among}
use Rattle.qcow2_metadata.specs.declared.entries.ClustersToFreeEntry.{ClustersToFreeEntry}
use Rattle.qcow2_base.specs.declared.types.HostCluster.{HostCluster}
use Rattle.qcow2_check.specs.declared.tally.TallyKind.{TallyKind}
use Rattle.qcow2_check.specs.declared.tally.TallyKind.TheVariants.{Fixed, Guest, L2Table}

-- clusters that have a use of one kind
pub record ClusterUse : Type 0 where
  pub kind : TallyKind
  pub clusters : ClustersToFreeEntry

-- that many clusters from one on, used in this way
abbrev pub used_clusters : TallyKind → HostCluster → ℕ → ClusterUse
used_clusters kind first count =
    record { kind = kind; clusters = record { first = first; count = record { 0 = count } } }

-- the number that marks a kind in a cell
abbrev pub mark_of : TallyKind → ℕ
mark_of Fixed = 1
mark_of L2Table = 2
mark_of Guest = 4

-- a cell counts the uses of a cluster: eight times how many there are, and the marks of their kinds. The cell with one use more
abbrev pub with_use : TallyKind → ℕ → ℕ
with_use kind cell = cell + 8 + (if cell / mark_of kind % 2 == 1 then 0 else mark_of kind)

-- the cell with that many uses of a kind more
abbrev pub with_uses : TallyKind → ℕ → ℕ → ℕ
with_uses kind zero cell = cell
with_uses kind (suc times) cell = with_uses kind times (with_use kind cell)

-- the cell of cluster c with what clusters that are used add to it
abbrev pub cell_with : ℕ → ℕ → ClusterUse → ℕ
cell_with c cell used = if is_among used.clusters c then with_use used.kind cell else cell

-- uses that many times over
abbrev pub repetition : {Used : Type 0} → ℕ → List Used → List Used
repetition zero uses = []
repetition (suc times) uses = uses ++ repetition times uses

-- the cells of the clusters from a first to before an end: those of the first clusters one after another, and those of others
-- by their numbers, of which there is a most
pub record TallyState : Type 0 where
  pub first : ℕ
  pub end : ℕ
  pub dense : List ℕ
  pub sparse : List (ℕ × ℕ)
  pub most : ℕ

-- the cell of cluster c among those that are kept by their numbers, if there is one
abbrev pub sparse_cell : List (ℕ × ℕ) → ℕ → Option ℕ
sparse_cell cells c = lookup (is_at (nat_cmp c)) cells

-- the cell of cluster c
abbrev pub cell_at : TallyState → ℕ → ℕ
cell_at tally c =
    if nat_lt (c - tally.first) (length tally.dense) then slice_index tally.dense (c - tally.first)
    else unwrap_or (sparse_cell tally.sparse c) 0

-- the number after the last of the clusters whose cells stand one after another
abbrev pub dense_end : TallyState → ℕ
dense_end tally = tally.first + length tally.dense

-- a tally of uses: it ends after its dense cells, and has others only there
pub record IsTally (tally : TallyState) : Type 0 where
  pub some : 0 < length tally.dense
  pub end : dense_end tally ≤ tally.end
  pub fits : tally.end ≤ max_file_length
  pub sparse : (c : ℕ) → IsSome (sparse_cell tally.sparse c) → dense_end tally ≤ c

-- a tally that counted these uses too; it may end sooner then
pub record CountsMore (uses : List ClusterUse) (old new : TallyState) : Type 0 where
  pub first : new.first ≡ old.first
  pub end : new.end ≤ old.end
  pub cells : (c : ℕ) → old.first ≤ c → c < new.end → cell_at new c ≡ fold (cell_with c) (cell_at old c) uses

-- a tally that counted these clusters that many times more
pub record CountsTimes (times : ℕ) (used : ClusterUse) (old new : TallyState) : Type 0 where
  pub first : new.first ≡ old.first
  pub end : new.end ≤ old.end
  pub cells : (c : ℕ) → old.first ≤ c → c < new.end →
      cell_at new c ≡ (if is_among used.clusters c then with_uses used.kind times (cell_at old c) else cell_at old c)

-- a tally that counted what the elements of a list before an index use, and then counts what 16 more do
abbrev pub CountsGroup : (ℕ → List ClusterUse) → List ℕ → ℕ → TallyState → TallyState → Type 0
CountsGroup uses numbers index old new = (start : TallyState) → CountsMore (flat_map uses (take index numbers)) start old
    → CountsMore (flat_map uses (take (index + 16) numbers)) start new

-- whether a cell has the mark of a kind
abbrev pub has_mark : TallyKind → ℕ → Bool
has_mark kind cell = cell / mark_of kind % 2 == 1

-- whether a cell counts uses that exclude each other
abbrev pub is_shared_cell : ℕ → Bool
is_shared_cell cell = (has_mark Fixed cell && nat_lt 1 (cell / 8))
    || (has_mark L2Table cell && (has_mark Fixed cell || has_mark Guest cell))

-- a cell counts as many uses as a counter says, all of them by guest data
abbrev pub IsPlain : ℕ → ℕ → Type 0
IsPlain cell counter = (cell / 8 ≡ counter) × (cell % 4 ≡ 0)
