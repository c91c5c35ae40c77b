-- What becomes of the clusters that edits of a disk give references, or take them from?
use Rattle.std.specs.Prelude.{◌≡◌, ◌/◌, ◌<◌, nat_lt, is_some, ℕ, Bool, false, not, ◌&&◌, ◌==◌, ◌+◌, ◌-◌, ◌^◌, List, [], ◌∷◌, ◌++◌, length, map, min, slice_index}
use Rattle.std.specs.List.{flat_map, sum_by}
use Rattle.std.specs.List.Sorted.{IsStrictlyIncreasing}
use Rattle.qcow2_base.specs.Format.{max_file_length}
use Rattle.qcow2_base.specs.Storage.{Image}
use Rattle.qcow2_edits.specs.Edits.{cluster_numbers}
use Rattle.qcow2_edits.specs.Settled.{is_between}
use Rattle.qcow2_metadata.specs.Table.L2Guards.{handed_back, one_if, times_gained}
use Rattle.qcow2_metadata.specs.declared.entries.ClustersToFreeEntry.{ClustersToFreeEntry}
use Rattle.qcow2_check.specs.Counters.{block_of_cluster, counters_each}
use Rattle.qcow2_apply.specs.CounterTables.{CounterTablesState, counter_of_cluster}
use Rattle.qcow2_apply.specs.Changes.{gains_of, losses_of}
use Rattle.qcow2_apply.specs.declared.changes.Changes.{Changes}
use Rattle.qcow2_apply.specs.declared.changed_clusters.ChangedClusters.{ChangedClusters}
use Rattle.qcow2_apply.specs.declared.changed_clusters.KeptCluster.{KeptCluster}

-- whether a counter lost something and is 0 then, or n, which isn't 0
abbrev pub is_freed : ℕ → ℕ → Bool
is_freed risen after = not (after == risen) && after == 0

abbrev pub is_kept_at : ℕ → ℕ → ℕ → Bool
is_kept_at n risen after = not (after == risen) && not (after == 0) && after == n

-- how often cluster c is listed with counter n
abbrev pub times_kept : List KeptCluster → ℕ → ℕ → ℕ
times_kept list n c = sum_by (λ (kept : KeptCluster). one_if (kept.cluster.0 == c && kept.counter == n)) list

-- more clusters were listed: those that are freed, kept with counter n, and gained
pub record ListsMore (freed : ℕ → Bool) (kept : ℕ → ℕ → Bool) (gained : ℕ → Bool) (old new : ChangedClusters) : Type 0 where
  pub freed_is : (c : ℕ) → handed_back new.freed.items c ≡ handed_back old.freed.items c + one_if (freed c)
  pub kept_is : (n c : ℕ) → times_kept new.kept.items n c ≡ times_kept old.kept.items n c + one_if (kept n c)
  pub gained_is : (c : ℕ) → times_gained (cluster_numbers new.gained.items) c ≡ times_gained (cluster_numbers old.gained.items) c + one_if (gained c)

-- a cluster was, by its counter
abbrev pub ListsCounter : ℕ → ℕ → ℕ → ℕ → ChangedClusters → ChangedClusters → Type 0
ListsCounter cluster before risen after = ListsMore (λ c. cluster == c && is_freed risen after) (λ n c. cluster == c && is_kept_at n risen after)
    (λ c. cluster == c && not (risen == before))

-- that many from one on were, by their counters
abbrev pub ListsCounters : ℕ → ℕ → List ℕ → List ℕ → List ℕ → ChangedClusters → ChangedClusters → Type 0
ListsCounters first count before risen after = ListsMore
    (λ c. is_between first (first + count) c && is_freed (slice_index risen (c - first)) (slice_index after (c - first)))
    (λ n c. is_between first (first + count) c && is_kept_at n (slice_index risen (c - first)) (slice_index after (c - first)))
    (λ c. is_between first (first + count) c && not (slice_index risen (c - first) == slice_index before (c - first)))

-- the clusters from one to before another were, as freed
abbrev pub ListsFreed : ℕ → ℕ → ChangedClusters → ChangedClusters → Type 0
ListsFreed first end = ListsMore (is_between first end) (λ n c. false) (λ c. false)

-- the bounds of ranges of clusters: of each the first cluster, and the one after the last
abbrev pub bounds_of : List ClustersToFreeEntry → List ℕ
bounds_of ranges = flat_map (λ (range : ClustersToFreeEntry). (range.first.0) ∷ ((range.first.0 + range.count.0) ∷ [])) ranges

-- the clusters that are kept, without their counters
abbrev pub kept_clusters : List KeptCluster → List ℕ
kept_clusters list = map (λ (kept : KeptCluster). kept.cluster.0) list

-- lists are in order: bounds ascend, so no range is empty or could be joined with the next, and clusters ascend
pub record AreInOrder (clusters : ChangedClusters) : Type 0 where
  pub freed : IsStrictlyIncreasing (bounds_of clusters.freed.items)
  pub kept : IsStrictlyIncreasing (kept_clusters clusters.kept.items)
  pub gained : IsStrictlyIncreasing (cluster_numbers clusters.gained.items)

-- numbers ascend, and n is greater than all
abbrev pub AscendTo : ℕ → List ℕ → Type 0
AscendTo n list = IsStrictlyIncreasing (list ++ n ∷ [])

-- lists are in order, and what they list ends by cluster c
pub record EndInOrder (c : ℕ) (clusters : ChangedClusters) : Type 0 where
  pub freed : AscendTo (c + 1) (bounds_of clusters.freed.items)
  pub kept : AscendTo c (kept_clusters clusters.kept.items)
  pub gained : AscendTo c (cluster_numbers clusters.gained.items)

-- where lists were in order and ended by one cluster, they are, and end by another
abbrev pub StayInOrder : ℕ → ℕ → ChangedClusters → ChangedClusters → Type 0
StayInOrder from to old new = EndInOrder from old → EndInOrder to new

-- where ranges were in order and ended by the first cluster of one more, which isn't empty and ends before 2^64, they are in order
-- with its clusters, and end by its end
abbrev pub AppendsInOrder : ClustersToFreeEntry → List ClustersToFreeEntry → List ClustersToFreeEntry → Type 0
AppendsInOrder range old new = 0 < range.count.0 → range.first.0 + range.count.0 < 2 ^ 64 → AscendTo (range.first.0 + 1) (bounds_of old)
    → AscendTo (range.first.0 + range.count.0 + 1) (bounds_of new)

-- lists of as many counters
abbrev pub HaveSameCount : List ℕ → List ℕ → List ℕ → Type 0
HaveSameCount before risen after = (length risen ≡ length before) × (length after ≡ length before)

-- the counter of cluster c when it has followed what the cluster gains, and then what it loses
abbrev pub risen_counter : CounterTablesState → Changes → Image → ℕ → ℕ
risen_counter tables gains image c = counter_of_cluster tables image c + gains_of gains c

abbrev pub counter_left : CounterTablesState → Changes → Changes → Image → ℕ → ℕ
counter_left tables gains losses image c = risen_counter tables gains image c - losses_of losses c

-- whether cluster c is free when its counter has followed changes, whether that is n, and whether it gained something
abbrev pub becomes_free : CounterTablesState → Changes → Changes → Image → ℕ → Bool
becomes_free tables gains losses image c = is_freed (risen_counter tables gains image c) (counter_left tables gains losses image c)

abbrev pub stays_at : CounterTablesState → Changes → Changes → Image → ℕ → ℕ → Bool
stays_at tables gains losses image n c = is_kept_at n (risen_counter tables gains image c) (counter_left tables gains losses image c)

abbrev pub gains_some : CounterTablesState → Changes → Image → ℕ → Bool
gains_some tables gains image c = not (risen_counter tables gains image c == counter_of_cluster tables image c)

-- whether cluster c has a counter
abbrev pub has_counter : CounterTablesState → ℕ → Bool
has_counter tables c = is_some (block_of_cluster tables.header tables.reftable c)

-- the clusters were listed that have their counters in the block at an index of the refcount table
abbrev pub ListsBlock : CounterTablesState → Changes → Changes → ℕ → Image → ChangedClusters → ChangedClusters → Type 0
ListsBlock tables gains losses index image = let counted = λ (c : ℕ). c / counters_each tables.header == index && has_counter tables c in
    ListsMore (λ c. counted c && becomes_free tables gains losses image c) (λ n c. counted c && stays_at tables gains losses image n c)
    (λ c. counted c && gains_some tables gains image c)

-- the clusters are listed, each once, that have their counters in a block before an index: those that become free, those that stay
-- at counter n, and those that gain something
pub record HasListed (tables : CounterTablesState) (gains losses : Changes) (end : ℕ) (image : Image) (clusters : ChangedClusters) : Type 0 where
  pub freed_is : (c : ℕ) → handed_back clusters.freed.items c
      ≡ one_if ((nat_lt (c / counters_each tables.header) end && has_counter tables c) && becomes_free tables gains losses image c)
  pub kept_is : (n c : ℕ) → times_kept clusters.kept.items n c
      ≡ one_if ((nat_lt (c / counters_each tables.header) end && has_counter tables c) && stays_at tables gains losses image n c)
  pub gained_is : (c : ℕ) → times_gained (cluster_numbers clusters.gained.items) c
      ≡ one_if ((nat_lt (c / counters_each tables.header) end && has_counter tables c) && gains_some tables gains image c)

-- how many entries of the refcount table are for clusters below 2^56
abbrev pub listed_blocks : CounterTablesState → ℕ
listed_blocks tables = min (length tables.reftable) (max_file_length / counters_each tables.header)

-- whether cluster c is one of those that may be listed: it is below 2^56, and has a counter
abbrev pub is_listable : CounterTablesState → ℕ → Bool
is_listable tables c = nat_lt c max_file_length && has_counter tables c

-- of all clusters below 2^56 that have a counter those are listed, each once, that become free, that stay at counter n, and that
-- gain something. No others are, and the lists are in order
pub record ListsChanges (tables : CounterTablesState) (gains losses : Changes) (image : Image) (clusters : ChangedClusters) : Type 0 where
  pub freed_is : (c : ℕ) → handed_back clusters.freed.items c ≡ one_if (is_listable tables c && becomes_free tables gains losses image c)
  pub kept_is : (n c : ℕ) → times_kept clusters.kept.items n c ≡ one_if (is_listable tables c && stays_at tables gains losses image n c)
  pub gained_is : (c : ℕ) → times_gained (cluster_numbers clusters.gained.items) c
      ≡ one_if (is_listable tables c && gains_some tables gains image c)
  pub order : AreInOrder clusters
