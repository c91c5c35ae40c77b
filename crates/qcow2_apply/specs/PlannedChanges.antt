-- What do edits do to counters, and when can't these count it?

use Rattle.std.specs.Prelude.{◌≡◌, ◌⊎◌, ℕ, true, false, ◌+◌, ◌/◌, ◌^◌, ◌<◌, ◌≤◌, List, slice_index, IsSome, None}
use Rattle.qcow2_base.specs.Storage.{Image}
use Rattle.qcow2_metadata.specs.Header.{HeaderRecord}
use Rattle.qcow2_metadata.specs.Refblock.{greatest_counter}
use Rattle.qcow2_metadata.specs.Table.L2Guards.{handed_back, times_gained}
use Rattle.qcow2_check.specs.Counters.{block_of_cluster, counters_each}
use Rattle.qcow2_apply.specs.CounterTables.{BlockFollows, CounterTablesState, HasCounter, counter_of_cluster}
use Rattle.qcow2_apply.specs.Changes.{AddsChanges, gains_of, losses_of}
use Rattle.qcow2_apply.specs.declared.changes.Changes.{Changes}
use Rattle.qcow2_apply.specs.declared.planned_changes.PlannedChanges.{PlannedChanges}
use Rattle.qcow2_edits.specs.Edits.{cluster_numbers}
use Rattle.qcow2_edits.specs.declared.edits.Outcome.{Outcome}
use Rattle.qcow2_metadata.specs.Entries.{is_among}
use Rattle.qcow2_metadata.specs.declared.entries.ClustersToFreeEntry.{ClustersToFreeEntry}
use Rattle.std.specs.List.{All}

-- cluster c has no counter, or is as far on as 64 bits go
abbrev pub IsUncounted : HeaderRecord → List ℕ → ℕ → Type 0
IsUncounted header reftable c = (block_of_cluster header reftable c ≡ None) ⊎ (2 ^ 64 ≤ c + 1)

-- each of some clusters has a counter, and a number of 64 bits
pub record HaveCounters (header : HeaderRecord) (reftable : List ℕ) (clusters : ClustersToFreeEntry) : Type 0 where
  pub each : (c : ℕ) → is_among clusters c ≡ true → IsSome (block_of_cluster header reftable c)
  pub end : clusters.first.0 + clusters.count.0 < 2 ^ 64

-- some cluster loses a reference by these numbers that has no counter
abbrev pub SomeIsUncounted : HeaderRecord → List ℕ → (ℕ → ℕ) → Type 0
SomeIsUncounted header reftable losses = (c : ℕ) × (0 < losses c) × IsUncounted header reftable c

-- gains and losses are by blocks of that many counters, gains have no losses, and losses no gains
pub record AreSorted (each : ℕ) (gains losses : Changes) : Type 0 where
  pub gains_bits : 2 ^ gains.rb_bits ≡ each
  pub losses_bits : 2 ^ losses.rb_bits ≡ each
  pub no_loss : (c : ℕ) → losses_of gains c ≡ 0
  pub no_gain : (c : ℕ) → gains_of losses c ≡ 0

-- they stay so
abbrev pub StaySorted : PlannedChanges → PlannedChanges → Type 0
StaySorted old new = (each : ℕ) → AreSorted each old.gains old.losses → AreSorted each new.gains new.losses

-- an outcome was added to changes, unless a cluster without a counter lost a reference by it or before
pub record AddsOutcome (header : HeaderRecord) (reftable : List ℕ) (outcome : Outcome) (old new : PlannedChanges) : Type 0 where
  pub counted : new.are_counted ≡ true → old.are_counted ≡ true
  pub gains : new.are_counted ≡ true → AddsChanges (times_gained (cluster_numbers outcome.gained.items)) (λ c. 0) old.gains new.gains
  pub losses : new.are_counted ≡ true → AddsChanges (λ c. 0) (handed_back outcome.freed.items) old.losses new.losses
  pub counters : new.are_counted ≡ true → All (HaveCounters header reftable) outcome.freed.items
  pub uncounted : new.are_counted ≡ false →
      (old.are_counted ≡ false) ⊎ SomeIsUncounted header reftable (handed_back outcome.freed.items)

-- the counter of cluster c can't count what it gains, and then what it loses
abbrev pub CannotCount : CounterTablesState → Changes → Changes → Image → ℕ → Type 0
CannotCount tables gains losses image c = let counter = counter_of_cluster tables image c + gains_of gains c in
    HasCounter tables c × (((0 < gains_of gains c) × (greatest_counter tables.header.base.refcount_order < counter))
    ⊎ (counter < losses_of losses c))

-- the counters of the blocks from an index to before another can count it
abbrev pub CanCount : CounterTablesState → Changes → Changes → ℕ → ℕ → Image → Type 0
CanCount tables gains losses from end image =
    (c : ℕ) → from ≤ c / counters_each tables.header → c / counters_each tables.header < end → CannotCount tables gains losses image c → ⊥

-- the counters of the block at an index followed gains, and then losses, with none too great in between
pub record BlockIsLeft (tables : CounterTablesState) (gains losses : Changes) (index : ℕ) (old new : List ℕ) : Type 0 where
  pub risen : List ℕ
  pub gained : BlockFollows tables gains index old risen
  pub fits : (k : ℕ) → slice_index risen k ≤ greatest_counter tables.header.base.refcount_order
  pub lost : BlockFollows tables losses index risen new
