-- How do a block's counters follow what edits of an L2 table did to references, and when can't they?
use Rattle.std.specs.Prelude.{◌≡◌, ◌⊎◌, ◌↔◌, ℕ, Bool, true, ◌+◌, ◌-◌, ◌*◌, ◌<◌, ◌≤◌, ◌&&◌, ◌||◌, nat_le, nat_lt, length, map, slice_index, List, Option, Some, option_map, Result, Ok, Err, if◌then◌else◌}
use Rattle.std.specs.List.{list_any, range_with_len, sum_by}
use Rattle.qcow2_base.specs.declared.fault.Fault.{Fault}
use Rattle.qcow2_base.specs.declared.fault.Fault.TheVariants.{BadEdit, CounterRange, ExternalData}
use Rattle.qcow2_base.specs.declared.types.HostCluster.{HostCluster}
use Rattle.qcow2_edits.specs.Edits.{first_unfit_edit, table_left, cluster_numbers, table_edit}
use Rattle.qcow2_edits.specs.declared.edits.Edit.{Edit}
use Rattle.qcow2_edits.specs.declared.edits.Outcome.{Outcome}
use Rattle.qcow2_edits.specs.declared.settled.Direction.{Direction}
use Rattle.qcow2_edits.specs.declared.settled.Direction.TheVariants.{Down, Up}
use Rattle.qcow2_metadata.specs.Results.{result_map, unless_refused}
use Rattle.qcow2_metadata.specs.Table.L2Guards.{handed_back, one_if, references, run_of, times_gained}
use Rattle.qcow2_metadata.specs.Entries.{is_among}
use Rattle.qcow2_metadata.specs.Header.{HeaderRecord, uses_external_data}
use Rattle.qcow2_metadata.specs.Refblock.{BlockState, block_entries, greatest_counter}
use Rattle.qcow2_metadata.specs.Refblock.Guard.{Decrement, Increment, CounterChange}
use Rattle.qcow2_metadata.specs.Table.{TableState}
use Rattle.qcow2_metadata.specs.declared.entries.ClustersToFreeEntry.{ClustersToFreeEntry}

-- the cluster that the first counter of a block is for, by the block's index in the refcount table
abbrev pub first_counted : BlockState → ℕ → ℕ
first_counted block rt_index = rt_index * block_entries block.geometry.cluster_bits block.geometry.refcount_order

-- whether the counter at an index can't count all that its cluster gained, and then all that it lost
abbrev pub cannot_settle : BlockState → ℕ → List ClustersToFreeEntry → List ℕ → ℕ → Bool
cannot_settle block first freed gained index =
    let most = slice_index block.numbers index + times_gained gained (first + index) in
    nat_lt (greatest_counter block.geometry.refcount_order) most || nat_lt most (handed_back freed (first + index))

-- the block whose counters counted what their clusters gained and lost; it counts as modified where there is such a cluster
abbrev pub settled_block : BlockState → ℕ → List ClustersToFreeEntry → List ℕ → BlockState
settled_block block first freed gained =
    let indices = range_with_len 0 (length block.numbers) in
    let gains = λ (index : ℕ). times_gained gained (first + index) in
    let losses = λ (index : ℕ). handed_back freed (first + index) in record block {
      numbers = map (λ index. slice_index block.numbers index + gains index - losses index) indices;
      modified = list_any (λ index. nat_lt 0 (gains index + losses index)) indices || block.modified;
    }

-- that block, or the refusal of a counter that can't count its cluster's references
abbrev pub block_or_refusal : BlockState → ℕ → List ClustersToFreeEntry → List ℕ → Result BlockState Fault
block_or_refusal block first freed gained =
    if list_any (cannot_settle block first freed gained) (range_with_len 0 (length block.numbers)) then Err CounterRange
    else Ok (settled_block block first freed gained)

-- a block that was settled: each counter, with what its cluster lost, is the one before, with what it gained. The block
-- counts as modified where it did, and where one of its clusters gained or lost a reference. All else stays
pub record Settles (first : ℕ) (outcome : Outcome) (old new : BlockState) : Type 0 where
  pub counters : (index : ℕ) → index < length old.numbers →
      slice_index new.numbers index + handed_back outcome.freed.items (first + index)
      ≡ slice_index old.numbers index + times_gained (cluster_numbers outcome.gained.items) (first + index)
  pub entries : length new.numbers ≡ length old.numbers
  pub flag : (new.modified ≡ true) ↔ ((old.modified ≡ true) ⊎ ((index : ℕ) × (index < length old.numbers)
      × (0 < times_gained (cluster_numbers outcome.gained.items) (first + index) + handed_back outcome.freed.items (first + index))))
  pub others : new ≡ record old { numbers = new.numbers; modified = new.modified }

-- the fault that comes before all others: there is an external data file, or an edit doesn't fit
abbrev pub first_refusal : HeaderRecord → TableState → List Edit → Option Fault
first_refusal header table edits =
    if uses_external_data header then Some ExternalData else option_map BadEdit (first_unfit_edit table edits)

-- what edits leave of a table, and of a block that counts what they do to references, and what that is: the clusters that
-- lose one, and the numbers of those that gain one. Or the refusal
abbrev pub settled_edits_or_refusal : HeaderRecord → TableState → BlockState → ℕ → List Edit → Result (TableState × BlockState × List ClustersToFreeEntry × List ℕ) Fault
settled_edits_or_refusal header table block rt_index edits =
    let end = run_of table.geometry (map table_edit edits) table.numbers in
    unless_refused (first_refusal header table edits)
    (result_map (λ settled. (table_left edits table end.numbers, settled, end.freed, end.gained))
    (block_or_refusal block (first_counted block rt_index) end.freed end.gained))

-- each counter of the block is at least the table's references to its cluster
abbrev pub CoversReferences : ℕ → BlockState → TableState → Type 0
CoversReferences first block table = (index : ℕ) → index < length block.numbers →
    references table.geometry table.numbers (first + index) ≤ slice_index block.numbers index

-- the parts of settling: counters go up, or they go down

-- the change of a counter that goes in a direction
abbrev pub change_in : Direction → CounterChange
change_in Up = Increment
change_in Down = Decrement

-- a counter that was changed that many times
abbrev pub IsChangedBy : CounterChange → ℕ → ℕ → ℕ → Type 0
IsChangedBy Increment by old new = new ≡ old + by
IsChangedBy Decrement by old new = new + by ≡ old

-- a block whose counters were changed, each its number of times; its flag is any
pub record ChangesCounters (change : CounterChange) (by : ℕ → ℕ) (old new : BlockState) : Type 0 where
  pub counters : (index : ℕ) → index < length old.numbers →
      IsChangedBy change (by index) (slice_index old.numbers index) (slice_index new.numbers index)
  pub entries : length new.numbers ≡ length old.numbers
  pub others : new ≡ record old { numbers = new.numbers; modified = new.modified }

-- the same, and the block counts as modified where it did, and where a counter was changed
pub record ChangesBlock (change : CounterChange) (by : ℕ → ℕ) (old new : BlockState) : Type 0 where
  pub counters : ChangesCounters change by old new
  pub flag : (new.modified ≡ true) ↔ ((old.modified ≡ true) ⊎ ((index : ℕ) × (index < length old.numbers) × (0 < by index)))

-- some counter can't be changed its number of times: it would pass the greatest number, or 0
abbrev pub SomeLeavesRange : CounterChange → (ℕ → ℕ) → BlockState → Type 0
SomeLeavesRange Increment by block = (index : ℕ) × (index < length block.numbers)
    × (greatest_counter block.geometry.refcount_order < slice_index block.numbers index + by index)
SomeLeavesRange Decrement by block = (index : ℕ) × (index < length block.numbers) × (slice_index block.numbers index < by index)

-- whether the index is one of those from a start to before an end
abbrev pub is_between : ℕ → ℕ → ℕ → Bool
is_between start end index = nat_le start index && nat_lt index end

-- the block is as before, but perhaps its flag
abbrev pub IsSameButFlag : BlockState → BlockState → Type 0
IsSameButFlag old new = new ≡ record old { modified = new.modified }

-- a cluster as a range of one
abbrev pub range_of_one : HostCluster → ClustersToFreeEntry
range_of_one cluster = record { first = cluster; count = record { 0 = 1 } }

-- how many items of a list have the cluster of the counter at an index among theirs
abbrev pub times_counted : {C : Type 0} → (C → ClustersToFreeEntry) → List C → ℕ → ℕ → ℕ
times_counted clusters list first index = sum_by (λ item. one_if (is_among (clusters item) (first + index))) list
