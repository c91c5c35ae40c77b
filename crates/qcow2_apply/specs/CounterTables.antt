-- What do counters say that follow changes, block by block?
use Rattle.std.specs.Prelude.{◌≡◌, ◌⊎◌, ℕ, ◌+◌, ◌*◌, ◌^◌, ◌<◌, List, length, slice_index, Some, IsSome}
use Rattle.qcow2_base.specs.Storage.{Image}
use Rattle.qcow2_base.specs.declared.types.HostCluster.{HostCluster}
use Rattle.qcow2_metadata.specs.Header.{HeaderRecord}
use Rattle.qcow2_metadata.specs.Placed.{numbers_at}
use Rattle.qcow2_metadata.specs.Refblock.{BlockState, block_geometry_of, block_layout, greatest_counter}
use Rattle.qcow2_check.specs.Counters.{block_of_cluster, counter_of, counters_each}
use Rattle.qcow2_check.specs.NamedTables.{named_block}
use Rattle.qcow2_apply.specs.Changes.{gains_of, losses_of}
use Rattle.qcow2_apply.specs.declared.changes.Changes.{Changes}

-- an image's header and refcount table
pub record CounterTablesState : Type 0 where
  pub header : HeaderRecord
  pub reftable : List ℕ

-- the block that the refcount table entry at an index names begins with this cluster
abbrev pub NamesBlock : CounterTablesState → ℕ → HostCluster → Type 0
NamesBlock tables index block = named_block tables.header.v2.cluster_bits (slice_index tables.reftable index) ≡ Some block

-- the counters of the block that begins with a cluster
abbrev pub block_numbers : CounterTablesState → HostCluster → Image → List ℕ
block_numbers tables block image = numbers_at (block_layout (block_geometry_of tables.header)) block image

-- the counter of cluster c
abbrev pub counter_of_cluster : CounterTablesState → Image → ℕ → ℕ
counter_of_cluster tables image c = counter_of tables.header tables.reftable image c

-- a block counts cluster c
abbrev pub HasCounter : CounterTablesState → ℕ → Type 0
HasCounter tables c = IsSome (block_of_cluster tables.header tables.reftable c)

-- a counter followed the changes of cluster c: what it is, with what the cluster lost, is what it was, with what that gained
abbrev pub Follows : Changes → ℕ → ℕ → ℕ → Type 0
Follows changes c old new = new + losses_of changes c ≡ old + gains_of changes c

-- the counters of the block at an index of the refcount table followed changes
pub record BlockFollows (tables : CounterTablesState) (changes : Changes) (index : ℕ) (old new : List ℕ) : Type 0 where
  pub count : length new ≡ length old
  pub each : (k : ℕ) → k < length old →
      Follows changes (index * counters_each tables.header + k) (slice_index old k) (slice_index new k)

-- a counter can't follow the changes of cluster c, all gains before the losses: those are too much for it, or these are more than
-- both
abbrev pub IsStuck : CounterTablesState → Changes → ℕ → ℕ → Type 0
IsStuck tables changes c counter = (greatest_counter tables.header.base.refcount_order < counter + gains_of changes c)
    ⊎ (counter + gains_of changes c < losses_of changes c)

-- some counter of the block at an index can't
abbrev pub BlockIsStuck : CounterTablesState → Changes → ℕ → List ℕ → Type 0
BlockIsStuck tables changes index numbers = (k : ℕ) × (k < length numbers)
    × IsStuck tables changes (index * counters_each tables.header + k) (slice_index numbers k)

-- changes are by blocks of as many counters as the image's
abbrev pub IsByBlocks : CounterTablesState → Changes → Type 0
IsByBlocks tables changes = 2 ^ changes.rb_bits ≡ counters_each tables.header

-- a block in memory has as many counters as the image's
pub record IsBlockOf (tables : CounterTablesState) (block : BlockState) : Type 0 where
  pub geometry : block.geometry ≡ block_geometry_of tables.header
  pub count : length block.numbers ≡ counters_each tables.header
