-- What is left of an image's counters that follow changes?
use Rattle.std.specs.Prelude.{◌≡◌, ◌⊎◌, ℕ, slice_index}
use Rattle.qcow2_base.specs.Storage.{Image}
use Rattle.qcow2_base.specs.declared.fault.Fault.{Fault}
use Rattle.qcow2_base.specs.declared.types.HostCluster.{HostCluster}
use Rattle.qcow2_check.specs.NamedTables.{named_block}
use Rattle.qcow2_check.specs.Failures.{TearsAtMost}
use Rattle.qcow2_apply.specs.CounterTables.{BlockIsStuck, CounterTablesState, Follows, HasCounter, IsStuck, NamesBlock, block_numbers, counter_of_cluster}
use Rattle.qcow2_apply.specs.declared.changes.Changes.{Changes}
use Rattle.qcow2_apply.specs.Passes.{IsOutside, Places, TearsOne}

-- the block at an index has such a counter
abbrev pub IsStuckAt : CounterTablesState → Changes → ℕ → Image → Type 0
IsStuckAt tables changes index image = (block : HostCluster) × NamesBlock tables index block
    × BlockIsStuck tables changes index (block_numbers tables block image)

-- some counter of an image can't
abbrev pub SomeIsStuck : CounterTablesState → Changes → Image → Type 0
SomeIsStuck tables changes image = (c : ℕ) × HasCounter tables c × IsStuck tables changes c (counter_of_cluster tables image c)

-- the refcount blocks
abbrev pub blocks : CounterTablesState → Places
blocks tables = record {
  cluster_bits = tables.header.v2.cluster_bits;
  place = λ index. named_block tables.header.v2.cluster_bits (slice_index tables.reftable index);
  numbers = block_numbers tables;
}

-- all counters followed changes, and no byte outside the blocks changed
pub record FollowsChanges (tables : CounterTablesState) (changes : Changes) (old new : Image) : Type 0 where
  pub followed : (c : ℕ) → HasCounter tables c → Follows changes c (counter_of_cluster tables old c) (counter_of_cluster tables new c)
  pub others : (o : ℕ) → IsOutside (blocks tables) o → new o ≡ old o

-- some did: each counter is as it was, or followed
pub record FollowsSome (tables : CounterTablesState) (changes : Changes) (old new : Image) : Type 0 where
  pub counters : (c : ℕ) → HasCounter tables c → (counter_of_cluster tables new c ≡ counter_of_cluster tables old c)
      ⊎ Follows changes c (counter_of_cluster tables old c) (counter_of_cluster tables new c)
  pub others : (o : ℕ) → IsOutside (blocks tables) o → new o ≡ old o

-- it ended in this fault before all had: some counters followed, and after that one write was torn at most
abbrev pub StopsFollowing : CounterTablesState → Changes → Fault → Image → Image → Type 0
StopsFollowing tables changes fault old new =
    (mid : Image) × FollowsSome tables changes old mid × TearsAtMost fault (TearsOne (blocks tables)) mid new
