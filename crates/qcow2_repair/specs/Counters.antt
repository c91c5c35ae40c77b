-- What does a pass of a repair over counters change?
use Rattle.std.specs.Prelude.{◌≡◌, ◌≢◌, ◌⊎◌, ℕ, ◌&&◌, ◌*◌, ◌/◌, ◌^◌, ◌<◌, ◌≤◌, max, min, nat_le, nat_lt, if◌then◌else◌, List, length, slice_index, Some, IsSome}
use Rattle.qcow2_base.specs.Format.{max_file_length}
use Rattle.qcow2_base.specs.Storage.{Image, SameOutside}
use Rattle.qcow2_base.specs.declared.fault.Fault.{Fault}
use Rattle.qcow2_base.specs.declared.fault.Fault.TheVariants.{CounterRange}
use Rattle.qcow2_base.specs.declared.types.HostCluster.{HostCluster}
use Rattle.qcow2_metadata.specs.Placed.{numbers_at}
use Rattle.qcow2_metadata.specs.Refblock.{block_geometry_of, block_layout, greatest_counter}
use Rattle.qcow2_check.specs.Counters.{block_of_cluster, counter_of}
use Rattle.qcow2_check.specs.NamedTables.{named_block}
use Rattle.qcow2_check.specs.Uses.{ImageTables, image_uses, uses_of}
use Rattle.qcow2_check.specs.Failures.{TearsAtMost}
use Rattle.qcow2_repair.specs.declared.counters.CounterPass.{CounterPass}
use Rattle.qcow2_repair.specs.declared.counters.CounterPass.TheVariants.{Fall, Rise}

-- a counter after a pass, by the uses of its cluster: in the first pass those rise that are less, in the second those fall that
-- are greater
abbrev pub counter_towards : CounterPass → ℕ → ℕ → ℕ
counter_towards Rise uses counter = max counter uses
counter_towards Fall uses counter = min counter uses

-- a pass over the counters of a block from one index to before another, by the uses that belong to each index
pub record PassesBlock (pass : CounterPass) (uses : ℕ → ℕ) (from to : ℕ) (old new : List ℕ) : Type 0 where
  pub count : length new ≡ length old
  pub each : (k : ℕ) → k < length old → slice_index new k
      ≡ (if nat_le from k && nat_lt k to then counter_towards pass (uses k) (slice_index old k) else slice_index old k)

-- the fault of a pass over counters from an index to before another: one of them can't hold the uses that belong to it
pub record IsPastCounters (order : ℕ) (uses : ℕ → ℕ) (from to : ℕ) (fault : Fault) : Type 0 where
  pub is : fault ≡ CounterRange
  pub past : (k : ℕ) × (from ≤ k) × (k < to) × (greatest_counter order < uses k)

-- the counters of the block that begins with a cluster of an image with these tables
abbrev pub block_counters : ImageTables → HostCluster → Image → List ℕ
block_counters tables block image = numbers_at (block_layout (block_geometry_of tables.header)) block image

-- the counter of cluster c by an image with these tables
abbrev pub counter_in : ImageTables → Image → ℕ → ℕ
counter_in tables image c = counter_of tables.header tables.reftable image c

-- its counter after a pass
abbrev pub passed_counter : ImageTables → CounterPass → Image → ℕ → ℕ
passed_counter tables pass image c = counter_towards pass (uses_of (image_uses tables image) c) (counter_in tables image c)

-- the byte at an offset is in none of the refcount blocks
abbrev pub IsOutsideBlocks : ImageTables → ℕ → Type 0
IsOutsideBlocks tables o = let cb = tables.header.v2.cluster_bits in (i : ℕ) (block : HostCluster) →
    named_block cb (slice_index tables.reftable i) ≡ Some block → o / 2 ^ cb ≢ block.0

-- a pass over the counters of the clusters from one to before another: no other counter changes, and no byte outside the
-- refcount blocks
pub record PassesBetween (tables : ImageTables) (pass : CounterPass) (from to : ℕ) (old new : Image) : Type 0 where
  pub passed : (c : ℕ) → from ≤ c → c < to → IsSome (block_of_cluster tables.header tables.reftable c) →
      counter_in tables new c ≡ passed_counter tables pass old c
  pub before : (c : ℕ) → c < from → counter_in tables new c ≡ counter_in tables old c
  pub after : (c : ℕ) → to ≤ c → counter_in tables new c ≡ counter_in tables old c
  pub others : (o : ℕ) → IsOutsideBlocks tables o → new o ≡ old o

-- a pass over all counters
abbrev pub PassesCounters : ImageTables → CounterPass → Image → Image → Type 0
PassesCounters tables pass old new = PassesBetween tables pass 0 max_file_length old new

-- the counter of cluster c is the old one or that after a pass
abbrev pub IsEitherCounter : ImageTables → CounterPass → ℕ → Image → Image → Type 0
IsEitherCounter tables pass c old new = (counter_in tables new c ≡ counter_in tables old c)
    ⊎ (counter_in tables new c ≡ passed_counter tables pass old c)

-- a part of a pass over counters: each is the old one or that after the pass, and no byte outside the refcount blocks changes
pub record PassesSomeCounters (tables : ImageTables) (pass : CounterPass) (old new : Image) : Type 0 where
  pub counters : (c : ℕ) → IsEitherCounter tables pass c old new
  pub others : (o : ℕ) → IsOutsideBlocks tables o → new o ≡ old o

-- a write of a refcount block was torn: no byte outside this block changed
abbrev pub TearsBlock : ImageTables → Image → Image → Type 0
TearsBlock tables old new = let cb = tables.header.v2.cluster_bits in (i : ℕ) × (block : HostCluster)
    × (named_block cb (slice_index tables.reftable i) ≡ Some block) × SameOutside (block.0 * 2 ^ cb) (2 ^ cb) old new

-- a pass over counters ended in this fault before its time: a part of it was done, and after that one write was torn at most
abbrev pub BreaksOff : ImageTables → CounterPass → Fault → Image → Image → Type 0
BreaksOff tables pass fault old new =
    (mid : Image) × PassesSomeCounters tables pass old mid × TearsAtMost fault (TearsBlock tables) mid new
