-- What does an image's own counter say of a cluster?
use Rattle.std.specs.Prelude.{◌≡◌, ◌⊎◌, ℕ, Bool, ◌&&◌, ◌-◌, ◌/◌, ◌%◌, ◌<◌, ◌≤◌, nat_lt, if◌then◌else◌, List, [], slice_index, Option, Some, None, Result, Ok, IfSome, IsSome}
use Rattle.qcow2_base.specs.Format.{max_file_length}
use Rattle.qcow2_base.specs.Storage.{Image, OnImage, StorageState}
use Rattle.qcow2_base.specs.declared.fault.Fault.{Fault}
use Rattle.qcow2_base.specs.declared.fault.Fault.TheVariants.{TablePlace}
use Rattle.qcow2_base.specs.declared.types.HostCluster.{HostCluster}
use Rattle.qcow2_metadata.specs.Header.{HeaderRecord}
use Rattle.qcow2_metadata.specs.Placed.{numbers_at, place_fault}
use Rattle.qcow2_metadata.specs.Refblock.{BlockState, block_entries, block_geometry_of, block_layout}
use Rattle.qcow2_metadata.specs.Results.{and_then, unless_refused}
use Rattle.qcow2_metadata.specs.Table.{IsTableFault, first_fault}
use Rattle.qcow2_check.specs.NamedTables.{l1_cluster, l1_layout, loaded_reftable, named_block, reftable_cluster, reftable_layout}
use Rattle.qcow2_check.specs.Repeats.{is_again}

-- how many counters a refcount block has
abbrev pub counters_each : HeaderRecord → ℕ
counters_each header = block_entries header.v2.cluster_bits header.base.refcount_order

-- the cluster that the refcount block of cluster c begins with, if there is one
abbrev pub block_of_cluster : HeaderRecord → List ℕ → ℕ → Option HostCluster
block_of_cluster header reftable c =
    named_block header.v2.cluster_bits (slice_index reftable (c / counters_each header))

-- a number is the one after the last cluster that has a block, or 0 where none has
pub record IsCountedEnd (header : HeaderRecord) (reftable : List ℕ) (end : ℕ) : Type 0 where
  pub fits : end ≤ max_file_length
  pub last : 0 < end → IsSome (block_of_cluster header reftable (end - 1))
  pub none : (c : ℕ) → end ≤ c → c < max_file_length → block_of_cluster header reftable c ≡ None

-- the counter of cluster c, which is 0 where it has no block
abbrev pub counter_of : HeaderRecord → List ℕ → Image → ℕ → ℕ
counter_of header reftable image c = elim (block_of_cluster header reftable c) [
  | None ↦ 0
  | Some block ↦ slice_index (numbers_at (block_layout (block_geometry_of header)) block image) (c % counters_each header)
]

-- whether the entry of cluster c names a block, below the greatest end, that an entry before it names too
abbrev pub is_counted_again : HeaderRecord → List ℕ → ℕ → Bool
is_counted_again header reftable c = let index = c / counters_each header in
    is_again reftable index && nat_lt (slice_index reftable index) max_file_length

-- the counter of a cluster c that nothing uses, as it is reported: 0 where its block is named before, since its counters are
-- reported there
abbrev pub unused_counter : HeaderRecord → List ℕ → Image → ℕ → ℕ
unused_counter header reftable image c =
    if is_counted_again header reftable c then 0 else counter_of header reftable image c

-- what a reader of counters has: the image's header and refcount table, and a block that it keeps
pub record CountersState : Type 0 where
  pub header : HeaderRecord
  pub reftable : List ℕ
  pub block : Option BlockState

-- the counters of the clusters from one on to before another are 0 in an image of the reader's
abbrev pub AreFree : CountersState → Image → ℕ → ℕ → Type 0
AreFree reader image from to = (c : ℕ) → from ≤ c → c < to → counter_of reader.header reader.reftable image c ≡ 0

-- those of the clusters from one on to before another that nothing uses are reported as 0
abbrev pub ReportNone : CountersState → Image → ℕ → ℕ → Type 0
ReportNone reader image from to = (c : ℕ) → from ≤ c → c < to → unused_counter reader.header reader.reftable image c ≡ 0

-- the counters of the block that is kept, none if none is
abbrev pub numbers_of_kept : Option BlockState → List ℕ
numbers_of_kept None = []
numbers_of_kept (Some block) = block.numbers

-- a block that is kept, if there is one, is the one at its cluster in the image
abbrev pub IsKeptBlockOf : HeaderRecord → Image → Option BlockState → Type 0
IsKeptBlockOf header image kept = IfSome kept (λ (block : BlockState).
    IfSome block.cluster (λ cluster. block.numbers ≡ numbers_at (block_layout (block_geometry_of header)) cluster image))

-- a reader is as before, but that it may keep another block of the image
pub record IsSameButBlock (image : StorageState) (old new : CountersState) : Type 0 where
  pub same : new ≡ record old { block = new.block }
  pub kept : OnImage image (λ bytes. IsKeptBlockOf new.header bytes new.block)

-- why the block that a refcount table entry names can't lie there, if it names one
abbrev pub block_place_fault : HeaderRecord → ℕ → Option Fault
block_place_fault header v = elim (named_block header.v2.cluster_bits v) [
  | None ↦ None
  | Some block ↦ place_fault (block_layout (block_geometry_of header)) block
]

-- why a refcount table's blocks can't all lie where it says, by the first that can't
abbrev pub blocks_fault : HeaderRecord → List ℕ → Option Fault
blocks_fault header reftable = first_fault (block_place_fault header) reftable

-- the refcount table of an image with this header, whose blocks can all lie where it says
abbrev pub placed_reftable : HeaderRecord → Image → Result (List ℕ) Fault
placed_reftable header image = and_then (loaded_reftable header image) (λ reftable.
    unless_refused (blocks_fault header reftable) (Ok reftable))

-- the refusals of a refcount table: those of its place, of one of its entries, or of the place of a block
abbrev pub IsReftableFault : HeaderRecord → Fault → Type 0
IsReftableFault header fault =
    IsTableFault (reftable_layout header) (reftable_cluster header) fault ⊎ (fault ≡ TablePlace)

-- those of the tables that a header names, the L1 table and the refcount table
abbrev pub IsTablesFault : HeaderRecord → Fault → Type 0
IsTablesFault header fault = IsTableFault (l1_layout header) (l1_cluster header) fault ⊎ IsReftableFault header fault
