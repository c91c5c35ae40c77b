-- What is a refcount block in memory and in an image?
pub mod Counters
pub mod Guard
pub mod Packing
use Rattle.std.specs.Prelude.{◌≡◌, Result, ℕ, Bool, true, ◌+◌, ◌-◌, ◌^◌, ◌≤◌, List, slice_set, Option, Some, None}
use Rattle.qcow2_base.specs.Storage.{Image}
use Rattle.qcow2_base.specs.declared.fault.Fault.{Fault}
use Rattle.qcow2_base.specs.declared.types.HostCluster.{HostCluster}
use Rattle.qcow2_metadata.specs.Header.{HeaderRecord}
use Rattle.qcow2_metadata.specs.Placed.{IsValid, Layout, Placed, loaded_numbers, place_fault}
use Rattle.qcow2_metadata.specs.Range.{range_fault}
use Rattle.qcow2_metadata.specs.Refblock.Packing.{counters_at, counter_bytes, width}

-- what a block keeps of an image's geometry
pub record BlockGeometry : Type 0 where
  pub cluster_bits : ℕ
  pub refcount_order : ℕ

-- what a block in memory says: its counters, its cluster and its flag, and the image's cluster size and refcount order
abbrev pub BlockState : Type 0
BlockState = Placed BlockGeometry

-- the geometry of these two
abbrev pub block_geometry : ℕ → ℕ → BlockGeometry
block_geometry cb order = record { cluster_bits = cb; refcount_order = order }

-- the geometry of the blocks of an image with this header
abbrev pub block_geometry_of : HeaderRecord → BlockGeometry
block_geometry_of header = block_geometry header.v2.cluster_bits header.base.refcount_order

-- how many counters a block has, which fills one cluster
abbrev pub block_entries : ℕ → ℕ → ℕ
block_entries cb order = 2 ^ (cb + 3 - order)

-- how the counters of a block, which fill a cluster, lie in an image
abbrev pub block_layout : BlockGeometry → Layout
block_layout g = record {
  cluster_bits = g.cluster_bits;
  count = block_entries g.cluster_bits g.refcount_order;
  width = width g.refcount_order;
  byte_count = 2 ^ g.cluster_bits;
  bytes_of = counter_bytes g.refcount_order;
  numbers_from = λ image offset. counters_at g.refcount_order image offset (block_entries g.cluster_bits g.refcount_order);
  fault_of_offset = λ offset. range_fault offset (2 ^ g.cluster_bits);
  fault_of_numbers = λ _. None;
}

-- the counters of the block that begins with a cluster of an image with this header, where one can lie there
abbrev pub loaded_block : HeaderRecord → HostCluster → Image → Result (List ℕ) Fault
loaded_block header cluster image = loaded_numbers (block_layout (block_geometry_of header)) cluster image

-- the refusal of a block's load: that of its place
abbrev pub IsBlockFault : HeaderRecord → HostCluster → Fault → Type 0
IsBlockFault header cluster fault = place_fault (block_layout (block_geometry_of header)) cluster ≡ Some fault

-- what holds of every block: each counter fits its width, of which there are seven
pub record IsValidBlock (g : BlockGeometry) (cluster : Option HostCluster) (counters : List ℕ) : Type 0 where
  pub numbers : IsValid (block_layout g) cluster counters
  pub orders : g.refcount_order ≤ 6

-- the greatest number that a counter holds
abbrev pub greatest_counter : ℕ → ℕ
greatest_counter order = 2 ^ width order - 1
