-- What does a guest cluster read as by its L2 entry, and which entry has a mapping?
use Rattle.std.specs.Prelude.{◌≡◌, ℕ, Bool, true, false, not, ◌&&◌, ◌||◌, ◌==◌, ◌+◌, ◌-◌, ◌*◌, ◌/◌, ◌%◌, ◌^◌, ◌<◌, if◌then◌else◌, Option, Some, None, option_map, IfSome, ⊤}
use Rattle.std.specs.Bool.{beq}
use Rattle.std.specs.Int.{div_ceil}
use Rattle.std.specs.Int.NonZero.{non_zero_u64_get}
use Rattle.qcow2_base.specs.Format.{max_file_length}
use Rattle.qcow2_base.specs.Types.{IsClusterBits}
use Rattle.qcow2_base.specs.declared.types.HostCluster.{HostCluster}
use Rattle.qcow2_metadata.specs.Header.{Geometry}
use Rattle.qcow2_metadata.specs.declared.entries.l2_mapping.L2Mapping.{L2Mapping}
use Rattle.qcow2_metadata.specs.declared.entries.l2_mapping.L2Mapping.TheVariants.{DataFile, Backing, Zero, Compressed}
use Rattle.qcow2_metadata.specs.Entries.L2Entry.{compressed_length, compressed_offset, host_offset, is_allocated, is_compressed, is_zero}
use Rattle.qcow2_metadata.specs.Entries.{copied_bit, is_copied, offset_field}

-- what a guest cluster reads as
pub data Mapping : Type 0 where
  data_file : (cluster : ℕ) (copied : Bool) → Mapping
  backing : (offset : ℕ) → Mapping
  zeros : (cluster : Option ℕ) (copied : Bool) → Mapping
  compressed : (offset length : ℕ) → Mapping

-- what a mapping of the program says
abbrev pub meaning : L2Mapping → Mapping
meaning (DataFile host_cluster copied) = data_file host_cluster.0 copied
meaning (Backing backing_offset) = backing backing_offset
meaning (Zero host_cluster copied) = zeros (option_map (λ (c : HostCluster). c.0) host_cluster) copied
meaning (Compressed host_offset length) = compressed host_offset.0 (non_zero_u64_get length)

-- the cluster or the data that a mapping names begins before the greatest end
abbrev pub BeginsInImage : ℕ → L2Mapping → Type 0
BeginsInImage cb (DataFile host_cluster copied) = host_cluster.0 * 2 ^ cb < max_file_length
BeginsInImage cb (Backing backing_offset) = ⊤
BeginsInImage cb (Zero host_cluster copied) = IfSome host_cluster (λ (c : HostCluster). c.0 * 2 ^ cb < max_file_length)
BeginsInImage cb (Compressed host_offset length) = host_offset.0 < max_file_length

-- what a mapping names lies in an image with clusters of 2 ^ cb bytes
pub record IsPlaced (cb : ℕ) (mapping : L2Mapping) : Type 0 where
  pub bits : IsClusterBits cb
  pub within : BeginsInImage cb mapping

-- the cluster that a standard entry refers to
abbrev pub host_cluster : Geometry → ℕ → Option ℕ
host_cluster g v = if is_allocated g.external_data_file v then Some (offset_field v / 2 ^ g.cluster_bits) else None

-- by the zero flag, the cluster and the copied flag, and where the backing file has the guest cluster
abbrev pub standard_mapping : Bool → Option ℕ → Bool → ℕ → Mapping
standard_mapping true (Some cluster) copied offset = zeros (Some cluster) copied
standard_mapping true None copied offset = zeros None false
standard_mapping false (Some cluster) copied offset = data_file cluster copied
standard_mapping false None copied offset = backing offset

-- what a guest cluster reads as by its entry v
abbrev pub mapping : Geometry → ℕ → ℕ → Mapping
mapping g guest_cluster v =
    let cb = g.cluster_bits in
    if is_compressed v then compressed (compressed_offset cb v) (compressed_length cb v)
    else standard_mapping (is_zero v) (host_cluster g v) (is_copied v) (guest_cluster * 2 ^ cb)

-- an entry has room for the mapping, and only a cluster is said to be copied
abbrev pub FitsEntry : ℕ → L2Mapping → Type 0
FitsEntry cb (DataFile host_cluster copied) = ⊤
FitsEntry cb (Backing backing_offset) = ⊤
FitsEntry cb (Zero (Some host_cluster) copied) = ⊤
FitsEntry cb (Zero None copied) = copied ≡ false
FitsEntry cb (Compressed host_offset length) = (host_offset.0 < 2 ^ (70 - cb)) × (non_zero_u64_get length < 2 ^ cb)

-- how many sectors of 512 bytes that many bytes from an offset on have beyond the first
abbrev pub sectors_beyond : ℕ → ℕ → ℕ
sectors_beyond offset length = (length - 1 + offset % 512) / 512

-- the number of the entry that says a mapping
abbrev pub entry_of : ℕ → Mapping → ℕ
entry_of cb (data_file cluster copied) = copied_bit copied + cluster * 2 ^ cb
entry_of cb (backing offset) = 0
entry_of cb (zeros (Some cluster) copied) = copied_bit copied + cluster * 2 ^ cb + 1
entry_of cb (zeros None copied) = 1
entry_of cb (compressed offset length) = 2 ^ 62 + sectors_beyond offset length * 2 ^ (70 - cb) + offset

-- an entry can distinguish this cluster from none: it isn't 0, or it is the copied cluster 0 of an external data file
abbrev pub is_told : Bool → ℕ → Bool → Bool
is_told external cluster copied = not (cluster == 0) || (external && copied)

-- what the entry of a mapping reads as: that mapping, with three exceptions. Backing begins where the guest cluster
-- does, cluster 0 may be none, and compressed data reaches to the end of its last sector of 512 bytes
abbrev pub stored_mapping : Geometry → ℕ → Mapping → Mapping
stored_mapping g guest_cluster (data_file cluster copied) =
    if is_told g.external_data_file cluster copied then data_file cluster copied else backing (guest_cluster * 2 ^ g.cluster_bits)
stored_mapping g guest_cluster (backing offset) = backing (guest_cluster * 2 ^ g.cluster_bits)
stored_mapping g guest_cluster (zeros (Some cluster) copied) =
    if is_told g.external_data_file cluster copied then zeros (Some cluster) copied else zeros None false
stored_mapping g guest_cluster (zeros None copied) = zeros None false
stored_mapping g guest_cluster (compressed offset length) = compressed offset (div_ceil (offset + length) 512 * 512 - offset)

-- whether a guest cluster's mapping goes on where that of the guest cluster before it ends
abbrev pub is_consecutive : ℕ → Mapping → Mapping → Bool
is_consecutive cb (data_file before was_copied) (data_file cluster copied) = (cluster == before + 1) && beq was_copied copied
is_consecutive cb (backing before) (backing offset) = offset == before + 2 ^ cb
is_consecutive cb (zeros before was_copied) (zeros cluster copied) = true
is_consecutive cb (compressed before before_length) (compressed offset length) = true
is_consecutive cb before after = false
