-- Which numbers are entries of an L2 table, and which bytes and clusters does one refer to?
use Rattle.std.specs.Prelude.{◌≡◌, ℕ, Bool, false, not, ◌&&◌, ◌||◌, ◌==◌, ◌+◌, ◌-◌, ◌*◌, ◌/◌, ◌%◌, ◌^◌, ◌<◌, ◌≤◌, ◌↔◌, nat_lt, if◌then◌else◌, Option, Some, None, option_map, IfSome, IfNone, unwrap_or}
use Rattle.qcow2_base.specs.Format.{max_file_length}
use Rattle.qcow2_base.specs.Bits.{field}
use Rattle.qcow2_base.specs.declared.fault.Fault.{Fault}
use Rattle.qcow2_base.specs.declared.types.HostOffset.{HostOffset}
use Rattle.qcow2_metadata.specs.Header.{Geometry}
use Rattle.qcow2_metadata.specs.declared.entries.ClustersToFreeEntry.{ClustersToFreeEntry}
use Rattle.qcow2_metadata.specs.Entries.{IsAmong, entry_fault, is_among, is_copied, offset_field}

-- L2 entries. g is the image's geometry and cb its cluster_bits

-- bit 62: a compressed entry; any other is a standard one
abbrev pub is_compressed : ℕ → Bool
is_compressed v = field v 62 1 == 1

-- bit 0 of a standard entry: the cluster reads as zeros
abbrev pub is_zero : ℕ → Bool
is_zero v = field v 0 1 == 1

-- the reserved bits of an entry's kind, at their places: 63, or 1 to 8 and 56 to 61
abbrev pub l2_reserved_bits : ℕ → ℕ
l2_reserved_bits v =
    if is_compressed v then field v 63 1 * 2 ^ 63 else field v 1 8 * 2 ^ 1 + field v 56 6 * 2 ^ 56

-- the fault of a number that is no L2 entry, if it has one: a reserved bit is set, as a bit of a compressed entry's offset
-- from the greatest end on is, or a standard entry's offset is no multiple of the cluster size
abbrev pub l2_fault : ℕ → ℕ → Option Fault
l2_fault cb v = entry_fault
    (not (l2_reserved_bits v == 0) || (is_compressed v && not (nat_lt (v % 2 ^ (70 - cb)) max_file_length)))
    (not (is_compressed v) && not (offset_field v % 2 ^ cb == 0))

-- a standard entry refers to a cluster: its offset isn't 0, or it is that of cluster 0 of an external data file
abbrev pub is_allocated : Bool → ℕ → Bool
is_allocated external v = not (offset_field v == 0) || (external && is_copied v)

-- the offset that a standard entry refers to
abbrev pub host_offset : Bool → ℕ → Option HostOffset
host_offset external v = if is_allocated external v then Some (record { 0 = offset_field v }) else None

-- whether the entry has a host cluster that zeros can keep: it is a standard one that refers to a cluster
abbrev pub has_host_cluster : Geometry → ℕ → Bool
has_host_cluster g v = not (is_compressed v) && is_allocated g.external_data_file v

-- whether an entry has only its copied flag to say whether it refers to a cluster: a standard one with offset 0, where guest
-- data lies in an external data file
abbrev pub refers_by_flag : Bool → ℕ → Bool
refers_by_flag external v = external && (not (is_compressed v) && (offset_field v == 0))

-- the entry with the zero flag
abbrev pub with_zero_flag : ℕ → ℕ
with_zero_flag v = v - v % 2 + 1

-- an entry where a second table has it too: the copied flag is clear. It stays where it says that offset 0 is that of
-- a cluster, in an external data file
abbrev pub entry_in_copy : Bool → ℕ → ℕ
entry_in_copy external v = if refers_by_flag external v then v else v % 2 ^ 63

-- where a compressed entry's data begins: the bits below bit 70 - cb
abbrev pub compressed_offset : ℕ → ℕ → ℕ
compressed_offset cb v = v % 2 ^ (70 - cb) % max_file_length

-- how many bytes there are from there to the end of the last sector of 512 bytes; the entry counts those beyond the first
abbrev pub compressed_length : ℕ → ℕ → ℕ
compressed_length cb v = 512 * (field v (70 - cb) (cb - 8) + 1) - compressed_offset cb v % 512

-- bytes of the image or the data file, from the start to before the end
pub record ByteRange : Type 0 where
  pub start : ℕ
  pub end : ℕ

-- the bytes that an entry refers to
abbrev pub byte_range : Geometry → ℕ → Option ByteRange
byte_range g v =
    let cb = g.cluster_bits in
    if is_compressed v then Some (record { start = compressed_offset cb v; end = compressed_offset cb v + compressed_length cb v })
    else (if is_allocated g.external_data_file v then Some (record { start = offset_field v; end = offset_field v + 2 ^ cb }) else None)

-- the entry refers to a byte of cluster c
abbrev pub Meets : Geometry → ℕ → ℕ → Type 0
Meets g v c = (range : ByteRange) × (byte_range g v ≡ Some range)
    × ((byte : ℕ) × (range.start ≤ byte) × (byte < range.end) × (byte / 2 ^ g.cluster_bits ≡ c))

-- the clusters of which a range has a byte: from that of its first byte to that of its last
abbrev pub clusters_met : ℕ → ByteRange → ClustersToFreeEntry
clusters_met cb range =
    let first = range.start / 2 ^ cb in
    record { first = record { 0 = first }; count = record { 0 = (range.end - 1) / 2 ^ cb - first + 1 } }

-- the clusters of which an entry refers to a byte
abbrev pub allocation : Geometry → ℕ → Option ClustersToFreeEntry
allocation g v = option_map (clusters_met g.cluster_bits) (byte_range g v)

-- whether the entry refers to a byte of cluster c
abbrev pub meets : Geometry → ℕ → ℕ → Bool
meets g v c = unwrap_or (option_map (λ clusters. is_among clusters c) (allocation g v)) false

-- these clusters are just those of which an entry refers to a byte, one to three, or there is none
pub record IsAllocation (g : Geometry) (v : ℕ) (clusters : Option ClustersToFreeEntry) : Type 0 where
  pub value : clusters ≡ allocation g v
  pub met : IfSome clusters (λ some. (c : ℕ) → Meets g v c ↔ IsAmong some c)
  pub none : IfNone clusters ((c : ℕ) → Meets g v c → ⊥)
  pub count : IfSome clusters (λ some. (1 ≤ some.count.0) × (some.count.0 ≤ 3))
