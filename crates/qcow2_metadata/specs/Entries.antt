-- What do the numbers of table entries have in common, and which clusters does one refer to?
pub mod L1Entry
pub mod L2Entry
pub mod L2Mapping
pub mod PendingClusters
pub mod RefTableEntry
pub mod Runs
use Rattle.std.specs.Prelude.{ℕ, Bool, true, false, ◌&&◌, ◌==◌, ◌+◌, ◌*◌, ◌%◌, ◌^◌, ◌<◌, ◌≤◌, nat_le, nat_lt, if◌then◌else◌, Option, Some, None}
use Rattle.qcow2_base.specs.Bits.{field}
use Rattle.qcow2_base.specs.declared.fault.Fault.{Fault}
use Rattle.qcow2_base.specs.declared.fault.Fault.TheVariants.{EntryReserved, EntryUnaligned}
use Rattle.qcow2_base.specs.declared.types.HostOffset.{HostOffset}
use Rattle.qcow2_metadata.specs.declared.entries.ClustersToFreeEntry.{ClustersToFreeEntry}

-- the fault of a number with a reserved bit, or else with an unaligned offset
abbrev pub entry_fault : Bool → Bool → Option Fault
entry_fault true unaligned = Some EntryReserved
entry_fault false true = Some EntryUnaligned
entry_fault false false = None

-- bits 9 to 55: the offset in an L1 entry or a standard L2 entry
abbrev pub offset_field : ℕ → ℕ
offset_field v = 512 * field v 9 47

-- bit 63: the refcount is exactly one
abbrev pub is_copied : ℕ → Bool
is_copied v = field v 63 1 == 1

-- bit 63 of an entry that is copied
abbrev pub copied_bit : Bool → ℕ
copied_bit true = 2 ^ 63
copied_bit false = 0

-- the entry with the flag or without it
abbrev pub with_copied : Bool → ℕ → ℕ
with_copied copied v = v % 2 ^ 63 + copied_bit copied

-- clusters one after another are a ClustersToFreeEntry: the first, and how many. Cluster c is one of them
abbrev pub IsAmong : ClustersToFreeEntry → ℕ → Type 0
IsAmong clusters c = (clusters.first.0 ≤ c) × (c < clusters.first.0 + clusters.count.0)

-- whether it is
abbrev pub is_among : ClustersToFreeEntry → ℕ → Bool
is_among clusters c = nat_le clusters.first.0 c && nat_lt c (clusters.first.0 + clusters.count.0)

-- an offset in an entry, where 0 is none
abbrev pub offset_unless_zero : ℕ → Option HostOffset
offset_unless_zero offset = if offset == 0 then None else Some (record { 0 = offset })
