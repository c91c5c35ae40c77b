-- What is a table in memory and in an image: which numbers does it have, where can it lie, and why is it refused?
pub mod Growth
pub mod L2Guards
pub mod L2Table
pub mod OneEntry
use Rattle.std.specs.Prelude.{◌≡◌, true, ℕ, Bool, ◌==◌, ◌⊎◌, ◌+◌, ◌-◌, ◌*◌, ◌%◌, ◌^◌, ◌<◌, ◌≤◌, nat_lt, if◌then◌else◌, List, [], ◌∷◌, map, length, slice_index, slice_set, Option, Some, None, Result, Ok, IsTrue}
use Rattle.std.specs.List.{range_with_len}
use Rattle.std.specs.Option.{option_or}
use Rattle.qcow2_base.specs.Format.{max_offset, most_entries_in_memory, most_l1_entries, most_l2_entries}
use Rattle.qcow2_base.specs.Storage.{Image, be, image_of}
use Rattle.qcow2_base.specs.declared.fault.Fault.{Fault}
use Rattle.qcow2_base.specs.declared.fault.Fault.TheVariants.{EntryReserved, EntryUnaligned, TableTooBig}
use Rattle.qcow2_base.specs.declared.types.HostCluster.{HostCluster}
use Rattle.qcow2_metadata.specs.Entries.L2Mapping.{Mapping, mapping}
use Rattle.qcow2_metadata.specs.Entries.L1Entry.{l1_fault}
use Rattle.qcow2_metadata.specs.Entries.L2Entry.{l2_fault}
use Rattle.qcow2_metadata.specs.Header.{Geometry, HeaderRecord, geometry_of}
use Rattle.qcow2_metadata.specs.Results.{IsFromOutside, unless_refused}
use Rattle.qcow2_metadata.specs.Pieces.{big_endian_bytes}
use Rattle.qcow2_metadata.specs.Placed.{IsValid, Layout, Placed, loaded_numbers, place_fault}
use Rattle.qcow2_metadata.specs.Range.{range_fault}

-- how many an L2 table has, by cluster_bits
abbrev pub l2_entries : ℕ → ℕ
l2_entries cb = 2 ^ (cb - 3)

-- what a table in memory says: its entries' numbers, its cluster and its flag, and the image's cluster size and data file
abbrev pub TableState : Type 0
TableState = Placed Geometry

-- a kind of table: the most entries that one may have. By cluster_bits, whether one may have that many in memory, and
-- the fault of a number that is no entry
pub record Kind : Type 0 where
  pub most : ℕ
  pub has_valid_count : ℕ → ℕ → Bool
  pub fault_of : ℕ → ℕ → Option Fault

-- L1 tables
abbrev pub l1_kind : Kind
l1_kind = record { most = most_l1_entries; has_valid_count = λ _ _. true; fault_of = l1_fault }

-- L2 tables, each of which fills a cluster
abbrev pub l2_kind : Kind
l2_kind = record { most = most_l2_entries; has_valid_count = λ cb n. n == l2_entries cb; fault_of = l2_fault }

-- why n entries can't lie in an image from an offset on: they are more than the most of their kind, or their
-- bytes end past the greatest end
abbrev pub entries_fault : ℕ → ℕ → ℕ → Option Fault
entries_fault most offset n = if nat_lt most n then Some TableTooBig else range_fault offset (8 * n)

-- the n numbers of eight bytes each, big-endian, from an offset on
abbrev pub table_numbers : Image → ℕ → ℕ → List ℕ
table_numbers image offset n = map (λ i. be image (offset + 8 * i) 8) (range_with_len 0 n)

-- the numbers that are in pieces of eight bytes
abbrev pub chunk_numbers : List (List ℕ) → List ℕ
chunk_numbers chunks = map (λ chunk. be (image_of chunk) 0 8) chunks

-- the fault of the first number that is no entry, if there is one
abbrev pub first_fault : (ℕ → Option Fault) → List ℕ → Option Fault
first_fault fault [] = None
first_fault fault (v ∷ vs) = option_or (fault v) (first_fault fault vs)

-- numbers as a table: the numbers, or the fault of the first that is no entry
abbrev pub valid_numbers : (ℕ → Option Fault) → List ℕ → Result (List ℕ) Fault
valid_numbers fault numbers = unless_refused (first_fault fault numbers) (Ok numbers)

-- how n entries of a kind lie in an image with clusters of 2 ^ cb bytes
abbrev pub table_layout : Kind → ℕ → ℕ → Layout
table_layout kind cb n = record {
  cluster_bits = cb;
  count = n;
  width = 64;
  byte_count = 8 * n;
  bytes_of = big_endian_bytes 8;
  numbers_from = λ image offset. table_numbers image offset n;
  fault_of_offset = λ offset. entries_fault kind.most offset n;
  fault_of_numbers = first_fault (kind.fault_of cb);
}

-- how the entries of a table lie in an image
abbrev pub layout_of_table : Kind → TableState → Layout
layout_of_table kind table = table_layout kind table.geometry.cluster_bits (length table.numbers)

-- how an L2 table, which fills a cluster, lies in an image
abbrev pub l2_layout : Geometry → Layout
l2_layout g = table_layout l2_kind g.cluster_bits (l2_entries g.cluster_bits)

-- where the entry of a guest cluster is in its L2 table
abbrev pub place_in_table : TableState → ℕ → ℕ
place_in_table table guest_cluster = guest_cluster % l2_entries table.geometry.cluster_bits

-- what a guest cluster reads as by its entry in an L2 table
abbrev pub mapping_at : TableState → ℕ → Mapping
mapping_at table guest_cluster =
    mapping table.geometry guest_cluster (slice_index table.numbers (place_in_table table guest_cluster))

-- the L2 table that begins with a cluster
abbrev pub loaded_l2_table : Geometry → HostCluster → Image → Result (List ℕ) Fault
loaded_l2_table g cluster image = loaded_numbers (l2_layout g) cluster image

-- the refusals of a table's entries
abbrev pub IsEntryFault : Fault → Type 0
IsEntryFault fault = (fault ≡ EntryReserved) ⊎ (fault ≡ EntryUnaligned)

-- the faults of what is read of a table at a valid place
abbrev pub IsContentFault : Fault → Type 0
IsContentFault fault = IsEntryFault fault ⊎ IsFromOutside fault

-- the refusals of a table's load: that of its place, or one of its entries
abbrev pub IsTableFault : Layout → HostCluster → Fault → Type 0
IsTableFault layout cluster fault = (place_fault layout cluster ≡ Some fault) ⊎ IsEntryFault fault

-- what holds of every table: its numbers are entries of its kind, as many as such a table may have, and as memory holds
pub record IsValidTable (kind : Kind) (cb : ℕ) (cluster : Option HostCluster) (numbers : List ℕ) : Type 0 where
  pub entries : IsValid (table_layout kind cb (length numbers)) cluster numbers
  pub count : IsTrue (kind.has_valid_count cb (length numbers))
  pub bound : length numbers ≤ most_entries_in_memory

-- a cluster that an entry may refer to: not the header's, and with an offset that the entry can hold
pub record IsReferable (cb : ℕ) (cluster : HostCluster) : Type 0 where
  pub some : 0 < cluster.0
  pub place : cluster.0 * 2 ^ cb ≤ max_offset
