-- What is written for one entry of a table, with those beside it?
use Rattle.std.specs.Prelude.{◌≡◌, ◌≢◌, ◌⊎◌, ℕ, ◌+◌, ◌*◌, ◌/◌, ◌^◌, ◌<◌, ◌≤◌, max, nat_le, if◌then◌else◌, List, map, length, slice_index, Option, Some, option_map, Result, Err, OnOk, IfErr, IfSome}
use Rattle.std.specs.List.{range_with_len}
use Rattle.qcow2_metadata.specs.Pieces.{piece_size}
use Rattle.qcow2_base.specs.Storage.{Image, OnImages, OnlyWrites, SameOutside, StorageState, be}
use Rattle.qcow2_base.specs.declared.fault.Fault.{Fault}
use Rattle.qcow2_base.specs.declared.fault.Fault.TheVariants.{NoMemory, Storage}
use Rattle.qcow2_base.specs.declared.types.HostCluster.{HostCluster}
use Rattle.qcow2_metadata.specs.Placed.{Layout, numbers_at, offset_of, write_fault}
use Rattle.qcow2_metadata.specs.Table.{table_numbers}

-- how many bytes are written for one entry, under cluster_bits: the greatest alignment that the storage asks
-- for, eight at least, or eight where that is more than a cluster
abbrev pub entry_alignment : ℕ → StorageState → ℕ
entry_alignment cb storage =
    let most = max (max storage.mem_align storage.req_align) 8 in
    if nat_le most (2 ^ cb) then most else 8

-- entries of a table that are written together: the first one's index, and how many they are
pub record EntryRange : Type 0 where
  pub first : ℕ
  pub count : ℕ

-- the entries in the aligned bytes of the one at an index, counted from the table's first
abbrev pub entries_together : ℕ → StorageState → ℕ → EntryRange
entries_together cb storage index =
    let count = entry_alignment cb storage / 8 in
    record { first = index / count * count; count = count }

-- this number of entries is a power of two, and no more than fill a cluster
abbrev pub IsPartOfCluster : ℕ → ℕ → Type 0
IsPartOfCluster cb count = (k : ℕ) × (count ≡ 2 ^ k) × (k + 3 ≤ cb)

-- where entries of the table at a cluster begin in the image
abbrev pub range_offset : Layout → HostCluster → EntryRange → ℕ
range_offset layout cluster range = offset_of layout cluster + 8 * range.first

-- the numbers of these entries: those of the table, and zeros past its end
abbrev pub numbers_in : EntryRange → List ℕ → List ℕ
numbers_in range numbers = map (λ i. slice_index numbers i) (range_with_len range.first range.count)

-- the entry at an index was written, with those beside it: their numbers are in the new image, and the whole table is
-- where the old image had the others
pub record IsWrittenEntry (index : ℕ) (range : EntryRange) (layout : Layout) (cluster : HostCluster) (numbers : List ℕ) (old new : Image) : Type 0 where
  pub entries : table_numbers new (range_offset layout cluster range) range.count ≡ numbers_in range numbers
  pub table : ((i : ℕ) → i < length numbers → i ≢ index →
      be old (offset_of layout cluster + 8 * i) 8 ≡ slice_index numbers i) → numbers_at layout cluster new ≡ numbers

-- the refusals of a write of entries at a valid place: the storage failed, or memory ran out, which is taken for more bytes
-- than a piece alone
abbrev pub IsEntryWriteFault : EntryRange → Fault → Type 0
IsEntryWriteFault range fault = (fault ≡ Storage) ⊎ ((fault ≡ NoMemory) × (piece_size < 8 * range.count))

-- a write of these entries from an offset on that ended in this answer
pub record WritesEntries {T : Type 0} (answer : Result T Fault) (offset : ℕ) (range : EntryRange) (numbers : List ℕ) (old new : StorageState) : Type 0 where
  pub faults : IfErr answer (IsEntryWriteFault range)
  pub written : OnImages old new (λ _ after.
      OnOk answer (table_numbers after offset range.count ≡ numbers_in range numbers))
  pub storage : OnlyWrites answer (Some offset) (8 * range.count) old new

-- a write of the entry at an index, with those beside it, that ended in this answer. `storage` says which bytes may change by
-- the alignment, and `others` serves callers who don't know that: none of any cluster but the entry's
pub record WritesEntry {T : Type 0} (layout : Layout) (index : ℕ) (numbers : List ℕ) (cluster : Option HostCluster) (answer : Result T Fault) (old new : StorageState) : Type 0 where
  pub refused : IfSome (write_fault layout cluster) (λ fault. answer ≡ Err fault)
  pub faults : IfErr answer (λ fault. (write_fault layout cluster ≡ Some fault)
      ⊎ IsEntryWriteFault (entries_together layout.cluster_bits old index) fault)
  pub written : OnImages old new (λ before after. OnOk answer (IfSome cluster
      (λ c. IsWrittenEntry index (entries_together layout.cluster_bits old index) layout c numbers before after)))
  pub others : OnImages old new (λ before after. IfSome cluster (λ c. let size = 2 ^ layout.cluster_bits in
      SameOutside ((offset_of layout c + 8 * index) / size * size) size before after))
  pub storage : let range = entries_together layout.cluster_bits old index in
      OnlyWrites answer (option_map (λ c. range_offset layout c range) cluster) (8 * range.count) old new
