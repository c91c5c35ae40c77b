-- What do the entries in the bytes of an L2 table read as, joined to extents?
pub mod Edit
use Rattle.std.specs.Prelude.{◌≡◌, ◌⊎◌, ℕ, Bool, true, false, ◌&&◌, ◌==◌, ◌+◌, ◌*◌, ◌/◌, ◌%◌, ◌^◌, ◌<◌, ◌≤◌, nat_le, nat_lt, List, [], ◌∷◌, length, take, drop, Option, Some, None, Result, Ok, Err, IsOkAnd, bit_and}
use Rattle.qcow2_base.specs.Format.{most_l2_entries}
use Rattle.qcow2_base.specs.declared.fault.Fault.{Fault}
use Rattle.qcow2_base.specs.declared.fault.Fault.TheVariants.{WrongLength}
use Rattle.qcow2_metadata.specs.Results.{after_conditions, and_then}
use Rattle.qcow2_metadata.specs.Header.{Geometry}
use Rattle.qcow2_metadata.specs.Entries.L2Entry.{l2_fault}
use Rattle.qcow2_metadata.specs.Entries.L2Mapping.{Mapping, mapping}
use Rattle.qcow2_metadata.specs.Entries.Runs.{reads_on}
use Rattle.qcow2_bytes.specs.Entries.{IsFirstBad, mapping_fields, number_at}
use Rattle.qcow2_bytes.specs.Header.{geometry_in}
use Rattle.qcow2_bytes.specs.declared.entries.BadEntry.{BadEntry}
use Rattle.qcow2_bytes.specs.declared.header.HeaderFields.{HeaderFields}
use Rattle.qcow2_bytes.specs.declared.tables.EntryPattern.{EntryPattern}
use Rattle.qcow2_bytes.specs.declared.images.extents.ExtentFields.{ExtentFields}

-- whether the bytes are whole entries of one table, whose guest clusters begin with one that has this offset, and end below 2 ^ 64
abbrev pub are_in_table : ℕ → List ℕ → ℕ → Bool
are_in_table cb bytes offset = (length bytes % 8 == 0) && nat_le (length bytes) (2 ^ cb) && (offset % 2 ^ cb == 0)
    && nat_lt (offset + length bytes / 8 * 2 ^ cb) (2 ^ 64)

-- what such bytes are looked at by: the fields' geometry, or why they are refused
abbrev pub part_geometry : HeaderFields → List ℕ → ℕ → Result Geometry Fault
part_geometry fields bytes offset = and_then (geometry_in fields) (λ g.
    after_conditions ((are_in_table g.cluster_bits bytes offset, WrongLength) ∷ []) (λ _. Ok g))

-- what a guest cluster reads as by the number at an index, where the first number is for the cluster with this offset
abbrev pub entry_mapping : Geometry → ℕ → List ℕ → ℕ → Mapping
entry_mapping g offset bytes index = mapping g (offset / 2 ^ g.cluster_bits + index) (number_at bytes index)

-- an extent of that many guest clusters: its kind and its place are those of the first one's mapping
abbrev pub table_extent_fields : ℕ → ℕ → ℕ → Mapping → ExtentFields
table_extent_fields cb guest_offset count mapping = record {
  kind = (mapping_fields cb mapping).kind;
  reserved = 0;
  guest_offset = guest_offset;
  length = count * 2 ^ cb;
  offset = (mapping_fields cb mapping).offset;
}

-- that many entries from an index on read as one, one at least, and are an extent. The next one, if there is one, doesn't read on
pub record IsTableExtent (g : Geometry) (offset : ℕ) (bytes : List ℕ) (index count : ℕ) (extent : ExtentFields) : Type 0 where
  pub some : 1 ≤ count
  pub within : 8 * (index + count) ≤ length bytes
  pub fields : extent ≡ table_extent_fields g.cluster_bits (offset + index * 2 ^ g.cluster_bits) count (entry_mapping g offset bytes index)
  pub each : (k : ℕ) → 1 ≤ k → k < count →
      reads_on k (entry_mapping g offset bytes index) (entry_mapping g offset bytes (index + k)) ≡ true
  pub ends : 8 * (index + count) < length bytes →
      reads_on count (entry_mapping g offset bytes index) (entry_mapping g offset bytes (index + count)) ≡ false

-- extents one after another, of the entries from an index on up to another
abbrev pub AreTableExtents : Geometry → ℕ → List ℕ → ℕ → List ExtentFields → ℕ → Type 0
AreTableExtents g offset bytes from [] to = from ≡ to
AreTableExtents g offset bytes from (extent ∷ extents) to =
    (count : ℕ) × IsTableExtent g offset bytes from count extent × AreTableExtents g offset bytes (from + count) extents to

-- that many of the new places have the extents of entries from the first on, up to one. The others are the old ones. All
-- entries are in extents, or all places are used
pub record HoldsExtents (g : Geometry) (offset : ℕ) (bytes : List ℕ) (old new : List ExtentFields) (count end : ℕ) : Type 0 where
  pub places : length new ≡ length old
  pub within : count ≤ length new
  pub extents : AreTableExtents g offset bytes 0 (take count new) end
  pub others : drop count new ≡ drop count old
  pub whole : (8 * end ≡ length bytes) ⊎ (count ≡ length new)

-- bytes of which this is the first number that is no entry are joined, and the answer is how many extents there are; or it is
-- the first number's fault, and the places are the old ones
abbrev pub JoinsUnlessBad : Option BadEntry → Geometry → ℕ → List ℕ → List ExtentFields → List ExtentFields → Result ℕ Fault → Type 0
JoinsUnlessBad None g offset bytes old new answer =
    IsOkAnd answer (λ count. (end : ℕ) × HoldsExtents g offset bytes old new count end)
JoinsUnlessBad (Some bad) g offset bytes old new answer = (answer ≡ Err bad.fault) × (new ≡ old)

-- bytes of an L2 table are joined by the fields of a header; or they are refused, and the places are the old ones
abbrev pub JoinsEntries : HeaderFields → List ℕ → ℕ → List ExtentFields → List ExtentFields → Result ℕ Fault → Type 0
JoinsEntries fields bytes offset old new answer = elim (part_geometry fields bytes offset) [
  | Ok g ↦ (found : Option BadEntry) × IsFirstBad g.cluster_bits bytes found
      × JoinsUnlessBad found g offset bytes old new answer
  | Err fault ↦ (answer ≡ Err fault) × (new ≡ old)
]

-- the pattern of the entries that read on from one: a valid entry a distance further on has its bits just where it reads on
abbrev pub IsEntryPattern : Geometry → ℕ → EntryPattern → Type 0
IsEntryPattern g entry pattern = (k v c other : ℕ) → 1 ≤ k → k ≤ most_l2_entries → v < 2 ^ 64 → l2_fault g.cluster_bits v ≡ None
    → (bit_and v pattern.mask == pattern.value + k * pattern.step) ≡ reads_on k (mapping g c entry) (mapping g other v)

-- whether the number a distance after the one at an index has the bits of that one's pattern
abbrev pub has_pattern : EntryPattern → List ℕ → ℕ → ℕ → Bool
has_pattern pattern bytes index k =
    bit_and (number_at bytes (index + k)) pattern.mask == pattern.value + k * pattern.step

-- the numbers after the one at an index have its pattern up to an end, and the one there hasn't, unless that is the limit
pub record KeepPattern (pattern : EntryPattern) (bytes : List ℕ) (index limit end : ℕ) : Type 0 where
  pub some : index < end
  pub within : end ≤ limit
  pub each : (k : ℕ) → 1 ≤ k → index + k < end → has_pattern pattern bytes index k ≡ true
  pub ends : end < limit → (k : ℕ) → index + k ≡ end → has_pattern pattern bytes index k ≡ false
