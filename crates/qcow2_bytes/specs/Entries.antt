-- What do numbers in L1 and L2 tables say, by the fields of a header?
use Rattle.std.specs.Prelude.{◌≡◌, ℕ, Bool, true, false, ◌*◌, ◌/◌, ◌%◌, ◌^◌, ◌<◌, ◌==◌, List, [], ◌∷◌, length, Option, Some, None, Result, Ok, MatchOption}
use Rattle.qcow2_base.specs.Storage.{be, image_of}
use Rattle.qcow2_base.specs.declared.fault.Fault.{Fault}
use Rattle.qcow2_base.specs.declared.fault.Fault.TheVariants.{WrongLength}
use Rattle.qcow2_metadata.specs.Results.{after_conditions, and_then, unless_refused}
use Rattle.qcow2_metadata.specs.Header.{Geometry}
use Rattle.qcow2_metadata.specs.Entries.{is_copied, offset_field}
use Rattle.qcow2_metadata.specs.Entries.L1Entry.{l1_fault}
use Rattle.qcow2_metadata.specs.Entries.L2Entry.{l2_fault}
use Rattle.qcow2_metadata.specs.Entries.L2Mapping.{Mapping, backing, compressed, data_file, mapping, zeros}
use Rattle.qcow2_bytes.specs.Header.{geometry_in}
use Rattle.qcow2_bytes.specs.declared.entries.BadEntry.{BadEntry}
use Rattle.qcow2_bytes.specs.declared.entries.EntryMapping.{EntryMapping}
use Rattle.qcow2_bytes.specs.declared.entries.L2Pointer.{L2Pointer}
use Rattle.qcow2_bytes.specs.declared.header.HeaderFields.{HeaderFields}

-- a fact as a number: 1 where it is so
abbrev pub flag_number : Bool → ℕ
flag_number true = 1
flag_number false = 0

-- what a valid number in an L1 table says: where the L2 table lies, 0 for none, and that its refcount is one, if it says so
abbrev pub l2_pointer : ℕ → L2Pointer
l2_pointer entry = record { offset = offset_field entry; copied = is_copied entry }

-- what a number in an L1 table says, or why it is refused
abbrev pub l1_entry_in : HeaderFields → ℕ → Result L2Pointer Fault
l1_entry_in fields entry = and_then (geometry_in fields) (λ g.
    unless_refused (l1_fault g.cluster_bits entry) (Ok (l2_pointer entry)))

-- a mapping in fields, with clusters of 2 ^ cb bytes: its kind's number, the copied flag, and where how many bytes of it lie
abbrev pub mapping_fields : ℕ → Mapping → EntryMapping
mapping_fields cb (backing offset) = record { kind = 0; copied = 0; offset = offset; length = 2 ^ cb }
mapping_fields cb (data_file cluster copied) = record { kind = 1; copied = flag_number copied; offset = cluster * 2 ^ cb; length = 2 ^ cb }
mapping_fields cb (zeros None copied) = record { kind = 2; copied = flag_number copied; offset = 0; length = 0 }
mapping_fields cb (zeros (Some cluster) copied) = record { kind = 3; copied = flag_number copied; offset = cluster * 2 ^ cb; length = 2 ^ cb }
mapping_fields cb (compressed offset length) = record { kind = 4; copied = 0; offset = offset; length = length }

-- what the cluster of a guest offset reads as by a number in an L2 table, or why that is refused
abbrev pub l2_entry_in : HeaderFields → ℕ → ℕ → Result EntryMapping Fault
l2_entry_in fields entry guest_offset = and_then (geometry_in fields) (λ g.
    unless_refused (l2_fault g.cluster_bits entry)
    (Ok (mapping_fields g.cluster_bits (mapping g (guest_offset / 2 ^ g.cluster_bits) entry))))

-- the number of eight bytes at an index
abbrev pub number_at : List ℕ → ℕ → ℕ
number_at bytes index = be (image_of bytes) (8 * index) 8

-- the first of the numbers that is no L2 entry is this one, or all are entries
abbrev pub IsFirstBad : ℕ → List ℕ → Option BadEntry → Type 0
IsFirstBad cb bytes found = MatchOption found
    ((i : ℕ) → 8 * i < length bytes → l2_fault cb (number_at bytes i) ≡ None)
    (λ bad. (8 * bad.index < length bytes) × (l2_fault cb (number_at bytes bad.index) ≡ Some bad.fault)
    × ((i : ℕ) → i < bad.index → l2_fault cb (number_at bytes i) ≡ None))

-- what the bytes of entries are looked at by: the fields' geometry, where they are whole entries
abbrev pub table_geometry : HeaderFields → List ℕ → Result Geometry Fault
table_geometry fields bytes = and_then (geometry_in fields) (λ g.
    after_conditions ((length bytes % 8 == 0, WrongLength) ∷ []) (λ _. Ok g))
