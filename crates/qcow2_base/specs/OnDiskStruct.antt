-- Where does each field of a structure on the disk lie, and in which byte order?
use Rattle.std.specs.Prelude.{◌≡◌, ℕ, zero, suc, ◌+◌, ◌*◌, ◌<◌, ◌≤◌, ◌⊎◌, Bool, List, [], ◌∷◌, ◌==◌, nat_le, if◌then◌else◌, max}
use Rattle.qcow2_base.specs.Storage.{Image, be}
use Rattle.qcow2_base.specs.declared.on_disk_struct.v2_header.V2Header.{V2Header}
use Rattle.qcow2_base.specs.declared.on_disk_struct.v3_header_base.V3HeaderBase.{V3HeaderBase}
use Rattle.qcow2_base.specs.declared.on_disk_struct.header_extension_header.HeaderExtensionHeader.{HeaderExtensionHeader}
use Rattle.qcow2_base.specs.declared.on_disk_struct.snapshot_header.SnapshotHeader.{SnapshotHeader}

-- the order of a number's bytes: the most significant one first, or the least significant one
pub data Order : Type 0 where
  Big : Order
  Little : Order

-- the little-endian number of n bytes: the first byte, and 256 times the number of the others
unfoldable pub le : Image → ℕ → ℕ → ℕ
le image offset zero = 0
le image offset (suc n) = image offset + 256 * le image (offset + 1) n

-- the number of n bytes in either order
abbrev pub number_in : Order → Image → ℕ → ℕ → ℕ
number_in Big = be
number_in Little = le

-- a field of a structure: its place, its length in bytes, the order of its bytes, and its value
pub record LayoutField : Type 0 where
  pub place : ℕ
  pub size : ℕ
  pub order : Order
  pub value : ℕ

-- a field of that size in that order
abbrev pub field_in : Order → ℕ → ℕ → ℕ → LayoutField
field_in order place size value = record { place = place; size = size; order = order; value = value }

-- a big-endian field
abbrev pub big : ℕ → ℕ → ℕ → LayoutField
big = field_in Big

-- a little-endian field
abbrev pub little : ℕ → ℕ → ℕ → LayoutField
little = field_in Little

-- the image has each field's value at its place
abbrev pub HoldsLayout : Image → List LayoutField → Type 0
HoldsLayout image [] = Unit {0}
HoldsLayout image (f ∷ fields) =
    (number_in f.order image f.place f.size ≡ f.value) × HoldsLayout image fields

-- the offset is before or after each field
abbrev pub IsGap : List LayoutField → ℕ → Type 0
IsGap [] offset = Unit {0}
IsGap (f ∷ fields) offset = ((offset < f.place) ⊎ (f.place + f.size ≤ offset)) × IsGap fields offset

-- the new image has the fields' values at their places, and elsewhere the old image's bytes
pub record Stores (fields : List LayoutField) (old new : Image) : Type 0 where
  pub placed : HoldsLayout new fields
  pub gaps : (offset : ℕ) → IsGap fields offset → new offset ≡ old offset

-- the same fields, that many bytes further on
abbrev pub fields_moved_by : ℕ → List LayoutField → List LayoutField
fields_moved_by by [] = []
fields_moved_by by (f ∷ fields) = record f { place = by + f.place } ∷ fields_moved_by by fields

-- the end of the field that ends last
abbrev pub layout_end : List LayoutField → ℕ
layout_end [] = 0
layout_end (f ∷ fields) = max (f.place + f.size) (layout_end fields)

-- whether a buffer of len bytes is right for a value of this size: an integer needs exactly as many,
-- a structure at least
abbrev pub is_right_length : Bool → ℕ → ℕ → Bool
is_right_length exact size len = if exact then len == size else nat_le size len

-- the part of a header that each version has, at the start of the image
abbrev pub v2_header : V2Header → List LayoutField
v2_header h =
    big 0 4 h.magic
    ∷ big 4 4 h.version
    ∷ big 8 8 h.backing_file_offset
    ∷ big 16 4 h.backing_file_size
    ∷ big 20 4 h.cluster_bits
    ∷ big 24 8 h.size
    ∷ big 32 4 h.crypt_method
    ∷ big 36 4 h.l1_size
    ∷ big 40 8 h.l1_table_offset
    ∷ big 48 8 h.refcount_table_offset
    ∷ big 56 4 h.refcount_table_clusters
    ∷ big 60 4 h.nb_snapshots
    ∷ big 64 8 h.snapshots_offset
    ∷ []

-- the further part of a version 3 header; its places count from the end of the first part
abbrev pub v3_header_base : V3HeaderBase → List LayoutField
v3_header_base h =
    big 0 8 h.incompatible_features
    ∷ big 8 8 h.compatible_features
    ∷ big 16 8 h.autoclear_features
    ∷ big 24 4 h.refcount_order
    ∷ big 28 4 h.header_length
    ∷ []

-- what comes before the data of a header extension
abbrev pub header_extension_header : HeaderExtensionHeader → List LayoutField
header_extension_header h =
    big 0 4 h.extension_type
    ∷ big 4 4 h.length
    ∷ []

-- the part of fixed length of a snapshot's entry
abbrev pub snapshot_header : SnapshotHeader → List LayoutField
snapshot_header h =
    big 0 8 h.l1_table_offset
    ∷ big 8 4 h.l1_size
    ∷ big 12 2 h.id_str_size
    ∷ big 14 2 h.name_size
    ∷ big 16 4 h.date_sec
    ∷ big 20 4 h.date_nsec
    ∷ big 24 8 h.vm_clock_nsec
    ∷ big 32 4 h.vm_state_size
    ∷ big 36 4 h.extra_data_size
    ∷ []
