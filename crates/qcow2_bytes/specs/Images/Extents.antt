-- Which extents does a call put into a list, by a whole image in memory?
use Rattle.std.specs.Prelude.{◌≡◌, ◌⊎◌, ◌<◌, ◌≤◌, ℕ, ◌++◌, List, drop, length, map, min, Result, Ok, Err, IsErrAnd}
use Rattle.qcow2_base.specs.Storage.{Image}
use Rattle.qcow2_base.specs.declared.fault.Fault.{Fault}
use Rattle.qcow2_check.specs.NamedTables.{loaded_l1_table}
use Rattle.qcow2_image.specs.Extents.{AreExtents, Contents, ExtentsState, RefusesExtent, contents_for, contents_of}
use Rattle.qcow2_image.specs.declared.extents.Content.{Content}
use Rattle.qcow2_image.specs.declared.extents.Content.TheVariants.{Absent, AllocatedZeros, Compressed, Data, Zeros}
use Rattle.qcow2_image.specs.declared.extents.Extent.{Extent}
use Rattle.qcow2_metadata.specs.Header.{HeaderRecord, geometry_of}
use Rattle.qcow2_metadata.specs.Results.{IsFromOutside, and_then, result_map}
use Rattle.qcow2_bytes.specs.Header.{any_header_of}
use Rattle.qcow2_bytes.specs.declared.images.extents.CutShort.{CutShort}
use Rattle.qcow2_bytes.specs.declared.images.extents.ExtentFields.{ExtentFields}

-- the number of a content, as that of a mapping
abbrev pub content_number : Content → ℕ
content_number Absent = 0
content_number (Data offset) = 1
content_number Zeros = 2
content_number (AllocatedZeros offset) = 3
content_number Compressed = 4

-- where the first byte of an extent lies: in the backing file at its own offset, in the data file, or nowhere by itself
abbrev pub content_offset : ℕ → Content → ℕ
content_offset start Absent = start
content_offset start (Data offset) = offset.0
content_offset start Zeros = 0
content_offset start (AllocatedZeros offset) = offset.0
content_offset start Compressed = 0

-- an extent in fields
abbrev pub extent_fields : Extent → ExtentFields
extent_fields extent = record {
  kind = content_number extent.content;
  reserved = 0;
  guest_offset = extent.start.0;
  length = extent.length;
  offset = content_offset extent.start.0 extent.content;
}

-- a guest's disk: what each byte reads as, and how many they are
pub record GuestDisk : Type 0 where
  pub contents : Contents
  pub size : ℕ

-- the disk that a reader of extents reads
abbrev pub disk_for : ExtentsState → Image → GuestDisk
disk_for reader image = record { contents = contents_for reader image; size = reader.header.v2.size }

-- the disk of an image with this header, or why its L1 table is refused
abbrev pub guest_disk_in : HeaderRecord → Image → Result GuestDisk Fault
guest_disk_in header image = result_map
    (λ l1. record { contents = contents_of (geometry_of header) l1 image; size = header.v2.size })
    (loaded_l1_table header image)

-- the disk of an image, or why its header or its L1 table is refused
abbrev pub guest_disk : Image → Result GuestDisk Fault
guest_disk image = and_then (any_header_of image) (λ header. guest_disk_in header image)

-- a list begins with these items, and goes on as it was
abbrev pub IsPutOver : {T : Type 0} → List T → List T → List T → Type 0
IsPutOver items old new = new ≡ items ++ drop (length items) old

-- extents of a disk stand in a list: one after another, from an offset up to another
pub record AreListed (disk : GuestDisk) (from to : ℕ) (extents : List Extent) (old new : List ExtentFields) : Type 0 where
  pub in_turn : AreExtents disk.contents disk.size from extents to
  pub room : length extents ≤ length old
  pub put : IsPutOver (map extent_fields extents) old new

-- what is put of a disk's extents from an offset on: after `Ok` as many as there is room for, or all up to the disk's end; after
-- a fault those before one that can't be found, for which there was room where it is a fault of the image
abbrev pub PutsExtents : GuestDisk → ℕ → List ExtentFields → List ExtentFields → Result ℕ CutShort → Type 0
PutsExtents disk from old new (Ok count) = (extents : List Extent) × (to : ℕ) × AreListed disk from to extents old new
    × (count ≡ length extents) × ((count ≡ length old) ⊎ (to ≡ disk.size))
PutsExtents disk from old new (Err cut) = (extents : List Extent) × (to : ℕ) × AreListed disk from to extents old new
    × (cut.count ≡ length extents) × (IsFromOutside cut.fault ⊎ (cut.count < length old))
    × RefusesExtent disk.contents disk.size to cut.fault

-- the same of the disk that an image has, if it has one: from the offset, or from the disk's end on where that comes before.
-- Else nothing is put, and its fault is returned, unless memory ran out or the storage failed
abbrev pub PutsDiskExtents : Result GuestDisk Fault → ℕ → List ExtentFields → List ExtentFields → Result ℕ CutShort → Type 0
PutsDiskExtents (Ok disk) from old new answer = PutsExtents disk (min from disk.size) old new answer
PutsDiskExtents (Err fault) from old new answer = (new ≡ old) × IsErrAnd answer (λ cut. (cut.count ≡ 0)
    × (IsFromOutside cut.fault ⊎ (cut.fault ≡ fault)))
