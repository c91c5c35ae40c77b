-- Which extents does a whole disk read as, one after another?
use Rattle.std.specs.Prelude.{◌≡◌, ◌≢◌, ◌⊎◌, ℕ, ◌+◌, ◌-◌, ◌*◌, ◌/◌, ◌%◌, ◌^◌, ◌<◌, ◌≤◌, List, [], ◌∷◌, Option, Some, None, Result, Ok, Err, IfSome}
use Rattle.qcow2_base.specs.Storage.{Image, OnImage, StorageState}
use Rattle.qcow2_base.specs.declared.fault.Fault.{Fault}
use Rattle.qcow2_base.specs.declared.fault.Fault.TheVariants.{NoMemory, Storage}
use Rattle.qcow2_metadata.specs.Results.{result_map}
use Rattle.qcow2_metadata.specs.Entries.L2Mapping.{Mapping, backing, compressed, data_file, zeros}
use Rattle.qcow2_metadata.specs.Header.{Geometry, HeaderRecord, geometry_of}
use Rattle.qcow2_metadata.specs.Table.{TableState, l2_entries, loaded_l2_table, mapping_at}
use Rattle.qcow2_image.specs.Lookups.{guest_mapping, l2_cluster}
use Rattle.qcow2_image.specs.declared.extents.Content.{Content}
use Rattle.qcow2_image.specs.declared.extents.Content.TheVariants.{Absent, AllocatedZeros, Compressed, Data, Zeros}
use Rattle.qcow2_image.specs.declared.extents.Extent.{Extent}

-- what each guest byte of an image reads as, or why that can't be known
abbrev pub Contents : Type 0
Contents = ℕ → Result Content Fault

-- what the byte at a distance from its cluster's begin reads as, by what its cluster reads as
abbrev pub content_in : ℕ → ℕ → Mapping → Content
content_in cb distance (data_file cluster copied) = Data (record { 0 = cluster * 2 ^ cb + distance })
content_in cb distance (backing offset) = Absent
content_in cb distance (zeros (Some cluster) copied) = AllocatedZeros (record { 0 = cluster * 2 ^ cb + distance })
content_in cb distance (zeros None copied) = Zeros
content_in cb distance (compressed offset length) = Compressed

-- what each guest byte reads as, in an image with this L1 table
abbrev pub contents_of : Geometry → List ℕ → Image → Contents
contents_of g l1 image offset =
    let cb = g.cluster_bits in result_map (content_in cb (offset % 2 ^ cb)) (guest_mapping g l1 offset image)

-- what the byte that many bytes further on reads as, where it goes on from one that reads as this
abbrev pub moved_on : ℕ → Content → Content
moved_on distance (Data offset) = Data (record { 0 = offset.0 + distance })
moved_on distance Zeros = Zeros
moved_on distance (AllocatedZeros offset) = AllocatedZeros (record { 0 = offset.0 + distance })
moved_on distance Compressed = Compressed
moved_on distance Absent = Absent

-- that many bytes from an offset on read as one: the first as this content, each later one as it moved on so far
abbrev pub ReadAsOne : Contents → ℕ → ℕ → Content → Type 0
ReadAsOne contents from length content = (n : ℕ) → n < length → contents (from + n) ≡ Ok (moved_on n content)

-- an extent of a disk of this size that begins at an offset: it has bytes, all of them of the disk, which read as one. It
-- ends with the disk, or the next byte reads as something that doesn't go on from them
pub record IsExtent (contents : Contents) (size from : ℕ) (extent : Extent) : Type 0 where
  pub start : extent.start.0 ≡ from
  pub some : 0 < extent.length
  pub within : from + extent.length ≤ size
  pub reads : ReadAsOne contents from extent.length extent.content
  pub ends : from + extent.length < size → (other : Content) × (contents (from + extent.length) ≡ Ok other)
      × (other ≢ moved_on extent.length extent.content)

-- extents one after another, from an offset up to another
abbrev pub AreExtents : Contents → ℕ → ℕ → List Extent → ℕ → Type 0
AreExtents contents size from [] to = from ≡ to
AreExtents contents size from (extent ∷ extents) to =
    IsExtent contents size from extent × AreExtents contents size (from + extent.length) extents to

-- why no extent can be found at an offset: the storage failed, memory ran out, or the bytes from there on, perhaps none,
-- read as one up to a byte of the disk whose L2 table is refused by this fault
abbrev pub RefusesExtent : Contents → ℕ → ℕ → Fault → Type 0
RefusesExtent contents size from fault = (fault ≡ Storage) ⊎ (fault ≡ NoMemory)
    ⊎ ((length : ℕ) × (content : Content) × (from + length < size)
    × ReadAsOne contents from length content × (contents (from + length) ≡ Err fault))

-- the extents from an offset on up to another, at which none can be found for this fault
abbrev pub AreExtentsBefore : Contents → ℕ → ℕ → List Extent → Fault → Type 0
AreExtentsBefore contents size from extents fault =
    (to : ℕ) × AreExtents contents size from extents to × RefusesExtent contents size to fault

-- a content and an end: the bytes from an offset on up to there, one at least, read as one, the first as this content
abbrev pub IsPiece : Contents → ℕ → ℕ → Content × ℕ → Type 0
IsPiece contents size from piece = (from < piece.1) × (piece.1 ≤ size) × ReadAsOne contents from (piece.1 - from) piece.0

-- what a reader of extents has: the image's header and L1 table, and the offset that it has come to. Also an L2 table that
-- it keeps, and the piece at that offset, where it has looked at it already
pub record ExtentsState : Type 0 where
  pub header : HeaderRecord
  pub l1 : List ℕ
  pub position : ℕ
  pub table : Option TableState
  pub ahead : Option (Content × ℕ)

-- what each guest byte reads as in an image that a reader reads
abbrev pub contents_for : ExtentsState → Image → Contents
contents_for reader image = contents_of (geometry_of reader.header) reader.l1 image

-- the numbers of the table that is kept, none if none is
abbrev pub kept_numbers : Option TableState → List ℕ
kept_numbers None = []
kept_numbers (Some table) = table.numbers

-- a table that is kept, if there is one, is the one at its cluster in the image
abbrev pub IsKeptOf : Geometry → Image → Option TableState → Type 0
IsKeptOf g image kept = IfSome kept (λ (table : TableState).
    IfSome table.cluster (λ cluster. loaded_l2_table g cluster image ≡ Ok table.numbers))

-- a reader reads this image: what it keeps is the same as there
abbrev pub IsReaderOf : Image → ExtentsState → Type 0
IsReaderOf image reader = IsKeptOf (geometry_of reader.header) image reader.table
    × IfSome reader.ahead (IsPiece (contents_for reader image) reader.header.v2.size reader.position)

-- a reader stays as it is, but that it may keep another table of the image
pub record StaysReader (image : StorageState) (old new : ExtentsState) : Type 0 where
  pub same : new ≡ record old { table = new.table }
  pub kept : OnImage image (λ bytes. IsKeptOf (geometry_of new.header) bytes new.table)

-- a reader stays as it is, but for its offset and what it keeps of the image
pub record MovesReader (image : StorageState) (old new : ExtentsState) : Type 0 where
  pub same : new ≡ record old { position = new.position; table = new.table; ahead = new.ahead }
  pub kept : OnImage image (λ bytes. IsReaderOf bytes new)

-- what a reader returns, and the offset that it comes to: nothing at the disk's end, the extent at its offset, which it
-- passes, or why that can't be found, and it stays. The disk's contents are those of the image, where its bytes are known
abbrev pub PassesExtent : StorageState → ExtentsState → Result (Option Extent) Fault → ℕ → Type 0
PassesExtent image reader (Ok None) to = (reader.position ≡ reader.header.v2.size) × (to ≡ reader.position)
PassesExtent image reader (Ok (Some extent)) to = (extent.start.0 ≡ reader.position) × (0 < extent.length)
    × (to ≡ reader.position + extent.length) × (to ≤ reader.header.v2.size)
    × OnImage image (λ bytes. IsExtent (contents_for reader bytes) reader.header.v2.size reader.position extent)
PassesExtent image reader (Err fault) to = (to ≡ reader.position) × (reader.position < reader.header.v2.size)
    × OnImage image (λ bytes. RefusesExtent (contents_for reader bytes) reader.header.v2.size reader.position fault)

-- the bytes of an offset up to another, with a content, as an extent
abbrev pub extent_of : ℕ → Content × ℕ → Extent
extent_of start found = record { start = record { 0 = start }; length = found.1 - start; content = found.0 }

-- what each guest byte reads as by the entries of one table, if it is in the part of the disk that the table is for
abbrev pub contents_in : TableState → Contents
contents_in table offset =
    let cb = table.geometry.cluster_bits in Ok (content_in cb (offset % 2 ^ cb) (mapping_at table (offset / 2 ^ cb)))

-- the bytes from an offset on up to another all have their entries in one table
abbrev pub AreInOneTable : ℕ → ℕ → ℕ → Type 0
AreInOneTable cb from to = (offset : ℕ) → from ≤ offset → offset < to →
    offset / 2 ^ cb / l2_entries cb ≡ from / 2 ^ cb / l2_entries cb

-- no L2 table is for a byte from an offset on up to another
abbrev pub HasNoTable : ℕ → List ℕ → ℕ → ℕ → Type 0
HasNoTable cb l1 from to = (offset : ℕ) → from ≤ offset → offset < to → l2_cluster cb l1 (offset / 2 ^ cb) ≡ None
