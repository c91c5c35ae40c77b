-- What do edits of one L2 table change in a whole image: in lookups, and in references to clusters?
use Rattle.std.specs.Prelude.{◌≡◌, ◌≢◌, ℕ, ◌+◌, ◌/◌, ◌^◌, ◌<◌, ◌≤◌, List, ◌∷◌, map, slice_get, Option, Some, Result, Ok}
use Rattle.std.specs.List.{filter_map, sum_by}
use Rattle.qcow2_base.specs.Storage.{Image}
use Rattle.qcow2_base.specs.declared.fault.Fault.{Fault}
use Rattle.qcow2_base.specs.declared.types.HostCluster.{HostCluster}
use Rattle.qcow2_edits.specs.Edits.{cluster_numbers}
use Rattle.qcow2_edits.specs.declared.edits.Outcome.{Outcome}
use Rattle.qcow2_metadata.specs.Results.{and_then}
use Rattle.qcow2_metadata.specs.Table.L2Guards.{handed_back, references, times_gained}
use Rattle.qcow2_metadata.specs.Entries.L2Entry.{ByteRange}
use Rattle.qcow2_metadata.specs.Entries.L2Mapping.{Mapping}
use Rattle.qcow2_metadata.specs.Header.{Geometry, HeaderRecord, geometry_of}
use Rattle.qcow2_metadata.specs.Header.Grammar.{header_of}
use Rattle.qcow2_check.specs.NamedTables.{l1_cluster, l1_layout, loaded_l1_table, named_cluster}
use Rattle.qcow2_image.specs.Lookups.{image_mapping, l2_cluster, mapping_by}
use Rattle.qcow2_metadata.specs.Table.{l2_layout}
use Rattle.qcow2_metadata.specs.Placed.{Layout, numbers_at, offset_of}

-- the byte at an offset is one of the range's
abbrev pub IsWithin : ByteRange → ℕ → Type 0
IsWithin range o = (range.start ≤ o) × (o < range.end)

-- no byte lies in both ranges
abbrev pub ShareNoByte : ByteRange → ByteRange → Type 0
ShareNoByte one other = (o : ℕ) → IsWithin one o → IsWithin other o → ⊥

-- no two of the ranges share a byte
abbrev pub AreApart : List ByteRange → Type 0
AreApart ranges = (i j : ℕ) (one other : ByteRange) → i ≢ j →
    slice_get ranges i ≡ Some one → slice_get ranges j ≡ Some other → ShareNoByte one other

-- the bytes of an image's first cluster
abbrev pub first_cluster_bytes : HeaderRecord → ByteRange
first_cluster_bytes header = record { start = 0; end = 2 ^ header.v2.cluster_bits }

-- the bytes of the table that begins with a cluster
abbrev pub table_bytes : Layout → HostCluster → ByteRange
table_bytes layout cluster =
    record { start = offset_of layout cluster; end = offset_of layout cluster + layout.byte_count }

-- the bytes of the L2 table that begins with a cluster
abbrev pub l2_bytes : Geometry → HostCluster → ByteRange
l2_bytes g cluster = table_bytes (l2_layout g) cluster

-- the cluster that the L2 table of a guest offset begins with in an image, if there is one
abbrev pub l2_cluster_in : ℕ → Image → Result (Option HostCluster) Fault
l2_cluster_in offset image =
    and_then (header_of image) (λ header.
    and_then (loaded_l1_table header image) (λ l1.
    let cb = header.v2.cluster_bits in Ok (l2_cluster cb l1 (offset / 2 ^ cb))))

-- what lookups return after a change of the L2 table that begins with a cluster. An offset whose own L2 table shares no
-- byte with it reads as before, and one whose L2 table it is reads as that table says now
pub record ChangesOwnLookups (header : HeaderRecord) (cluster : HostCluster) (old new : Image) : Type 0 where
  pub others : (offset : ℕ) →
      ((other : HostCluster) → l2_cluster_in offset old ≡ Ok (Some other) →
      ShareNoByte (l2_bytes (geometry_of header) other) (l2_bytes (geometry_of header) cluster)) →
      image_mapping offset new ≡ image_mapping offset old
  pub own : (offset : ℕ) → l2_cluster_in offset old ≡ Ok (Some cluster) →
      image_mapping offset new
      ≡ mapping_by (geometry_of header) (Some cluster) (offset / 2 ^ header.v2.cluster_bits) new

-- an image has a header of this geometry, and its L2 table at a cluster shares no byte with the first cluster and the L1
-- table
pub record HasTableApart (g : Geometry) (cluster : HostCluster) (header : HeaderRecord) (image : Image) : Type 0 where
  pub begins : header_of image ≡ Ok header
  pub geometry : geometry_of header ≡ g
  pub first_cluster : ShareNoByte (first_cluster_bytes header) (l2_bytes g cluster)
  pub l1_table : ShareNoByte (table_bytes (l1_layout header) (l1_cluster header)) (l2_bytes g cluster)

-- the clusters that the L2 tables of an L1 table begin with, in its order
abbrev pub l2_clusters : ℕ → List ℕ → List HostCluster
l2_clusters cb l1 = filter_map (named_cluster cb) l1

-- how many entries of all of an image's L2 tables refer to a cluster
abbrev pub image_references : Geometry → List ℕ → Image → ℕ → ℕ
image_references g l1 image c =
    sum_by (λ table. references g (numbers_at (l2_layout g) table image) c) (l2_clusters g.cluster_bits l1)

-- the bytes of the first cluster, of the L1 table and of each L2 table
abbrev pub bytes_of_tables : HeaderRecord → List ℕ → List ByteRange
bytes_of_tables header l1 = first_cluster_bytes header ∷ table_bytes (l1_layout header) (l1_cluster header)
    ∷ map (l2_bytes (geometry_of header)) (l2_clusters header.v2.cluster_bits l1)

-- an image with this header and this L1 table in which each guest offset can be looked up, and no two tables share a byte
pub record IsSoundImage (image : Image) (header : HeaderRecord) (l1 : List ℕ) : Type 0 where
  pub begins : header_of image ≡ Ok header
  pub l1_table : loaded_l1_table header image ≡ Ok l1
  pub readable : (offset : ℕ) → (found : Mapping) × (image_mapping offset image ≡ Ok found)
  pub apart : AreApart (bytes_of_tables header l1)

-- references in a whole image: those after edits and those handed back are those before and those gained
abbrev pub BalancesImage : Geometry → List ℕ → Outcome → Image → Image → Type 0
BalancesImage g l1 outcome old new = (c : ℕ) →
    image_references g l1 new c + handed_back outcome.freed.items c
    ≡ image_references g l1 old c + times_gained (cluster_numbers outcome.gained.items) c

-- where the image was sound, with a header of this geometry, and one of its L2 tables begins with a cluster, it stays sound
-- after edits of that table, and no reference of it is lost
abbrev pub KeepsImageSound : Geometry → HostCluster → Outcome → Image → Image → Type 0
KeepsImageSound g cluster outcome old new = (header : HeaderRecord) (l1 : List ℕ) (k : ℕ) →
    IsSoundImage old header l1 → geometry_of header ≡ g → slice_get (l2_clusters header.v2.cluster_bits l1) k ≡ Some cluster →
    IsSoundImage new header l1 × BalancesImage g l1 outcome old new
