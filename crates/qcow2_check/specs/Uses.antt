-- Which clusters does an image use, and how often?
use Rattle.std.specs.Prelude.{ℕ, ◌*◌, ◌^◌, List, [], ◌∷◌, ◌++◌, flat_map, if◌then◌else◌, option_map, option_to_list, unwrap_or, Some, None, Result, Ok}
use Rattle.std.specs.Int.{div_ceil}
use Rattle.std.specs.List.{sum_by}
use Rattle.qcow2_base.specs.Storage.{Image}
use Rattle.qcow2_base.specs.declared.fault.Fault.{Fault}
use Rattle.qcow2_base.specs.declared.types.ClusterCount.{ClusterCount}
use Rattle.qcow2_base.specs.declared.types.HostCluster.{HostCluster}
use Rattle.qcow2_metadata.specs.Entries.{is_among}
use Rattle.qcow2_metadata.specs.Entries.L2Entry.{allocation}
use Rattle.qcow2_metadata.specs.Header.{Geometry, HeaderRecord, encryption_clusters, geometry_of}
use Rattle.qcow2_metadata.specs.Placed.{numbers_at}
use Rattle.qcow2_metadata.specs.Results.{and_then, result_map}
use Rattle.qcow2_metadata.specs.Table.{l2_layout, loaded_l2_table}
use Rattle.qcow2_metadata.specs.Table.L2Guards.{one_if}
use Rattle.qcow2_check.specs.NamedTables.{l1_cluster, named_block, named_cluster, reftable_cluster}
use Rattle.qcow2_check.specs.Tally.{ClusterUse, used_clusters}
use Rattle.qcow2_check.specs.declared.tally.TallyKind.TheVariants.{Fixed, Guest, L2Table}

-- the tables of an image that name clusters: its header, its L1 table and its refcount table
pub record ImageTables : Type 0 where
  pub header : HeaderRecord
  pub l1 : List ℕ
  pub reftable : List ℕ

-- the tables of an image with this header
abbrev pub image_tables : HeaderRecord → List ℕ → List ℕ → ImageTables
image_tables header l1 reftable = record { header = header; l1 = l1; reftable = reftable }

-- the clusters of the encryption header, the first and how many: none where an image has no such header
unfoldable pub key_clusters : HeaderRecord → HostCluster × ClusterCount
key_clusters header = unwrap_or (encryption_clusters header) (record { 0 = 0 }, record { 0 = 0 })

-- the header's cluster, the clusters that the L1 table's bytes are in, those of the refcount table, and those of the encryption
-- header
abbrev pub header_uses : HeaderRecord → List ClusterUse
header_uses header = used_clusters Fixed (record { 0 = 0 }) 1
    ∷ used_clusters Fixed (l1_cluster header) (div_ceil (8 * header.v2.l1_size) (2 ^ header.v2.cluster_bits))
    ∷ used_clusters Fixed (reftable_cluster header) header.v2.refcount_table_clusters
    ∷ used_clusters Fixed (key_clusters header).0 (key_clusters header).1.0 ∷ []

-- the block that a refcount table entry names
abbrev pub block_uses : ℕ → ℕ → List ClusterUse
block_uses cb v = option_to_list (option_map (λ cluster. used_clusters Fixed cluster 1) (named_block cb v))

-- the clusters that an L2 entry refers to, which are none of the image where guest data lies in an external data file
abbrev pub entry_uses : Geometry → ℕ → List ClusterUse
entry_uses g v = if g.external_data_file then []
    else option_to_list (option_map (λ clusters. record { kind = Guest; clusters = clusters }) (allocation g v))

-- the L2 table that begins with a cluster, and what its entries refer to
abbrev pub table_uses : Geometry → HostCluster → Image → List ClusterUse
table_uses g cluster image = used_clusters L2Table cluster 1
    ∷ flat_map (entry_uses g) (numbers_at (l2_layout g) cluster image)

-- the L2 table that an L1 entry names, and what its entries refer to
abbrev pub l1_entry_uses : Geometry → Image → ℕ → List ClusterUse
l1_entry_uses g image v = elim (named_cluster g.cluster_bits v) [
  | None ↦ []
  | Some cluster ↦ table_uses g cluster image
]

-- all clusters that an image with these tables uses, as often as it does
abbrev pub image_uses : ImageTables → Image → List ClusterUse
image_uses tables image = header_uses tables.header
    ++ flat_map (block_uses tables.header.v2.cluster_bits) tables.reftable
    ++ flat_map (l1_entry_uses (geometry_of tables.header) image) tables.l1

-- how many of some uses are those of cluster c
abbrev pub uses_of : List ClusterUse → ℕ → ℕ
uses_of uses c = sum_by (λ (used : ClusterUse). one_if (is_among used.clusters c)) uses

-- whether the L2 table that an L1 entry names can be loaded
abbrev pub l1_entry_loads : Geometry → Image → ℕ → Result (Unit {0}) Fault
l1_entry_loads g image v = elim (named_cluster g.cluster_bits v) [
  | None ↦ Ok tt
  | Some cluster ↦ result_map (λ _. tt) (loaded_l2_table g cluster image)
]

-- whether all L2 tables can be loaded that L1 entries name
abbrev pub all_load : Geometry → List ℕ → Image → Result (Unit {0}) Fault
all_load g [] image = Ok tt
all_load g (v ∷ vs) image = and_then (l1_entry_loads g image v) (λ _. all_load g vs image)
