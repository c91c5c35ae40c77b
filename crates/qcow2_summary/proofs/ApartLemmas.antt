use Rattle.std.proofs.Common.{◌≡◌, ℕ, zero, suc, Bool, true, false, not, ◌||◌, ◌==◌, ◌+◌, ◌*◌, ◌^◌, ◌<◌, ◌≤◌, List, [], ◌∷◌, ◌++◌, flat_map, slice_index, Some, arith}
use Rattle.std.proofs.Math.Nat.{div-le_self}
use Rattle.std.proofs.lemmas.Bool.Decides.{nat_tests}
use Rattle.std.proofs.lemmas.List.Sums.{sum_by-append}
use Rattle.std.specs.Int.{div_ceil}
use Rattle.qcow2_base.specs.Format.{max_file_length}
use Rattle.qcow2_base.specs.Storage.{Image}
use Rattle.qcow2_base.specs.declared.types.HostCluster.{HostCluster}
use Rattle.qcow2_metadata.specs.Header.{Geometry, HeaderRecord, geometry_of}
use Rattle.qcow2_metadata.specs.Placed.{numbers_at}
use Rattle.qcow2_metadata.specs.Table.{l2_layout}
use Rattle.qcow2_check.proofs.FindingsLemmas.{excludes, kind-cons, uses_by_kind}
use Rattle.qcow2_check.specs.Findings.{AreRight, finding_at, is_shared, is_wrong, uses_of_kind}
use Rattle.qcow2_check.specs.declared.findings.Finding.{Finding}
use Rattle.qcow2_check.specs.NamedTables.{l1_cluster, named_cluster}
use Rattle.qcow2_check.specs.Tally.{ClusterUse, used_clusters}
use Rattle.qcow2_check.specs.Uses.{ImageTables, block_uses, entry_uses, header_uses, image_uses, l1_entry_uses, table_uses, uses_of}
use Rattle.qcow2_check.specs.declared.tally.TallyKind.{TallyKind}
use Rattle.qcow2_check.specs.declared.tally.TallyKind.TheVariants.{Fixed, Guest, L2Table}

-- uses of a cluster in one list and in another
pub kind-append : (kind : TallyKind) (one other : List ClusterUse) (c : ℕ)
    → uses_of_kind kind (one ++ other) c ≡ uses_of_kind kind one c + uses_of_kind kind other c
kind-append kind one other c = sum_by-append _ one other

-- the table that begins with a cluster uses it
table-used : (g : Geometry) (cluster : HostCluster) (image : Image) → 0 < uses_of_kind L2Table (table_uses g cluster image) cluster.0
table-used g cluster image = grind (
  arith,
  nat_tests,
  kind-cons L2Table (used_clusters L2Table cluster 1) (flat_map (entry_uses g) (numbers_at (l2_layout g) cluster image)) cluster.0,
)

-- and so does an L1 entry that names it
entry-used : (g : Geometry) (v : ℕ) (cluster : HostCluster) (image : Image) → named_cluster g.cluster_bits v ≡ Some cluster
    → 0 < uses_of_kind L2Table (l1_entry_uses g image v) cluster.0
entry-used g v cluster image names = rw (names, l1_entry_uses) (table-used g cluster image)

-- and so do L1 entries of which one names it
entries-used : (g : Geometry) (l1 : List ℕ) (k : ℕ) (cluster : HostCluster) (image : Image) → named_cluster g.cluster_bits (slice_index l1 k) ≡ Some cluster
    → 0 < uses_of_kind L2Table (flat_map (l1_entry_uses g image) l1) cluster.0
entries-used g [] k cluster image names = grind (arith, nat_tests, names)
entries-used g (v ∷ vs) zero cluster image names =
    omega (arith, kind-append L2Table (l1_entry_uses g image v) (flat_map (l1_entry_uses g image) vs) cluster.0, entry-used g v cluster image names)
entries-used g (v ∷ vs) (suc k) cluster image names =
    omega (arith, kind-append L2Table (l1_entry_uses g image v) (flat_map (l1_entry_uses g image) vs) cluster.0, entries-used g vs k cluster image names)

-- an image uses the clusters that its tables' L1 entries name, as L2 tables
pub named-used : (tables : ImageTables) (image : Image) (k : ℕ) (cluster : HostCluster)
    → named_cluster tables.header.v2.cluster_bits (slice_index tables.l1 k) ≡ Some cluster
    → 0 < uses_of_kind L2Table (image_uses tables image) cluster.0
named-used tables image k cluster names =
    let first = header_uses tables.header in
    let blocks = flat_map (block_uses tables.header.v2.cluster_bits) tables.reftable in
    let last = flat_map (l1_entry_uses (geometry_of tables.header) image) tables.l1 in
    omega (
      arith,
      kind-append L2Table first (blocks ++ last) cluster.0,
      kind-append L2Table blocks last cluster.0,
      entries-used (geometry_of tables.header) tables.l1 k cluster image names,
    )

-- and those of its header
pub header-used : (tables : ImageTables) (image : Image) (c : ℕ)
    → 0 < uses_of_kind Fixed (header_uses tables.header) c → 0 < uses_of_kind Fixed (image_uses tables image) c
header-used tables image c used =
    let blocks = flat_map (block_uses tables.header.v2.cluster_bits) tables.reftable in
    let last = flat_map (l1_entry_uses (geometry_of tables.header) image) tables.l1 in
    omega (arith, used, kind-append Fixed (header_uses tables.header) (blocks ++ last) c)

-- the first cluster is used
pub first-used : (header : HeaderRecord) → 0 < uses_of_kind Fixed (header_uses header) 0
first-used header = grind (arith, nat_tests, kind-cons)

-- and each that the L1 table's bytes are in
pub l1-used : (header : HeaderRecord) (c : ℕ) → (l1_cluster header).0 ≤ c
    → c < (l1_cluster header).0 + div_ceil (8 * header.v2.l1_size) (2 ^ header.v2.cluster_bits)
    → 0 < uses_of_kind Fixed (header_uses header) c
l1-used header c from before = grind (arith, nat_tests, kind-cons, from, before)

-- a cluster that an L1 entry names lies below the greatest end
pub named-below : (cb v : ℕ) (cluster : HostCluster) → named_cluster cb v ≡ Some cluster → cluster.0 < max_file_length
named-below cb v cluster names = grind (arith, nat_tests, names, div-le_self)

-- what isn't wrong has no uses that exclude each other
pub right-apart : (finding : Finding) → is_wrong finding ≡ false → finding.shared ≡ false
right-apart finding right = by_both (finding.counter == finding.uses) finding.shared right
  where
    by_both : (same shared : Bool) → not same || shared ≡ false → shared ≡ false
    by_both true shared right = right
    by_both false shared right = absurd (grind (arith, right))

-- so a cluster that is an L2 table is nothing fixed
table-alone : (uses : List ClusterUse) (c : ℕ) → is_shared uses c ≡ false → 0 < uses_of_kind L2Table uses c → uses_of_kind Fixed uses c ≡ 0
table-alone uses c apart used = grind (arith, nat_tests, used, excludes uses c apart, uses_by_kind uses c)

-- and what is fixed is nothing twice
fixed-alone : (uses : List ClusterUse) (c : ℕ) → is_shared uses c ≡ false → uses_of_kind Fixed uses c ≤ 1
fixed-alone uses c apart = grind (arith, nat_tests, excludes uses c apart, uses_by_kind uses c)

-- where nothing is found of an image, no cluster of its header and its L1 table is one that an L1 entry names
pub named-apart : (tables : ImageTables) (image : Image) (k : ℕ) (cluster : HostCluster) → AreRight tables image 0 max_file_length
    → named_cluster tables.header.v2.cluster_bits (slice_index tables.l1 k) ≡ Some cluster
    → uses_of_kind Fixed (header_uses tables.header) cluster.0 ≡ 0
named-apart tables image k cluster right names =
    let uses = image_uses tables image in
    let below = named-below _ _ cluster names in
    let apart : is_shared uses cluster.0 ≡ false = right-apart (finding_at tables image cluster.0) (right cluster.0 (omega arith) below) in
    let blocks = flat_map (block_uses tables.header.v2.cluster_bits) tables.reftable in
    let last = flat_map (l1_entry_uses (geometry_of tables.header) image) tables.l1 in
    let none = table-alone uses cluster.0 apart (named-used tables image k cluster names) in
    omega (arith, none, kind-append Fixed (header_uses tables.header) (blocks ++ last) cluster.0)

-- nothing else uses a cluster of guest data where its uses don't exclude each other
pub guest-alone : (uses : List ClusterUse) (c : ℕ) → is_shared uses c ≡ false → 0 < uses_of_kind Guest uses c
    → uses_of uses c ≡ uses_of_kind Guest uses c
guest-alone uses c apart used = grind (arith, nat_tests, used, excludes uses c apart, uses_by_kind uses c)

-- nor has any cluster two uses by the header and its tables
pub header-once : (tables : ImageTables) (image : Image) (c : ℕ) → AreRight tables image 0 max_file_length → c < max_file_length
    → uses_of_kind Fixed (header_uses tables.header) c ≤ 1
header-once tables image c right below =
    let uses = image_uses tables image in
    let blocks = flat_map (block_uses tables.header.v2.cluster_bits) tables.reftable in
    let last = flat_map (l1_entry_uses (geometry_of tables.header) image) tables.l1 in
    let apart : is_shared uses c ≡ false = right-apart (finding_at tables image c) (right c (omega arith) below) in
    omega (arith, fixed-alone uses c apart, kind-append Fixed (header_uses tables.header) (blocks ++ last) c)

-- the first cluster has two where the L1 table reaches it
pub l1-first-used : (header : HeaderRecord) → (l1_cluster header).0 ≡ 0 → 0 < div_ceil (8 * header.v2.l1_size) (2 ^ header.v2.cluster_bits)
    → 1 < uses_of_kind Fixed (header_uses header) 0
l1-first-used header first some = grind (arith, nat_tests, kind-cons, first, some)
