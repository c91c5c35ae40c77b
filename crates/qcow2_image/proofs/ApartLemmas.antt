use Rattle.std.proofs.Common.{◌≡◌, ℕ, ◌+◌, ◌*◌, ◌^◌, ◌<◌, ◌≤◌, slice_index, Some, Ok, refl, arith}
use Rattle.std.proofs.Math.Nat.{lt_of_mul-lt-mul_right}
use Rattle.std.proofs.lemmas.Grind.{div_ceil_times}
use Rattle.std.proofs.lemmas.Nat.{pow_pos}
use Rattle.std.specs.Int.{div_ceil}
use Rattle.qcow2_base.specs.Format.{max_file_length}
use Rattle.qcow2_base.specs.Storage.{Image}
use Rattle.qcow2_base.specs.declared.types.HostCluster.{HostCluster}
use Rattle.qcow2_metadata.proofs.GrammarLemmas.{header_of-is}
use Rattle.qcow2_metadata.specs.Header.{HeaderRecord, geometry_of}
use Rattle.qcow2_metadata.specs.Header.Grammar.{header_of}
use Rattle.qcow2_summary.proofs.ApartLemmas.{first-used, l1-used, named-apart}
use Rattle.qcow2_check.specs.Findings.{AreRight, uses_of_kind}
use Rattle.qcow2_check.specs.NamedTables.{l1_cluster, l1_layout, named_cluster}
use Rattle.qcow2_check.specs.Uses.{ImageTables, header_uses}
use Rattle.qcow2_check.specs.declared.tally.TallyKind.TheVariants.{Fixed}
use Rattle.qcow2_metadata.proofs.TableLemmas.{full_cluster}
use Rattle.qcow2_image.specs.WholeImage.{HasTableApart, IsWithin, ShareNoByte, first_cluster_bytes, l2_bytes, table_bytes}

-- the cluster is none of those that an image has for its header and its L1 table
abbrev IsUnused : HeaderRecord → HostCluster → Type 0
IsUnused header cluster = uses_of_kind Fixed (header_uses header) cluster.0 ≡ 0

-- an L2 table is in the bytes of its cluster
in-cluster : (header : HeaderRecord) (cluster : HostCluster) (o : ℕ) → 9 ≤ header.v2.cluster_bits → IsWithin (l2_bytes (geometry_of header) cluster) o
    → (cluster.0 * 2 ^ header.v2.cluster_bits ≤ o) × (o < (cluster.0 + 1) * 2 ^ header.v2.cluster_bits)
in-cluster header cluster o least within = (within.0, omega (arith, within.1, full_cluster header.v2.cluster_bits least))

-- a cluster that isn't the first shares no byte with it
first-apart : (header : HeaderRecord) (cluster : HostCluster) → 9 ≤ header.v2.cluster_bits → IsUnused header cluster
    → ShareNoByte (first_cluster_bytes header) (l2_bytes (geometry_of header) cluster)
first-apart header cluster least unused = λ o in_first in_table.
    let size = 2 ^ header.v2.cluster_bits in
    let inside = in-cluster header cluster o least in_table in
    let low : cluster.0 < 1 = lt_of_mul-lt-mul_right size (omega (arith, inside.0, in_first.1)) in
    let none : cluster.0 ≡ 0 = omega (arith, low) in
    let here : uses_of_kind Fixed (header_uses header) 0 ≡ 0 = rw none at unused in
    omega (arith, here, first-used header)

-- one that the L1 table doesn't reach shares no byte with that
l1-apart : (header : HeaderRecord) (cluster : HostCluster) → 9 ≤ header.v2.cluster_bits → IsUnused header cluster
    → ShareNoByte (table_bytes (l1_layout header) (l1_cluster header)) (l2_bytes (geometry_of header) cluster)
l1-apart header cluster least unused = λ o in_l1 in_table.
    let size = 2 ^ header.v2.cluster_bits in
    let first = (l1_cluster header).0 in
    let count = div_ceil (8 * header.v2.l1_size) size in
    let inside = in-cluster header cluster o least in_table in
    let fits : 8 * header.v2.l1_size ≤ count * size = (div_ceil_times (8 * header.v2.l1_size) size (pow_pos _)).0 in
    let from : first < cluster.0 + 1 = lt_of_mul-lt-mul_right size (omega (arith, in_l1.0, inside.1)) in
    let before : cluster.0 < first + count = lt_of_mul-lt-mul_right size (omega (arith, inside.0, in_l1.1, fits)) in
    omega (arith, unused, l1-used header cluster.0 (omega (arith, from)) before)

-- an L2 table that an L1 entry names lies apart from the first cluster and the L1 table, where nothing is found of the image
pub apart-where-right : (tables : ImageTables) (image : Image) (k : ℕ) (cluster : HostCluster) → header_of image ≡ Ok tables.header
    → AreRight tables image 0 max_file_length → named_cluster tables.header.v2.cluster_bits (slice_index tables.l1 k) ≡ Some cluster
    → HasTableApart (geometry_of tables.header) cluster tables.header image
apart-where-right tables image k cluster is right names =
    let least = (header_of-is image tables.header is).cluster_bits.0 in
    let unused = named-apart tables image k cluster right names in
    record {
      begins = is;
      geometry = refl;
      first_cluster = first-apart tables.header cluster least unused;
      l1_table = l1-apart tables.header cluster least unused;
    }
