-- What does a guest offset read as, by an image's header, L1 table and L2 tables?
use Rattle.std.specs.Prelude.{◌≤◌, ℕ, ◌*◌, ◌/◌, ◌%◌, ◌^◌, List, slice_index, Option, Some, None, Result, Ok}
use Rattle.qcow2_base.specs.Fault.{fault_number}
use Rattle.qcow2_base.specs.Storage.{Image}
use Rattle.qcow2_base.specs.declared.fault.Fault.{Fault}
use Rattle.qcow2_base.specs.declared.types.HostCluster.{HostCluster}
use Rattle.qcow2_check.specs.NamedTables.{loaded_l1_table, named_cluster}
use Rattle.qcow2_metadata.specs.Results.{and_then, result_map}
use Rattle.qcow2_metadata.specs.Entries.L2Mapping.{Mapping, mapping, backing}
use Rattle.qcow2_metadata.specs.Header.{Geometry, HeaderRecord, geometry_of}
use Rattle.qcow2_metadata.specs.Header.Grammar.{header_of}
use Rattle.qcow2_metadata.specs.Table.{l2_entries, loaded_l2_table}

-- and that of a guest cluster; past the L1 table's end its entry is 0
abbrev pub l2_cluster : ℕ → List ℕ → ℕ → Option HostCluster
l2_cluster cb l1 guest_cluster = named_cluster cb (slice_index l1 (guest_cluster / l2_entries cb))

-- what a guest cluster reads as by the L2 table that begins with a cluster, or where there is none
abbrev pub mapping_by : Geometry → Option HostCluster → ℕ → Image → Result Mapping Fault
mapping_by g None guest_cluster image = Ok (backing (guest_cluster * 2 ^ g.cluster_bits))
mapping_by g (Some cluster) guest_cluster image = result_map
    (λ numbers. mapping g guest_cluster (slice_index numbers (guest_cluster % l2_entries g.cluster_bits)))
    (loaded_l2_table g cluster image)

-- what the cluster of a guest offset reads as, in an image with this L1 table
abbrev pub guest_mapping : Geometry → List ℕ → ℕ → Image → Result Mapping Fault
guest_mapping g l1 offset image =
    let guest_cluster = offset / 2 ^ g.cluster_bits in
    mapping_by g (l2_cluster g.cluster_bits l1 guest_cluster) guest_cluster image

-- what the cluster of a guest offset reads as, in an image with this header
abbrev pub mapping_in : HeaderRecord → ℕ → Image → Result Mapping Fault
mapping_in header offset image = and_then (loaded_l1_table header image) (λ l1.
    guest_mapping (geometry_of header) l1 offset image)

-- what the cluster of a guest offset reads as, by an image's bytes alone
abbrev pub image_mapping : ℕ → Image → Result Mapping Fault
image_mapping offset image = and_then (header_of image) (λ header. mapping_in header offset image)

-- the refusals of an image: those of a header, of a place and of an entry, which have the numbers 1 to 21
abbrev pub IsImageFault : Fault → Type 0
IsImageFault fault = fault_number fault ≤ 21
