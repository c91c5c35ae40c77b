-- Which tables and refcount blocks does an image name, and where do they lie?
use Rattle.std.specs.Prelude.{true, ℕ, ◌+◌, ◌*◌, ◌/◌, ◌^◌, ◌≤◌, List, Option, option_map, Result}
use Rattle.qcow2_base.specs.Format.{max_file_length, most_reftable_entries}
use Rattle.qcow2_base.specs.Storage.{Image}
use Rattle.qcow2_base.specs.Types.{IsClusterBits}
use Rattle.qcow2_base.specs.declared.fault.Fault.{Fault}
use Rattle.qcow2_base.specs.declared.types.HostCluster.{HostCluster}
use Rattle.qcow2_base.specs.declared.types.HostOffset.{HostOffset}
use Rattle.qcow2_metadata.specs.Entries.{offset_field, offset_unless_zero}
use Rattle.qcow2_metadata.specs.Entries.RefTableEntry.{ref_fault}
use Rattle.qcow2_metadata.specs.Header.{HeaderRecord}
use Rattle.qcow2_metadata.specs.Placed.{Layout, loaded_numbers}
use Rattle.qcow2_metadata.specs.Table.{Kind, l1_kind, l2_entries, table_layout}

-- how the L1 table of an image with this header lies in it
abbrev pub l1_layout : HeaderRecord → Layout
l1_layout header = table_layout l1_kind header.v2.cluster_bits header.v2.l1_size

-- the cluster that it begins with
abbrev pub l1_cluster : HeaderRecord → HostCluster
l1_cluster header = record { 0 = header.v2.l1_table_offset / 2 ^ header.v2.cluster_bits }

-- the L1 table of an image with this header
abbrev pub loaded_l1_table : HeaderRecord → Image → Result (List ℕ) Fault
loaded_l1_table header image = loaded_numbers (l1_layout header) (l1_cluster header) image

-- refcount tables
abbrev pub reftable_kind : Kind
reftable_kind = record { most = most_reftable_entries; has_valid_count = λ _ _. true; fault_of = ref_fault }

-- how the refcount table of an image with this header lies in it: it fills its clusters
abbrev pub reftable_layout : HeaderRecord → Layout
reftable_layout header = table_layout reftable_kind header.v2.cluster_bits
    (header.v2.refcount_table_clusters * l2_entries header.v2.cluster_bits)

-- the cluster that it begins with
abbrev pub reftable_cluster : HeaderRecord → HostCluster
reftable_cluster header = record { 0 = header.v2.refcount_table_offset / 2 ^ header.v2.cluster_bits }

-- the refcount table of an image with this header
abbrev pub loaded_reftable : HeaderRecord → Image → Result (List ℕ) Fault
loaded_reftable header image = loaded_numbers (reftable_layout header) (reftable_cluster header) image

-- the cluster that an offset in an entry lies in, where 0 is none
abbrev pub cluster_unless_zero : ℕ → ℕ → Option HostCluster
cluster_unless_zero cb offset =
    option_map (λ (offset : HostOffset). record { 0 = offset.0 / 2 ^ cb }) (offset_unless_zero offset)

-- the cluster that the L2 table of an L1 entry begins with, if there is one
abbrev pub named_cluster : ℕ → ℕ → Option HostCluster
named_cluster cb v = cluster_unless_zero cb (offset_field v)

-- the cluster that the refcount block of a refcount table entry begins with, if there is one
abbrev pub named_block : ℕ → ℕ → Option HostCluster
named_block cb v = cluster_unless_zero cb v

-- a cluster of an image with clusters of 2 ^ cb bytes, which ends by the greatest end
abbrev pub IsInImage : ℕ → HostCluster → Type 0
IsInImage cb cluster = IsClusterBits cb × (cluster.0 * 2 ^ cb + 2 ^ cb ≤ max_file_length)
