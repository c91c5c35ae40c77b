use Rattle.std.proofs.Common.{◌≡◌, ℕ, Bool, true, false, ◌&&◌, if◌then◌else◌, Some, None, refl, ◌∙◌, arith}
use Rattle.std.proofs.lemmas.Bool.Decides.{nat_tests}
use Rattle.qcow2_base.specs.Types.{IsClusterBits}
use Rattle.qcow2_base.specs.declared.types.HostCluster.{HostCluster}
use Rattle.qcow2_metadata.proofs.EntriesLemmas.{l2_fault_zero}
use Rattle.qcow2_metadata.proofs.L2GuardsLemmas.{standard_if_host_cluster, zeros-lawful}
use Rattle.qcow2_metadata.proofs.L2MappingLemmas.{entry_is_lawful, entry_reads_back}
use Rattle.qcow2_metadata.specs.Entries.{is_copied, offset_field}
use Rattle.qcow2_metadata.specs.Entries.L2Entry.{has_host_cluster, is_allocated, is_compressed, is_zero, l2_fault, with_zero_flag}
use Rattle.qcow2_metadata.specs.Entries.L2Mapping.{IsPlaced, data_file, is_told, mapping, standard_mapping, zeros}
use Rattle.qcow2_metadata.specs.Header.{Geometry, HeaderRecord, geometry, geometry_of, uses_external_data}
use Rattle.qcow2_metadata.specs.Table.L2Guards.{EntryEdit, can_be_made, entry_after, is_mappable, to_data, to_nothing, to_zeros}
use Rattle.qcow2_metadata.specs.declared.entries.l2_mapping.L2Mapping.TheVariants.{DataFile}
use Rattle.qcow2_edits.specs.Edits.{table_edit}
use Rattle.qcow2_apply.specs.GuestEdits.{edit_at, is_mappable_by}
use Rattle.qcow2_apply.specs.declared.guest_edits.GuestEdit.{GuestEdit}
use Rattle.qcow2_apply.specs.declared.guest_edits.GuestEdit.TheVariants.{Discard, Map, Zero}
use Rattle.qcow2_session.specs.EditedDisk.{kept_zeros, mapping_after}

-- the fields of an entry with the zero flag
record IsWithFlag (v w : ℕ) : Type 0 where
  kind : is_compressed w ≡ is_compressed v
  offset : offset_field w ≡ offset_field v
  copied : is_copied w ≡ is_copied v
  flag : is_zero w ≡ true

with-flag : (v : ℕ) → IsWithFlag v (with_zero_flag v)
with-flag v = grind (arith, nat_tests)

-- zeros that keep a cluster, and those that keep none
kept-reads : (flag copied : Bool) (cluster offset : ℕ)
    → standard_mapping true (Some cluster) copied offset ≡ kept_zeros (standard_mapping flag (Some cluster) copied offset)
kept-reads true copied cluster offset = refl
kept-reads false copied cluster offset = refl

none-reads : (flag copied : Bool) (offset : ℕ) → zeros None false ≡ kept_zeros (standard_mapping flag None copied offset)
none-reads true copied offset = refl
none-reads false copied offset = refl

-- zeros read as those that keep what was there
zeros-read : (g : Geometry) (guest_cluster v : ℕ) (has : Bool) → has_host_cluster g v ≡ has
    → mapping g guest_cluster (if has then with_zero_flag v else 1) ≡ kept_zeros (mapping g guest_cluster v)
zeros-read g guest_cluster v true has =
    let flag = with-flag v in
    let standard = standard_if_host_cluster g v has in
    let some : is_allocated g.external_data_file v ≡ true = grind (arith, has) in
    rw (flag.kind, flag.offset, flag.copied, flag.flag, standard, some) (kept-reads (is_zero v) (is_copied v) _ _)
zeros-read g guest_cluster v false has = grind (arith, nat_tests, has, none-reads)

-- a cluster that can be mapped to lies in the image, and its entry can distinguish it from none
mappable-placed : (cb : ℕ) (external : Bool) (cluster : HostCluster) → IsClusterBits cb → is_mappable (geometry cb external) cluster.0 ≡ true
    → IsPlaced cb (DataFile cluster true)
mappable-placed cb external cluster bits can = record { bits = bits; within = grind (arith, nat_tests, can) }

mappable-told : (cb : ℕ) (external : Bool) (cluster : ℕ) → is_mappable (geometry cb external) cluster ≡ true → is_told external cluster true ≡ true
mappable-told cb external cluster can = grind (arith, nat_tests, can)

-- an entry that is mapped to a cluster reads as data there
data-reads : (cb guest_cluster : ℕ) (external : Bool) (cluster : HostCluster) (v : ℕ) → IsClusterBits cb → is_mappable (geometry cb external) cluster.0 ≡ true
    → mapping (geometry cb external) guest_cluster (entry_after (geometry cb external) (to_data cluster.0) v) ≡ data_file cluster.0 true
data-reads cb guest_cluster external cluster v bits can =
    entry_reads_back cb (DataFile cluster true) guest_cluster external (mappable-placed cb external cluster bits can) tt
    ∙ rw (mappable-told cb external cluster.0 can) refl

-- what a guest cluster reads as after an edit of its entry
pub edited-reads : (header : HeaderRecord) (edit : GuestEdit) (index guest_cluster v : ℕ) → IsClusterBits header.v2.cluster_bits
    → is_mappable_by header edit ≡ true
    → mapping (geometry_of header) guest_cluster (entry_after (geometry_of header) (table_edit (edit_at edit index)).edit v)
    ≡ mapping_after header.v2.cluster_bits guest_cluster edit (mapping (geometry_of header) guest_cluster v)
edited-reads header (Map offset host_cluster) index guest_cluster v bits can =
    data-reads header.v2.cluster_bits guest_cluster (uses_external_data header) host_cluster v bits can
edited-reads header (Zero offset size true) index guest_cluster v bits can =
    zeros-read (geometry_of header) guest_cluster v (has_host_cluster (geometry_of header) v) refl
edited-reads header (Zero offset size false) index guest_cluster v bits can = grind arith
edited-reads header (Discard offset size) index guest_cluster v bits can = grind arith

-- it is valid if it was
pub edited-lawful : (header : HeaderRecord) (change : EntryEdit) (v : ℕ) → IsClusterBits header.v2.cluster_bits → can_be_made (geometry_of header) change ≡ true
    → l2_fault header.v2.cluster_bits v ≡ None → l2_fault header.v2.cluster_bits (entry_after (geometry_of header) change v) ≡ None
edited-lawful header (to_data cluster) v bits can lawful =
    let host : HostCluster = record { 0 = cluster } in
    entry_is_lawful header.v2.cluster_bits (DataFile host true) (mappable-placed header.v2.cluster_bits (uses_external_data header) host bits can) tt
edited-lawful header (to_zeros keep) v bits can lawful = by_test (keep && has_host_cluster (geometry_of header) v) (λ kept. grind (arith, kept))
  where
    by_test : (kept : Bool) → (kept ≡ true → has_host_cluster (geometry_of header) v ≡ true)
        → l2_fault header.v2.cluster_bits (if kept then with_zero_flag v else 1) ≡ None
    by_test true has = zeros-lawful (geometry_of header) v (has refl) lawful
    by_test false has = l2_fault_zero header.v2.cluster_bits
edited-lawful header to_nothing v bits can lawful = l2_fault_zero header.v2.cluster_bits
