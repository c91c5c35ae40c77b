-- Which edits of L2 tables is an edit of a guest's disk?
use Rattle.std.specs.Prelude.{ℕ, Bool, true, false, not, if◌then◌else◌, Option, None, Some, option_map, ◌+◌, ◌-◌, ◌*◌, ◌/◌, ◌%◌, ◌^◌, ◌==◌, ◌&&◌, nat_lt, nat_le, max, min, List, map, flat_map}
use Rattle.std.specs.List.{list_any, position, range_with_len}
use Rattle.std.specs.Option.{option_or}
use Rattle.qcow2_base.specs.declared.fault.Fault.{Fault}
use Rattle.qcow2_base.specs.declared.fault.Fault.TheVariants.{BadEdit, ExternalData, L1Short, Marked, VersionNeeded}
use Rattle.qcow2_base.specs.declared.types.GuestOffset.{GuestOffset}
use Rattle.qcow2_check.specs.L1Length.{guest_clusters, is_l1_short, short_l1_refusal}
use Rattle.qcow2_edits.specs.declared.edits.Edit.{Edit}
use Rattle.qcow2_edits.specs.declared.edits.Edit.TheVariants as entry
use Rattle.qcow2_metadata.specs.Header.{HeaderRecord, geometry_of, uses_external_data}
use Rattle.qcow2_metadata.specs.Header.Marks.{is_marked}
use Rattle.qcow2_metadata.specs.Table.{l2_entries}
use Rattle.qcow2_metadata.specs.Table.L2Guards.{is_mappable}
use Rattle.qcow2_apply.specs.declared.guest_edits.GuestEdit.{GuestEdit}
use Rattle.qcow2_apply.specs.declared.guest_edits.GuestEdit.TheVariants.{Discard, Map, Zero}

-- where the range of an edit begins
abbrev pub guest_offset : GuestEdit → GuestOffset
guest_offset (Map offset host_cluster) = offset
guest_offset (Zero offset length keep_allocation) = offset
guest_offset (Discard offset length) = offset

-- how many bytes it has
abbrev pub guest_length : ℕ → GuestEdit → ℕ
guest_length cb (Map offset host_cluster) = 2 ^ cb
guest_length cb (Zero offset length keep_allocation) = length
guest_length cb (Discard offset length) = length

-- whether an edit of the disk makes zeros
abbrev pub is_zeros : GuestEdit → Bool
is_zeros (Map offset host_cluster) = false
is_zeros (Zero offset length keep_allocation) = true
is_zeros (Discard offset length) = false

-- whether it takes data away, for which a table needn't be there
abbrev pub is_discard : GuestEdit → Bool
is_discard (Map offset host_cluster) = false
is_discard (Zero offset length keep_allocation) = false
is_discard (Discard offset length) = true

-- the first guest cluster of an edit
abbrev pub first_cluster : ℕ → GuestEdit → ℕ
first_cluster cb edit = (guest_offset edit).0 / 2 ^ cb

-- the one after its last
abbrev pub cluster_end : ℕ → GuestEdit → ℕ
cluster_end cb edit = first_cluster cb edit + guest_length cb edit / 2 ^ cb

-- whether the host cluster that an edit maps to, if it does, can be that of an entry
abbrev pub is_mappable_by : HeaderRecord → GuestEdit → Bool
is_mappable_by header (Map offset host_cluster) = is_mappable (geometry_of header) host_cluster.0
is_mappable_by header (Zero offset length keep_allocation) = true
is_mappable_by header (Discard offset length) = true

-- whether an edit can be made of a disk of this header: its range is one of whole clusters, at least one, of the disk's. The disk's
-- last cluster may be cut
abbrev pub guest_edit_fits : HeaderRecord → GuestEdit → Bool
guest_edit_fits header edit = let cb = header.v2.cluster_bits in
    (guest_offset edit).0 % 2 ^ cb == 0 && guest_length cb edit % 2 ^ cb == 0 && nat_lt (first_cluster cb edit) (cluster_end cb edit)
    && nat_le (cluster_end cb edit) (guest_clusters header) && is_mappable_by header edit

-- the position of the first edit that can't be made of a disk of this header, if there is one
abbrev pub first_unfit_of : HeaderRecord → List GuestEdit → Option ℕ
first_unfit_of header edits = position (λ edit. not (guest_edit_fits header edit)) edits

-- the edit of the entry at an index of an L2 table
abbrev pub edit_at : GuestEdit → ℕ → Edit
edit_at (Map offset host_cluster) index = entry.Map index host_cluster
edit_at (Zero offset length keep_allocation) index = entry.Zero index keep_allocation
edit_at (Discard offset length) index = entry.Discard index

-- the guest clusters of an edit that are in the L2 table of the L1 entry at an index: the first, and the one after the last
abbrev pub table_start : ℕ → ℕ → GuestEdit → ℕ
table_start cb l1_index edit = max (first_cluster cb edit) (l1_index * l2_entries cb)

abbrev pub table_end : ℕ → ℕ → GuestEdit → ℕ
table_end cb l1_index edit = min (cluster_end cb edit) (l1_index * l2_entries cb + l2_entries cb)

-- the edits of this table that an edit of the disk is, in the order of guest clusters
abbrev pub edits_by : ℕ → ℕ → GuestEdit → List Edit
edits_by cb l1_index edit =
    let start = table_start cb l1_index edit in
    map (λ guest_cluster. edit_at edit (guest_cluster % l2_entries cb)) (range_with_len start (table_end cb l1_index edit - start))

-- the edits of this table that edits of the disk are, in their order
abbrev pub edits_in : ℕ → ℕ → List GuestEdit → List Edit
edits_in cb l1_index edits = flat_map (edits_by cb l1_index) edits

-- whether an edit has guest clusters of the L2 table of the L1 entry at an index
abbrev pub has_clusters_in : ℕ → ℕ → GuestEdit → Bool
has_clusters_in cb l1_index edit = nat_lt (table_start cb l1_index edit) (table_end cb l1_index edit)

-- whether it has some after those of that many L2 tables
abbrev pub ends_after : ℕ → ℕ → GuestEdit → Bool
ends_after cb tables edit = nat_lt (tables * l2_entries cb) (cluster_end cb edit)

-- why the disk of an image with this header must not be edited: it is marked dirty or corrupt, or its L1 table is too short
abbrev pub disk_refusal : HeaderRecord → Option Fault
disk_refusal header = if is_marked header then Some Marked else short_l1_refusal header

-- why edits can't be made of any disk of this header
abbrev pub edits_refusal : HeaderRecord → List GuestEdit → Option Fault
edits_refusal header edits =
    if is_marked header then Some Marked
    else if is_l1_short header then Some L1Short
    else if uses_external_data header then Some ExternalData
    else option_or (option_map BadEdit (first_unfit_of header edits))
    (if header.v2.version == 2 && list_any is_zeros edits then Some VersionNeeded else None)
