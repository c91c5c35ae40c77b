-- What does a guest offset read as after edits of the disk, by what it read as before?
use Rattle.std.specs.Prelude.{ℕ, Bool, true, false, ◌&&◌, ◌+◌, ◌*◌, ◌/◌, ◌^◌, nat_le, nat_lt, if◌then◌else◌, List, [], ◌∷◌, Some, None}
use Rattle.qcow2_metadata.specs.Entries.L2Mapping.{Mapping, backing, compressed, data_file, zeros}
use Rattle.qcow2_apply.specs.GuestEdits.{guest_length, guest_offset}
use Rattle.qcow2_apply.specs.declared.guest_edits.GuestEdit.{GuestEdit}
use Rattle.qcow2_apply.specs.declared.guest_edits.GuestEdit.TheVariants.{Discard, Map, Zero}

-- whether the range of an edit has the byte at a guest offset
abbrev pub covers : ℕ → ℕ → GuestEdit → Bool
covers cb offset edit = nat_le (guest_offset edit).0 offset && nat_lt offset ((guest_offset edit).0 + guest_length cb edit)

-- zeros that keep the host cluster that was there, if there was one and not compressed data
abbrev pub kept_zeros : Mapping → Mapping
kept_zeros (data_file cluster copied) = zeros (Some cluster) copied
kept_zeros (zeros cluster copied) = zeros cluster copied
kept_zeros (backing offset) = zeros None false
kept_zeros (compressed offset length) = zeros None false

-- what a guest cluster reads as after an edit whose range has it, by what it read as before
abbrev pub mapping_after : ℕ → ℕ → GuestEdit → Mapping → Mapping
mapping_after cb guest_cluster (Map offset host_cluster) before = data_file host_cluster.0 true
mapping_after cb guest_cluster (Zero offset length keep_allocation) before = if keep_allocation then kept_zeros before else zeros None false
mapping_after cb guest_cluster (Discard offset length) before = backing (guest_cluster * 2 ^ cb)

-- what the cluster of a guest offset reads as after edits: each whose range has the offset changes it, in their order
abbrev pub mapping_left : ℕ → ℕ → List GuestEdit → Mapping → Mapping
mapping_left cb offset [] before = before
mapping_left cb offset (edit ∷ edits) before =
    mapping_left cb offset edits (if covers cb offset edit then mapping_after cb (offset / 2 ^ cb) edit before else before)
