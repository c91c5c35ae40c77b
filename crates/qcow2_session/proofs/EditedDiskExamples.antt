use Rattle.std.proofs.Common.{◌≡◌, ◌∷◌, [], List, map, false, true, Some, None, refl}
use Rattle.qcow2_metadata.specs.Entries.L2Mapping.{Mapping, backing, compressed, data_file, zeros}
use Rattle.qcow2_apply.specs.declared.guest_edits.GuestEdit.{GuestEdit}
use Rattle.qcow2_apply.specs.declared.guest_edits.GuestEdit.TheVariants.{Discard, Map, Zero}
use Rattle.qcow2_session.specs.EditedDisk.{mapping_left}

-- edits of the first clusters of 64 KiB: the first three are taken away, the next two become zeros, of which one keeps its
-- host cluster, and the first is mapped to host cluster 9
abbrev edits : List GuestEdit
edits = Discard (record { 0 = 0 }) 0x30000 ∷ Zero (record { 0 = 0x30000 }) 0x10000 true ∷ Zero (record { 0 = 0x40000 }) 0x10000 false
    ∷ Map (record { 0 = 0 }) (record { 0 = 9 }) ∷ []

-- what offsets read as after them, in the first six clusters, by what each read as before
abbrev left : Mapping → List Mapping
left before = map (λ offset. mapping_left 16 offset edits before) (0xffff ∷ 0x10000 ∷ 0x2ffff ∷ 0x30000 ∷ 0x4ffff ∷ 0x50000 ∷ [])

pub of-data : left (data_file 5 true)
    ≡ data_file 9 true ∷ backing 0x10000 ∷ backing 0x20000 ∷ zeros (Some 5) true ∷ zeros None false ∷ data_file 5 true ∷ []
of-data = refl

pub of-compressed : left (compressed 0x50200 512)
    ≡ data_file 9 true ∷ backing 0x10000 ∷ backing 0x20000 ∷ zeros None false ∷ zeros None false ∷ compressed 0x50200 512 ∷ []
of-compressed = refl

-- zeros that keep a cluster, after the edit that mapped it
pub kept-after-map : mapping_left 16 0x1234 (Map (record { 0 = 0 }) (record { 0 = 9 }) ∷ Zero (record { 0 = 0 }) 0x10000 true ∷ []) (backing 0) ≡ zeros (Some 9) true
kept-after-map = refl
