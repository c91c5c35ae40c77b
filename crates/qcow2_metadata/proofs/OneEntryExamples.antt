use Rattle.std.proofs.Common.{◌≡◌, ℕ, ◌^◌, ◌∷◌, [], map, true, refl}
use Rattle.qcow2_base.specs.Storage.{StorageState}
use Rattle.qcow2_metadata.specs.Table.OneEntry.{entry_alignment}

-- a storage with these alignments
abbrev aligned : ℕ → ℕ → StorageState
aligned mem req = record { tells = true; byte_at = λ o. 0; len = 0; failures = 0; mem_align = mem; req_align = req }

-- the greater alignment counts, eight bytes at least, as long as a cluster has as many bytes
pub alignments :
    (map (entry_alignment 9) (aligned 1 1 ∷ aligned 256 16 ∷ aligned 16 256 ∷ aligned 1 512 ∷ aligned 1 1024 ∷ [])
    ≡ 8 ∷ 256 ∷ 256 ∷ 512 ∷ 8 ∷ [])
    × (entry_alignment 21 (aligned 1 (2 ^ 21)) ≡ 2 ^ 21)
alignments = (refl, refl)
