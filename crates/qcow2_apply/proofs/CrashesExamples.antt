use Rattle.std.proofs.Common.{◌≡◌, ◌==◌, ◌/◌, [], ◌∷◌, if◌then◌else◌, nat_lt, refl, inl, inr, arith}
use Rattle.std.proofs.lemmas.Bool.{cases_eq}
use Rattle.std.proofs.lemmas.Bool.Decides.{nat_tests}
use Rattle.qcow2_base.specs.Storage.{Image, be}
use Rattle.qcow2_metadata.specs.Refblock.Packing.{counter_at}
use Rattle.qcow2_apply.specs.Crashes.{MixesSectors}

-- an image of zeros, of which each byte becomes 1
abbrev pub zeros : Image
zeros o = 0

abbrev pub ones : Image
ones o = 1

-- only the second sector came to the device
abbrev pub second_written : Image
second_written o = if o / 512 == 1 then 1 else 0

pub second_is_written : MixesSectors zeros ones second_written
second_is_written sector = elim (cases_eq sector 1) [
  | inl second ↦ inr (λ o here. grind (arith, nat_tests, here, second))
  | inr other ↦ inl (λ o here. grind (arith, nat_tests, here, other))
]

-- so of a table's entries the one before it is as it was, and the next is written
pub entries_there : be second_written 504 8 ∷ be second_written 512 8 ∷ [] ≡ 0 ∷ 72340172838076673 ∷ []
unfolding be
entries_there = refl

-- and so are counters of 16 bits and of one bit
pub counters_there : counter_at 4 second_written 0 255 ∷ counter_at 4 second_written 0 256
    ∷ counter_at 0 second_written 0 4095 ∷ counter_at 0 second_written 0 4096 ∷ [] ≡ 0 ∷ 257 ∷ 0 ∷ 1 ∷ []
unfolding be
counters_there = refl

-- half a sector is no mix
pub half_is_none : MixesSectors zeros ones (λ o. if nat_lt o 256 then 1 else 0) → ⊥
half_is_none mixes = elim (mixes 0) [
  | inl same ↦ absurd (let one : 1 ≡ 0 = same 0 refl in omega (arith, one))
  | inr same ↦ absurd (let none : 0 ≡ 1 = same 256 refl in omega (arith, none))
]
