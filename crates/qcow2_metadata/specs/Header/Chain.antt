-- Which extensions does a header have, one after another, up to End?
use Rattle.std.specs.Prelude.{◌≡◌, ◌≢◌, ◌⊎◌, ℕ, zero, suc, ◌+◌, ◌<◌, ◌≤◌, ◌==◌, nat_le, IsOk, List, [], ◌∷◌, map, Option, Some, None, Result, Ok, Err, true, false}
use Rattle.std.specs.Int.{next_multiple_of}
use Rattle.qcow2_base.specs.Storage.{Image, be}
use Rattle.qcow2_base.specs.declared.fault.Fault.{Fault}
use Rattle.qcow2_base.specs.declared.fault.Fault.TheVariants.{ExtensionsExceed}
use Rattle.qcow2_metadata.specs.Results.{and_then, after_conditions, result_map}
use Rattle.qcow2_metadata.specs.Header.Extensions.{Extension, extension_from_data}
use Rattle.qcow2_metadata.specs.Range.{bytes_at}

-- where an extension is, the number of its type, and how many bytes of data it has
pub record Link : Type 0 where
  pub place : ℕ
  pub number : ℕ
  pub size : ℕ

-- the extension at a place
abbrev pub link_at : Image → ℕ → Link
link_at image place = record { place = place; number = be image place 4; size = be image (place + 4) 4 }

-- where its data ends
abbrev pub data_end : Link → ℕ
data_end link = link.place + 8 + link.size

-- where the next one is: its data is padded to a multiple of 8 bytes
abbrev pub next_place : Link → ℕ
next_place link = link.place + 8 + next_multiple_of link.size 8

-- what an extension that isn't End says: its data as its type reads it, or the fault of data that it can't have
abbrev pub extension_in_link : Image → Link → Result Extension Fault
extension_in_link image link = extension_from_data link.number (bytes_at image (link.place + 8) link.size)

-- the extensions from a place on, each the next one of the one before, up to a last one. All before it end
-- within that many bytes, aren't End, and have data that their types can read
abbrev pub IsChain : Image → ℕ → ℕ → List Link → Link → Type 0
IsChain image len place [] last = last ≡ link_at image place
IsChain image len place (link ∷ links) last =
    (link ≡ link_at image place) × (data_end link ≤ len) × (link.number ≢ 0) × IsOk (extension_in_link image link)
    × IsChain image len (next_place link) links last

-- the extensions that a complete chain from a place on says: its last one is End, and ends within that many bytes
pub record SaysExtensions (image : Image) (len place : ℕ) (extensions : List Extension) : Type 0 where
  pub links : List Link
  pub last : Link
  pub chain : IsChain image len place links last
  pub bounded : data_end last ≤ len
  pub end : last.number ≡ 0
  pub said : map (extension_in_link image) links ≡ map Ok extensions

-- the extension breaks its chain by this fault: it ends past that many bytes, or it isn't End and has data that its
-- type can't read
abbrev pub BreaksBy : Image → ℕ → Link → Fault → Type 0
BreaksBy image len link fault =
    ((len < data_end link) × (fault ≡ ExtensionsExceed))
    ⊎ ((data_end link ≤ len) × (link.number ≢ 0) × (extension_in_link image link ≡ Err fault))

-- what the extension at a place says, and where the next one is; nothing where it is End
abbrev pub extension_at : Image → ℕ → ℕ → Result (Option (Extension × ℕ)) Fault
extension_at image len place =
    let link = link_at image place in
    after_conditions ((nat_le (data_end link) len, ExtensionsExceed) ∷ []) (λ _.
    elim (link.number == 0) [
      | true ↦ Ok None
      | false ↦ result_map (λ extension. Some (extension, next_place link)) (extension_in_link image link)
    ])

-- the extensions from a place on, up to End, if these are fewer than this number
abbrev pub few_extensions : ℕ → Image → ℕ → ℕ → Result (List Extension) Fault
few_extensions zero image len place = Err ExtensionsExceed
few_extensions (suc most) image len place =
    and_then (extension_at image len place) (λ found. elim found [
      | None ↦ Ok []
      | Some first ↦ result_map (λ others. first.0 ∷ others) (few_extensions most image len first.1)
    ])

-- the extensions from a place on, up to End, all of which end within that many bytes: as each has 8 bytes at
-- least, they are fewer than the bytes
unfoldable pub extensions_at : Image → ℕ → ℕ → Result (List Extension) Fault
extensions_at image len place = few_extensions (suc len) image len place
