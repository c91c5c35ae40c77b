use Rattle.std.proofs.Common.{◌≡◌, ◌≢◌, ◌⊎◌, ℕ, ◌+◌, ◌<◌, ◌≤◌, List, [], ◌∷◌, map, Some, None, Ok, refl, inl, inr, ◌∙◌, arith}
use Rattle.std.proofs.lemmas.Bool.Decides.{nat_tests}
use Rattle.qcow2_base.specs.Storage.{Image}
use Rattle.qcow2_metadata.specs.Header.{first_by}
use Rattle.qcow2_metadata.specs.Header.Chain.{IsChain, Link, SaysExtensions, data_end, extension_in_link, link_at, next_place}
use Rattle.qcow2_metadata.specs.Header.Extensions.{Extension, extension_from_data, extension_number, name_in}
use Rattle.qcow2_metadata.specs.Range.{bytes_at}
use Rattle.qcow2_metadata.specs.declared.header.extensions.HeaderExtensionType.{HeaderExtensionType}
use Rattle.qcow2_metadata.specs.declared.header.extensions.HeaderExtensionType.TheVariants as types
use Rattle.qcow2_bytes.specs.Header.{IsNameAt, no_name}

-- a type whose extensions say a name
abbrev pub IsNaming : HeaderExtensionType → Type 0
IsNaming type = (type ≡ types.BackingFileFormat) ⊎ (type ≡ types.ExternalDataFileName)

-- the first name of a complete chain is the first from a later place on
abbrev pub KeepsFirst : Image → ℕ → ℕ → ℕ → HeaderExtensionType → Type 0
KeepsFirst image len first place type = (extensions : List Extension) → SaysExtensions image len first extensions
    → (others : List Extension) × SaysExtensions image len place others
    × (first_by (name_in type) extensions ≡ first_by (name_in type) others)

-- what a complete chain says from a place on: nothing at End, or an extension and what is said from the next place on
data FromPlace (image : Image) (len place : ℕ) (extensions : List Extension) : Type 0 where
  at_end : (link_at image place).number ≡ 0 → extensions ≡ [] → FromPlace image len place extensions
  at_more : (extension : Extension) (others : List Extension) → (link_at image place).number ≢ 0
      → extension_in_link image (link_at image place) ≡ Ok extension → extensions ≡ extension ∷ others
      → SaysExtensions image len (next_place (link_at image place)) others → FromPlace image len place extensions

-- the extension at a place of a complete chain ends within it
within : (image : Image) (len place : ℕ) (extensions : List Extension) → SaysExtensions image len place extensions
    → data_end (link_at image place) ≤ len
within image len place extensions says = by_links says.links says.chain
  where
    by_links : (links : List Link) → IsChain image len place links says.last → data_end (link_at image place) ≤ len
    by_links [] chain = rw chain at says.bounded
    by_links (link ∷ links) chain = rw chain.0 at chain.1

from_place : (image : Image) (len place : ℕ) (extensions : List Extension) → SaysExtensions image len place extensions
    → FromPlace image len place extensions
from_place image len place extensions says = by_links says.links extensions says.chain says.said
  where
    by_links : (links : List Link) (extensions : List Extension) → IsChain image len place links says.last
        → map (extension_in_link image) links ≡ map Ok extensions → FromPlace image len place extensions
    by_links [] [] chain said = at_end (rw chain at says.end) refl
    by_links [] (extension ∷ others) chain said = cc
    by_links (link ∷ links) [] chain said = cc
    by_links (link ∷ links) (extension ∷ others) chain said =
        let here : extension_in_link image link ≡ Ok extension = cc in
        at_more extension others (rw chain.0 at chain.2) (rw chain.0 at here) refl (record {
          links = links;
          last = says.last;
          chain = rw chain.0 at chain.4;
          bounded = says.bounded;
          end = says.end;
          said = cc;
        })

-- where a chain ends or breaks, no name is left
pub ends : (image : Image) (len first place : ℕ) (type : HeaderExtensionType) → KeepsFirst image len first place type
    → ((link_at image place).number ≡ 0) ⊎ (len < data_end (link_at image place))
    → (extensions : List Extension) → SaysExtensions image len first extensions
    → IsNameAt image len (first_by (name_in type) extensions) no_name
ends image len first place type kept over extensions says =
    let rest = kept extensions says in
    rw (rest.2, none rest.0 rest.1 over (from_place image len place rest.0 rest.1)) refl
  where
    none : (others : List Extension) → SaysExtensions image len place others
        → ((link_at image place).number ≡ 0) ⊎ (len < data_end (link_at image place))
        → FromPlace image len place others → first_by (name_in type) others ≡ None
    none others says over (at_end is_end empty) = rw empty refl
    none others says (inl zero) (at_more extension later more here is rest) = absurd (more zero)
    none others says (inr past) (at_more extension later more here is rest) = absurd (omega (arith, past, within image len place others says))

-- the name that an extension says by its data
named : (type : HeaderExtensionType) (number : ℕ) (bytes : List ℕ) (extension : Extension) → IsNaming type
    → number ≡ extension_number type → extension_from_data number bytes ≡ Ok extension → name_in type extension ≡ Some bytes
named type number bytes extension (inl is) same here = grind (arith, nat_tests)
named type number bytes extension (inr is) same here = grind (arith, nat_tests)

-- an extension of another type says no name of this one
unnamed : (type : HeaderExtensionType) (number : ℕ) (bytes : List ℕ) (extension : Extension) → IsNaming type
    → number ≢ extension_number type → extension_from_data number bytes ≡ Ok extension → name_in type extension ≡ None
unnamed type number bytes extension (inl is) other here = grind (arith, nat_tests)
unnamed type number bytes extension (inr is) other here = grind (arith, nat_tests)

-- the first name is that of the extension at a place, where it is of the type
pub found : (image : Image) (len first place : ℕ) (type : HeaderExtensionType) → IsNaming type
    → KeepsFirst image len first place type → (link_at image place).number ≡ extension_number type
    → (extensions : List Extension) → SaysExtensions image len first extensions
    → IsNameAt image len (first_by (name_in type) extensions) (record { offset = place + 8; length = (link_at image place).size })
found image len first place type naming kept same extensions says =
    let rest = kept extensions says in
    let name = some rest.0 (from_place image len place rest.0 rest.1) in
    rw (rest.2, name) (omega arith, omega (arith, within image len place rest.0 rest.1), refl)
  where
    some : (others : List Extension) → FromPlace image len place others
        → first_by (name_in type) others ≡ Some (bytes_at image (place + 8) (link_at image place).size)
    some others (at_end is_end empty) = elim naming [
      | inl is ↦ cc
      | inr is ↦ cc
    ]
    some others (at_more extension later more here is rest) =
        let name = named type (link_at image place).number (bytes_at image (place + 8) (link_at image place).size) extension naming same here in
        rw (is, name) refl

-- an extension of another type is passed
pub passed : (image : Image) (len first place : ℕ) (type : HeaderExtensionType) → IsNaming type
    → KeepsFirst image len first place type → (link_at image place).number ≢ 0
    → (link_at image place).number ≢ extension_number type
    → KeepsFirst image len first (next_place (link_at image place)) type
passed image len first place type naming kept more other extensions says =
    let rest = kept extensions says in
    after rest.0 rest.2 (from_place image len place rest.0 rest.1)
  where
    after : (others : List Extension) → first_by (name_in type) extensions ≡ first_by (name_in type) others
        → FromPlace image len place others
        → (later : List Extension) × SaysExtensions image len (next_place (link_at image place)) later
        × (first_by (name_in type) extensions ≡ first_by (name_in type) later)
    after others same (at_end is_end empty) = absurd (more is_end)
    after others same (at_more extension later _ here is rest) =
        let no = unnamed type (link_at image place).number (bytes_at image (place + 8) (link_at image place).size) extension naming other here in
        let skips : first_by (name_in type) (extension ∷ later) ≡ first_by (name_in type) later = rw no refl in
        (later, rest, same ∙ rw is skips)
