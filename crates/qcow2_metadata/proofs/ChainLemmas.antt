use Rattle.std.proofs.Common.{◌≡◌, ◌≢◌, ℕ, zero, suc, ◌+◌, ◌*◌, ◌<◌, ◌≤◌, List, [], ◌∷◌, map, IsOk, Option, Some, None, Result, Ok, Err, refl, ap, ◌∙◌, arith}
use Rattle.qcow2_base.specs.Storage.{Image}
use Rattle.qcow2_base.specs.declared.fault.Fault.{Fault}
use Rattle.qcow2_base.specs.declared.fault.Fault.TheVariants.{ExtensionsExceed}
use Rattle.std.proofs.lemmas.Bool.Decides.{nat_tests}
use Rattle.qcow2_metadata.specs.Results.{and_then, result_map}
use Rattle.qcow2_metadata.specs.Header.Chain.{BreaksBy, IsChain, Link, SaysExtensions, data_end, extension_at, extensions_at, few_extensions, link_at, next_place, extension_in_link}
use Rattle.qcow2_metadata.specs.Header.Extensions.{Extension}

-- where too few bytes are left for an extension
pub extension_at-past : (image : Image) (len place : ℕ) → len < data_end (link_at image place)
    → extension_at image len place ≡ Err ExtensionsExceed
extension_at-past image len place past = grind (arith, nat_tests)

-- an extension that isn't the last of its chain, what it says, and where the next one is
pub record IsFirst (image : Image) (len place : ℕ) (extension : Extension) (next : ℕ) : Type 0 where
  pub bounded : data_end (link_at image place) ≤ len
  pub more : (link_at image place).number ≢ 0
  pub says : extension_in_link image (link_at image place) ≡ Ok extension
  pub next_is : next ≡ next_place (link_at image place)

-- the last extension of a complete chain
pub record IsEnd (len : ℕ) (last : Link) : Type 0 where
  pub bounded : data_end last ≤ len
  pub end : last.number ≡ 0

-- what is at a place, by what is found there
extension_at-end : (image : Image) (len place : ℕ) → extension_at image len place ≡ Ok None
    → IsEnd len (link_at image place)
extension_at-end image len place is = grind (arith, nat_tests)

extension_at-some : (image : Image) (len place : ℕ) (extension : Extension) (next : ℕ)
    → extension_at image len place ≡ Ok (Some (extension, next)) → IsFirst image len place extension next
extension_at-some image len place extension next is = grind (arith, nat_tests)

-- and what is found there, by what is at it
end-extension_at : (image : Image) (len place : ℕ) → IsEnd len (link_at image place)
    → extension_at image len place ≡ Ok None
end-extension_at image len place is = grind (arith, nat_tests)

-- the rest of a chain after what its first extension says
abbrev with_others : Image → ℕ → ℕ → Option (Extension × ℕ) → Result (List Extension) Fault
with_others image len most found = elim found [
  | None ↦ Ok []
  | Some first ↦ result_map (λ others. first.0 ∷ others) (few_extensions most image len first.1)
]

-- extensions from a place on don't depend on how many they may be, where this is enough
few_extensions-same : (n m : ℕ) (image : Image) (len place : ℕ) → len < place + 8 * n → len < place + 8 * m
    → few_extensions n image len place ≡ few_extensions m image len place
few_extensions-same zero zero image len place few more = refl
few_extensions-same zero (suc m) image len place few more = grind (arith, nat_tests, extension_at-past)
few_extensions-same (suc n) zero image len place few more = grind (arith, nat_tests, extension_at-past)
few_extensions-same (suc n) (suc m) image len place few more =
    by_found (extension_at image len place) refl
    (λ next on. few_extensions-same n m image len next (omega arith) (omega arith))
  where
    by_found : (found : Result (Option (Extension × ℕ)) Fault) → extension_at image len place ≡ found
        → ((next : ℕ) → place + 8 ≤ next → few_extensions n image len next ≡ few_extensions m image len next)
        → and_then found (with_others image len n) ≡ and_then found (with_others image len m)
    by_found (Ok None) is same = refl
    by_found (Ok (Some (extension, next))) is same =
        ap (result_map (λ (others : List Extension). extension ∷ others))
        (same next (omega (arith, (extension_at-some image len place extension next is).next_is)))
    by_found (Err fault) is same = refl

-- the extensions from a place on, one step
pub extensions_at-unfold : (image : Image) (len place : ℕ) → extensions_at image len place
    ≡ and_then (extension_at image len place) (λ found. elim found [
      | None ↦ Ok []
      | Some first ↦ result_map (λ others. first.0 ∷ others) (extensions_at image len first.1)
    ])
unfolding extensions_at
extensions_at-unfold image len place =
    few_extensions-same (suc len) (suc (suc len)) image len place (omega arith) (omega arith)

-- what a chain says that ends right away
pub says_none : (image : Image) (len place : ℕ) → IsEnd len (link_at image place)
    → SaysExtensions image len place []
says_none image len place is = grind (arith, nat_tests)

-- an extension and the chain after it are a chain
chain_more : (image : Image) (len place next : ℕ) (extension : Extension) (links : List Link) (last : Link)
    → IsFirst image len place extension next → IsChain image len next links last
    → IsChain image len place (link_at image place ∷ links) last
chain_more image len place next extension links last first rest = grind (arith, nat_tests)

-- what is said from a place on, by the first extension and what is said after it
pub says_more : (image : Image) (len place next : ℕ) (extension : Extension) (others : List Extension)
    → IsFirst image len place extension next → SaysExtensions image len next others
    → SaysExtensions image len place (extension ∷ others)
says_more image len place next extension others first rest = record {
  links = link_at image place ∷ rest.links;
  last = rest.last;
  chain = chain_more image len place next extension rest.links rest.last first rest.chain;
  bounded = rest.bounded;
  end = rest.end;
  said = rw (first.says, rest.said) refl;
}

-- a result that is changed to an Ok was one
result_map-ok : {A B : Type 0} (f : A → B) (answer : Result A Fault) (value : B) → result_map f answer ≡ Ok value
    → (x : A) × (answer ≡ Ok x) × (f x ≡ value)
result_map-ok f (Ok x) value is = (x, refl, cc)
result_map-ok f (Err fault) value is = cc

-- the extensions that are found from a place on, the chain says
few_extensions-says : (most : ℕ) (image : Image) (len place : ℕ) (extensions : List Extension)
    → few_extensions most image len place ≡ Ok extensions → SaysExtensions image len place extensions
few_extensions-says zero image len place extensions is = cc
few_extensions-says (suc most) image len place extensions is =
    by_found (extension_at image len place) refl is (few_extensions-says most image len)
  where
    by_found : (found : Result (Option (Extension × ℕ)) Fault) → extension_at image len place ≡ found
        → and_then found (with_others image len most) ≡ Ok extensions
        → ((next : ℕ) (others : List Extension) → few_extensions most image len next ≡ Ok others
        → SaysExtensions image len next others) → SaysExtensions image len place extensions
    by_found (Ok None) here is later =
        let none : [] ≡ extensions = cc in
        rw (← none) (says_none image len place (extension_at-end image len place here))
    by_found (Ok (Some (extension, next))) here is later =
        let others = result_map-ok (λ (xs : List Extension). extension ∷ xs) (few_extensions most image len next) extensions is in
        let first = extension_at-some image len place extension next here in
        rw (← others.2) (says_more image len place next extension others.0 first (later next others.0 others.1))
    by_found (Err fault) here is later = cc

-- extensions that are found from a place on are what the chain says
pub extensions_at-says : (image : Image) (len place : ℕ) (extensions : List Extension)
    → extensions_at image len place ≡ Ok extensions → SaysExtensions image len place extensions
unfolding extensions_at
extensions_at-says image len place extensions is = few_extensions-says (suc len) image len place extensions is

-- what is found where a chain has more than one extension
chain_first : (image : Image) (len place : ℕ) (link : Link) (links : List Link) (last : Link)
    (extension : Extension)
    → IsChain image len place (link ∷ links) last → extension_in_link image link ≡ Ok extension
    → extensions_at image len place ≡ result_map (λ others. extension ∷ others)
    (extensions_at image len (next_place link))
chain_first image len place link links last extension chain says =
    grind (arith, nat_tests, extensions_at-unfold)

-- the extensions of a complete chain are found
chain-says : (image : Image) (len place : ℕ) (links : List Link) (last : Link) (extensions : List Extension)
    → IsChain image len place links last → IsEnd len last → map (extension_in_link image) links ≡ map Ok extensions
    → extensions_at image len place ≡ Ok extensions
chain-says image len place [] last [] chain end says =
    extensions_at-unfold image len place ∙ rw (end-extension_at image len place (rw chain at end)) refl
chain-says image len place [] last (extension ∷ others) chain end says = cc
chain-says image len place (link ∷ links) last [] chain end says = cc
chain-says image len place (link ∷ links) last (extension ∷ others) chain end says =
    chain_first image len place link links last extension chain (cc)
    ∙ rw (chain-says image len (next_place link) links last others chain.4 end (cc)) refl

-- what the chain says is found
pub says-extensions_at : (image : Image) (len place : ℕ) (extensions : List Extension)
    → SaysExtensions image len place extensions → extensions_at image len place ≡ Ok extensions
says-extensions_at image len place extensions says =
    chain-says image len place says.links says.last extensions says.chain (record { bounded = says.bounded; end = says.end }) says.said

-- the extension at a place where a chain breaks is refused
breaks-extension_at : (image : Image) (len place : ℕ) (fault : Fault) → BreaksBy image len (link_at image place) fault
    → extension_at image len place ≡ Err fault
breaks-extension_at image len place fault breaks = grind (arith, nat_tests)

-- and so is the chain
pub breaks-extensions_at : (image : Image) (len place : ℕ) (links : List Link) (last : Link) (fault : Fault)
    → IsChain image len place links last → BreaksBy image len last fault → extensions_at image len place ≡ Err fault
breaks-extensions_at image len place [] last fault chain breaks =
    extensions_at-unfold image len place ∙ rw (breaks-extension_at image len place fault (rw chain at breaks)) refl
breaks-extensions_at image len place (link ∷ links) last fault chain breaks =
    by_data (extension_in_link image link) refl chain.3
    (breaks-extensions_at image len (next_place link) links last fault chain.4 breaks)
  where
    by_data : (found : Result Extension Fault) → extension_in_link image link ≡ found → IsOk found
        → extensions_at image len (next_place link) ≡ Err fault → extensions_at image len place ≡ Err fault
    by_data (Ok extension) says ok rest =
        chain_first image len place link links last extension chain says ∙ rw rest refl
    by_data (Err other) says ok rest = cc
