use Rattle.std.proofs.Common.{◌≡◌, ◌≢◌, ◌⊎◌, ◌==◌, ℕ, ◌+◌, ◌-◌, ◌≤◌, Bool, false, List, [], ◌∷◌, ◌++◌, length, Option, Some, None, Result, Ok, Err, inl, inr, refl, sym, ap, ◌∙◌, add-zero, append_assoc, arith}
use Rattle.std.proofs.lemmas.Bool.Decides.{nat_tests}
use Rattle.qcow2_base.specs.OnDiskStruct.{HoldsLayout, LayoutField, header_extension_header, layout_end, fields_moved_by, v2_header, v3_header_base}
use Rattle.qcow2_base.specs.Storage.{Holds, Image, be, image_of}
use Rattle.qcow2_base.specs.declared.fault.Fault.{Fault}
use Rattle.qcow2_base.specs.declared.fault.Fault.TheVariants.{NoMemory, Storage}
use Rattle.qcow2_base.specs.declared.on_disk_struct.header_extension_header.HeaderExtensionHeader.{HeaderExtensionHeader}
use Rattle.qcow2_base.specs.declared.on_disk_struct.v2_header.V2Header.{V2Header}
use Rattle.qcow2_base.specs.declared.on_disk_struct.v3_header_base.V3HeaderBase.{V3HeaderBase}
use Rattle.qcow2_base.proofs.OnDiskStructLemmas.{HoldsLayout-moved}
use Rattle.std.proofs.lemmas.List.{take_at}
use Rattle.qcow2_metadata.proofs.RangeLemmas.{held-bytes_at}
use Rattle.qcow2_metadata.proofs.ChainLemmas.{extensions_at-unfold}
use Rattle.qcow2_metadata.proofs.GrammarLemmas.{IsBase-base_at, fixed_parts-by, header_from, holds-v2_at, parts_by}
use Rattle.qcow2_metadata.specs.Results.{after_conditions, and_then, result_map}
use Rattle.qcow2_metadata.specs.Header.Chain.{extension_at, extensions_at}
use Rattle.qcow2_metadata.specs.Header.Extensions.{Extension}
use Rattle.qcow2_metadata.specs.Header.Grammar.{IsBase, backing_name, base_at, field_conditions, fixed_parts, header_extensions, header_with_parts, last_conditions, v2_at, version_conditions}
use Rattle.qcow2_metadata.specs.Range.{bytes_at}
use Rattle.qcow2_metadata.specs.declared.header.features.AcceptedFeatures.{AcceptedFeatures}

-- bytes that were read
pub ruleset bytes_read = (held-bytes_at, take_at)

-- a structure that was read is in the image
pub read-layout : (image : Image) (offset : ℕ) (bytes : List ℕ) (fields : List LayoutField) → Holds image offset bytes
    → layout_end fields ≤ length bytes → HoldsLayout (image_of bytes) fields → HoldsLayout image (fields_moved_by offset fields)
read-layout image offset bytes fields held within layout =
    HoldsLayout-moved (image_of bytes) image offset (length bytes) fields held.each within layout

-- the first part that was read is the image's
pub read-v2_at : (image : Image) (bytes : List ℕ) (v2 : V2Header) → Holds image 0 bytes → 72 ≤ length bytes
    → HoldsLayout (image_of bytes) (v2_header v2) → v2_at image ≡ v2
read-v2_at image bytes v2 held within layout =
    holds-v2_at image v2 (read-layout image 0 bytes (v2_header v2) held within layout)

-- the fixed parts that were read are the image's
fixed_parts-read : (image : Image) (bytes : List ℕ) (v2 : V2Header) (base : V3HeaderBase) → Holds image 0 bytes
    → 104 ≤ length bytes → HoldsLayout (image_of bytes) (v2_header v2) → IsBase (image_of bytes) v2.version base
    → (v2.version ≡ 2) ⊎ (v2.version ≡ 3) → fixed_parts image ≡ parts_by v2 base
fixed_parts-read image bytes v2 base held within layout is known =
    let second = IsBase-base_at image v2.version base known (record {
      version_3 = λ three. read-layout image 0 bytes (fields_moved_by 72 (v3_header_base base)) held within (is.version_3 three);
      version_2 = is.version_2;
    }) in
    fixed_parts-by image v2 base (read-v2_at image bytes v2 held (omega arith) layout) second

-- what was read before an extension's data is the image's
pub read-extension_header_at : (image : Image) (place : ℕ) (bytes : List ℕ) (header : HeaderExtensionHeader)
    → Holds image place bytes → 8 ≤ length bytes → HoldsLayout (image_of bytes) (header_extension_header header)
    → (be image place 4 ≡ header.extension_type) × (be image (place + 4) 4 ≡ header.length)
read-extension_header_at image place bytes header held within layout =
    let fields = read-layout image place bytes (header_extension_header header) held within layout in
    (simp add-zero at fields.0, fields.1.0)

-- what tests of conditions return
abbrev pub tested : List (Bool × Fault) → Result (Unit {0}) Fault
tested conditions = after_conditions conditions (λ _. Ok tt)

-- conditions of which one failed decide, whatever comes after them
pub provided-fault : {T : Type 0} (conditions : List (Bool × Fault)) (next : Unit {0} → Result T Fault) (fault : Fault)
    → Err fault ≡ tested conditions → after_conditions conditions next ≡ Err fault
provided-fault conditions next fault fails = grind arith

-- conditions that hold leave what comes after them
pub provided-next : {T : Type 0} (conditions : List (Bool × Fault)) (next : Unit {0} → Result T Fault)
    → Ok tt ≡ tested conditions → after_conditions conditions next ≡ next tt
provided-next conditions next hold = grind arith

-- what the tests of the fixed parts say of both
parts-fault : (v2 : V2Header) (base : V3HeaderBase) (fault : Fault) → Err fault ≡ tested (version_conditions v2)
    → parts_by v2 base ≡ Err fault
parts-fault v2 base fault fails = grind (arith, nat_tests, provided-fault)

parts-next : (v2 : V2Header) (base : V3HeaderBase) → Ok tt ≡ tested (version_conditions v2)
    → parts_by v2 base ≡ after_conditions (field_conditions v2 base) (λ _. Ok (v2, base))
parts-next v2 base hold = grind (arith, nat_tests, provided-next)

-- what comes of the fixed parts that were read
pub version_refused : (image : Image) (bytes : List ℕ) (v2 : V2Header) (fault : Fault) → Holds image 0 bytes
    → 72 ≤ length bytes → HoldsLayout (image_of bytes) (v2_header v2) → Err fault ≡ tested (version_conditions v2)
    → fixed_parts image ≡ Err fault
version_refused image bytes v2 fault held within layout fails =
    let base = base_at image v2.version in
    fixed_parts-by image v2 base (read-v2_at image bytes v2 held within layout) refl ∙ parts-fault v2 base fault fails

pub fields_refused : (image : Image) (bytes : List ℕ) (v2 : V2Header) (base : V3HeaderBase) (fault : Fault)
    → Holds image 0 bytes → 104 ≤ length bytes → HoldsLayout (image_of bytes) (v2_header v2)
    → IsBase (image_of bytes) v2.version base → (v2.version ≡ 2) ⊎ (v2.version ≡ 3)
    → Ok tt ≡ tested (version_conditions v2) → Err fault ≡ tested (field_conditions v2 base)
    → fixed_parts image ≡ Err fault
fields_refused image bytes v2 base fault held within layout is known holds fails =
    fixed_parts-read image bytes v2 base held within layout is known ∙ parts-next v2 base holds
    ∙ provided-fault (field_conditions v2 base) (λ _. Ok (v2, base)) fault fails

pub parts_taken : (image : Image) (bytes : List ℕ) (v2 : V2Header) (base : V3HeaderBase) → Holds image 0 bytes
    → 104 ≤ length bytes → HoldsLayout (image_of bytes) (v2_header v2) → IsBase (image_of bytes) v2.version base
    → (v2.version ≡ 2) ⊎ (v2.version ≡ 3) → Ok tt ≡ tested (version_conditions v2)
    → Ok tt ≡ tested (field_conditions v2 base) → fixed_parts image ≡ Ok (v2, base)
parts_taken image bytes v2 base held within layout is known holds hold =
    fixed_parts-read image bytes v2 base held within layout is known ∙ parts-next v2 base holds
    ∙ provided-next (field_conditions v2 base) (λ _. Ok (v2, base)) hold

-- the extensions from a place on are the first and those from the next place on
pub extensions_at-more : (image : Image) (len place : ℕ) (first : Extension × ℕ) (before : List Extension)
    → extension_at image len place ≡ Ok (Some first)
    → result_map (λ (xs : List Extension). before ++ xs) (extensions_at image len place)
    ≡ result_map (λ (xs : List Extension). (before ++ first.0 ∷ []) ++ xs) (extensions_at image len first.1)
extensions_at-more image len place first before is =
    rw (extensions_at-unfold image len place, is) (by_others (extensions_at image len first.1))
  where
    by_others : (others : Result (List Extension) Fault)
        → result_map (λ (xs : List Extension). before ++ xs)
        (result_map (λ (xs : List Extension). first.0 ∷ xs) others)
        ≡ result_map (λ (xs : List Extension). (before ++ first.0 ∷ []) ++ xs) others
    by_others (Ok xs) = ap Ok (sym (append_assoc before (first.0 ∷ []) xs))
    by_others (Err fault) = refl

-- none are left at the end
pub extensions_at-end : (image : Image) (len place : ℕ) → extension_at image len place ≡ Ok None → extensions_at image len place ≡ Ok []
extensions_at-end image len place is = extensions_at-unfold image len place ∙ rw is refl

-- the fault of the first is that of all
pub extensions_at-fault : (image : Image) (len place : ℕ) (fault : Fault) → extension_at image len place ≡ Err fault
    → extensions_at image len place ≡ Err fault
extensions_at-fault image len place fault is = extensions_at-unfold image len place ∙ rw is refl

-- the fault of the first result is that of both
pub first-fault : {A B : Type 0} (first : Result A Fault) (next : A → Result B Fault) (fault : Fault)
    → ((fault ≡ Storage) ⊎ (fault ≡ NoMemory) ⊎ (first ≡ Err fault))
    → ((fault ≡ Storage) ⊎ (fault ≡ NoMemory) ⊎ (and_then first next ≡ Err fault))
first-fault first next fault why = grind (arith, nat_tests)

-- after all parts their last conditions decide what comes
pub header-last : (accepted : AcceptedFeatures) (image : Image) (v2 : V2Header) (base : V3HeaderBase) (name : Option (List ℕ))
    (extensions : List Extension)
    → backing_name image v2 ≡ Ok name → header_extensions image v2 base ≡ Ok extensions
    → header_with_parts accepted image (v2, base)
    ≡ after_conditions (last_conditions accepted base (bytes_at image 104 (base.header_length - 104)) extensions)
    (λ _. Ok (header_from image (v2, base) name extensions))
header-last accepted image v2 base name extensions named extended = rw (named, extended) refl
