use Rattle.std.proofs.Common.{◌≡◌, ℕ, zero, suc, lit<, ◌+◌, ◌^◌, ◌<◌, ◌≤◌, ◌==◌, max, map, Result, Ok, Err, refl, ap, ◌∙◌, inl, inr, arith}
use Rattle.std.specs.List.{range_with_len}
use Rattle.std.proofs.Math.Nat.{pow-le-pow_right}
use Rattle.std.proofs.lemmas.Bool.{cases_Bool}
use Rattle.std.proofs.lemmas.Bool.Decides.{nat_tests}
use Rattle.qcow2_base.specs.Storage.{Image, be}
use Rattle.qcow2_base.proofs.StorageLemmas.{be_of_same}
use Rattle.qcow2_base.specs.declared.fault.Fault.{Fault}
use Rattle.qcow2_base.specs.declared.on_disk_struct.v2_header.V2Header.{V2Header}
use Rattle.qcow2_base.specs.declared.on_disk_struct.v3_header_base.V3HeaderBase.{V3HeaderBase}
use Rattle.qcow2_metadata.specs.Header.{HeaderRecord, no_feature}
use Rattle.qcow2_metadata.specs.Header.Chain.{extension_at, extensions_at, few_extensions}
use Rattle.qcow2_metadata.specs.Header.Grammar.{accepted_header, backing_name, base_at, fixed_parts, header_extensions, header_of, header_with_parts, v2_at}
use Rattle.qcow2_metadata.specs.Range.{bytes_at}
use Rattle.qcow2_metadata.specs.declared.header.features.AcceptedFeatures.{AcceptedFeatures}
use Rattle.qcow2_metadata.proofs.ChainLemmas.{extension_at-past}
use Rattle.qcow2_metadata.proofs.GrammarLemmas.{fixed_parts-are, header_of-is, holds-v2_at, parts_by}

-- the two images agree from one place up to another
pub record AgreeBetween (first end : ℕ) (image other : Image) : Type 0 where
  pub each : (o : ℕ) → first ≤ o → o < end → other o ≡ image o

-- the same number is in both
pub be-same : (first end : ℕ) (image other : Image) → AgreeBetween first end image other → (offset count : ℕ)
    → first ≤ offset → offset + count ≤ end → be other offset count ≡ be image offset count
be-same first end image other same offset count after within =
    be_of_same other image count offset offset (λ k below. same.each (offset + k) (omega arith) (omega arith))

-- functions that agree at that many numbers from one on have the same values there
map-same : (f g : ℕ → ℕ) (count first : ℕ) → ((i : ℕ) → i < first + count → f i ≡ g i)
    → map f (range_with_len first count) ≡ map g (range_with_len first count)
map-same f g zero first same = refl
map-same f g (suc count) first same =
    grind (arith, nat_tests, map-same f g count (first + 1) (λ i below. same i (omega arith)))

-- the same bytes are in both
pub bytes_at-same : (first end : ℕ) (image other : Image) → AgreeBetween first end image other → (offset count : ℕ)
    → first ≤ offset → offset + count ≤ end → bytes_at other offset count ≡ bytes_at image offset count
bytes_at-same first end image other same offset count after within =
    map-same (λ i. other (offset + i)) (λ i. image (offset + i)) count 0
    (λ i below. same.each (offset + i) (omega arith) (omega arith))

-- the first part is the same
v2_at-same : (end : ℕ) (image other : Image) → AgreeBetween 0 end image other → 72 ≤ end
    → v2_at other ≡ v2_at image
v2_at-same end image other same enough = grind (arith, nat_tests, be-same 0 end image other same)

-- the second part is the same
base_at-same : (end : ℕ) (image other : Image) → AgreeBetween 0 end image other → 104 ≤ end → (version : ℕ)
    → base_at other version ≡ base_at image version
base_at-same end image other same enough version = grind (arith, nat_tests, be-same 0 end image other same)

-- the backing file's name is the same
backing_name-same : (image other : Image) (v2 : V2Header) → AgreeBetween 0 (2 ^ v2.cluster_bits) image other
    → backing_name other v2 ≡ backing_name image v2
backing_name-same image other v2 same = grind (arith, nat_tests, bytes_at-same 0 (2 ^ v2.cluster_bits) image other same)

-- the extension at a place is the same
extension_at-same : (first len : ℕ) (image other : Image) → AgreeBetween first len image other → (place : ℕ)
    → first ≤ place → extension_at other len place ≡ extension_at image len place
extension_at-same first len image other same place after =
    grind (arith, nat_tests, extension_at-past, be-same first len image other same, bytes_at-same first len image other same)

-- that many extensions from a place on are the same
few_extensions-same : (first len : ℕ) (image other : Image) → AgreeBetween first len image other → (most place : ℕ)
    → first ≤ place → few_extensions most other len place ≡ few_extensions most image len place
few_extensions-same first len image other same zero place after = refl
few_extensions-same first len image other same (suc most) place after =
    grind (arith, nat_tests, extension_at-same, few_extensions-same first len image other same most)

-- all extensions from a place on are the same
pub extensions_at-same : (first len : ℕ) (image other : Image) → AgreeBetween first len image other → (place : ℕ)
    → first ≤ place → extensions_at other len place ≡ extensions_at image len place
unfolding extensions_at
extensions_at-same first len image other same place after = few_extensions-same first len image other same (suc len) place after

-- and those of a header
header_extensions-same : (image other : Image) (v2 : V2Header) (base : V3HeaderBase)
    → AgreeBetween 0 (2 ^ v2.cluster_bits) image other
    → header_extensions other v2 base ≡ header_extensions image v2 base
header_extensions-same image other v2 base same =
    let from = extensions_at-same 0 (2 ^ v2.cluster_bits) image other same base.header_length (omega arith) in
    elim (cases_Bool (v2.version == 3)) [
      | inl newer ↦ rw (newer, header_extensions) from
      | inr older ↦ rw (older, header_extensions) refl
    ]

-- the header of these two parts is the same
header_with_parts-same : (accepted : AcceptedFeatures) (image other : Image) (parts : V2Header × V3HeaderBase)
    → AgreeBetween 0 (2 ^ parts.0.cluster_bits) image other → parts_by parts.0 parts.1 ≡ Ok parts
    → header_with_parts accepted other parts ≡ header_with_parts accepted image parts
header_with_parts-same accepted image other parts same valid =
    grind (arith, nat_tests, backing_name-same, header_extensions-same, bytes_at-same)

-- images with the same first cluster have the same header, or the same fault
pub accepted_header-same : (accepted : AcceptedFeatures) (image other : Image)
    → ((o : ℕ) → o < max 512 (2 ^ be image 20 4) → other o ≡ image o)
    → accepted_header accepted other ≡ accepted_header accepted image
unfolding accepted_header
accepted_header-same accepted image other same = by_parts (fixed_parts image) refl
  where
    first : AgreeBetween 0 512 image other
    first = record { each = λ o after below. same o (omega arith) }

    fixed : fixed_parts other ≡ fixed_parts image
    fixed = λ i.
        let v2 = v2_at-same 512 image other first (omega arith) i in
        parts_by v2 (base_at-same 512 image other first (omega arith) v2.version i)

    by_parts : (answer : Result (V2Header × V3HeaderBase) Fault) → fixed_parts image ≡ answer
        → accepted_header accepted other ≡ accepted_header accepted image
    by_parts (Err fault) is = rw (fixed ∙ is, is) refl
    by_parts (Ok parts) is =
        let are = fixed_parts-are image parts is in
        let size = ap (λ (v2 : V2Header). 2 ^ v2.cluster_bits) are.0 in
        rw (fixed ∙ is, is)
        (header_with_parts-same accepted image other parts (record { each = λ o after below. same o (omega (arith, size)) }) are.2)

-- so an image whose first cluster is kept has the same header
pub first-cluster-kept : (header : HeaderRecord) (old new : Image) → header_of old ≡ Ok header
    → ((o : ℕ) → o < 2 ^ header.v2.cluster_bits → new o ≡ old o) → header_of new ≡ Ok header
first-cluster-kept header old new is kept =
    let was = header_of-is old header is in
    let size : 2 ^ be old 20 4 ≡ 2 ^ header.v2.cluster_bits =
    ap (λ (v2 : V2Header). 2 ^ v2.cluster_bits) (holds-v2_at old header.v2 was.v2) in
    let least : 2 ^ 9 ≤ 2 ^ header.v2.cluster_bits = pow-le-pow_right (lit< tt) was.cluster_bits.0 in
    accepted_header-same no_feature old new (λ o below. kept o (omega (arith, below, size, least))) ∙ is
