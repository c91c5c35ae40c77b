use Rattle.std.proofs.Common.{◌≡◌, zero-add, ℕ, zero, suc, ◌+◌, ◌-◌, ◌^◌, ◌/◌, ◌<◌, ◌≤◌, List, [], ◌∷◌, ◌++◌, length, All, ◌⊎◌, IfSome, Option, true, Result, Ok, refl, sym, ap, ◌∙◌, subst, inl, inr, append-nil, append_assoc, length-append, map, replicate, arith}
use Rattle.std.specs.Int.{bytes_high_first, next_multiple_of}
use Rattle.std.specs.Str.{IsUtf8}
use Rattle.std.proofs.Math.Nat.{mod-lt}
use Rattle.std.proofs.Math.Pow.{pow_mono}
use Rattle.std.specs.List.{flat_map}
use Rattle.std.specs.Prelude.{unwrap_or, OnOk}
use Rattle.std.proofs.lemmas.Bool.Decides.{nat_tests}
use Rattle.std.proofs.lemmas.List.{get_or-append_right, get_or-append-add, get_or_append_left, ext_get_or, length-replicate}
use Rattle.std.proofs.lemmas.List.Elements.{All-cons, All-head, All-nil, All-tail}
use Rattle.qcow2_base.specs.OnDiskStruct.{HoldsLayout, LayoutField, big, header_extension_header, fields_moved_by, number_in, v2_header, v3_header_base}
use Rattle.qcow2_base.specs.Storage.{Holds, Image, IsBytes, be, image_of}
use Rattle.qcow2_base.proofs.StorageLemmas.{be_determines, be_fits, be_of_same}
use Rattle.qcow2_base.specs.declared.on_disk_struct.header_extension_header.HeaderExtensionHeader.{HeaderExtensionHeader}
use Rattle.qcow2_base.specs.declared.on_disk_struct.v3_header_base.V3HeaderBase.{V3HeaderBase}
use Rattle.qcow2_base.proofs.OnDiskStructLemmas.{be_of_bytes}
use Rattle.qcow2_metadata.specs.Header.{Accepts, HeaderRecord, IsValidHeader, compression_type, is_compression, names_by}
use Rattle.qcow2_metadata.specs.Header.Chain.{SaysExtensions, link_at}
use Rattle.qcow2_metadata.specs.Header.Extensions.{Extension, data_of, name_in, normal_extension, type_number}
use Rattle.qcow2_metadata.specs.Header.Grammar.{AreSame, HasExtensions, IsAcceptedHeader, IsBackingName, IsBase}
use Rattle.qcow2_metadata.specs.Header.Text.{AreFitting, extension_text, extensions_text, fields_text, header_end, header_text, is_short, name_place, header_after_write, header_read_back, padded_bytes, parts_text, header_with_places, placed_base, placed_v2}
use Rattle.qcow2_metadata.specs.Range.{bytes_at}
use Rattle.qcow2_metadata.specs.declared.header.extensions.HeaderExtensionType.{HeaderExtensionType}
use Rattle.qcow2_metadata.specs.declared.header.extensions.HeaderExtensionType.TheVariants as kind
use Rattle.qcow2_metadata.specs.declared.header.features.AcceptedFeatures.{AcceptedFeatures}
use Rattle.qcow2_metadata.proofs.GrammarLemmas.{all_same-AreSame}
use Rattle.qcow2_metadata.proofs.ExtensionsLemmas.{ReadsBack}
use Rattle.qcow2_metadata.proofs.ChainLemmas.{IsEnd, IsFirst, says_more, says_none}
use Rattle.qcow2_metadata.proofs.RangeLemmas.{held-bytes_at}

-- a field's value fits its bytes
abbrev IsFitting : LayoutField → Type 0
IsFitting f = f.value < 256 ^ f.size

-- the fields are big-endian, and each begins where the one before it ends
abbrev pub AreJoined : ℕ → List LayoutField → Type 0
AreJoined place [] = Unit {0}
AreJoined place (f ∷ fields) = (f ≡ big place f.size f.value) × AreJoined (place + f.size) fields

-- a number's bytes are as many as are asked for
pub length-bytes_high_first : (n value : ℕ) → length (bytes_high_first n value) ≡ n
length-bytes_high_first zero value = refl
length-bytes_high_first (suc n) value = ap suc (length-bytes_high_first n value)

-- the bytes of a number are bytes
are_bytes : (n value : ℕ) → IsBytes (image_of (bytes_high_first n value))
are_bytes zero value offset = omega arith
are_bytes (suc zero) value zero = mod-lt value {m = 256} (omega arith)
are_bytes (suc (suc n)) value zero = mod-lt (value / 256 ^ suc n) {m = 256} (omega arith)
are_bytes (suc n) value (suc offset) = are_bytes n value offset

-- the bytes of a number that an image has, where it has the number
number-held : (image : Image) (place n value : ℕ) → IsBytes image → be image place n ≡ value
    → Holds image place (bytes_high_first n value) × (value < 256 ^ n)
number-held image place n value small is =
    let fits : value < 256 ^ n = subst (λ (v : ℕ). v < 256 ^ n) is (be_fits image place n small) in
    let bytes = bytes_high_first n value in
    let own = be_of_bytes n value bytes [] (sym (append-nil bytes)) fits in
    let tells = be_determines (image_of bytes) image n 0 place (are_bytes n value) small (own ∙ sym is) in
    let count = length-bytes_high_first n value in
    (record { each = λ i below. rw zero-add at (tells i (omega (arith, count))) }, fits)

-- the number of bytes that an image has
held-number : (image : Image) (place n value : ℕ) → Holds image place (bytes_high_first n value)
    → value < 256 ^ n → be image place n ≡ value
held-number image place n value held fits =
    let bytes = bytes_high_first n value in
    be_of_same image (image_of bytes) n place 0
    (λ k below. rw zero-add (sym (held.each k (omega (arith, length-bytes_high_first n value)))))
    ∙ be_of_bytes n value bytes [] (sym (append-nil bytes)) fits

-- what an image has, it has in two pieces
pub Holds-first : (image : Image) (place : ℕ) (xs ys : List ℕ) → Holds image place (xs ++ ys)
    → Holds image place xs
Holds-first image place xs ys held = grind (arith, nat_tests, length-append, get_or_append_left)

-- the second one comes after the first
pub Holds-second : (image : Image) (place : ℕ) (xs ys : List ℕ) → Holds image place (xs ++ ys)
    → Holds image (place + length xs) ys
Holds-second image place xs ys held = grind (arith, nat_tests, length-append, get_or-append-add)

-- two pieces of which one comes after the other are one
pub Holds-append : (image : Image) (place : ℕ) (xs ys : List ℕ) → Holds image place xs
    → Holds image (place + length xs) ys → Holds image place (xs ++ ys)
Holds-append image place xs ys first second =
    grind (arith, nat_tests, get_or_append_left, get_or-append_right, length-append)

-- the empty list is at any place
Holds-none : (image : Image) (place : ℕ) → Holds image place []
Holds-none image place = record { each = λ i below. absurd (omega arith) }

-- fields that an image has are their text
pub fields-text : (image : Image) (by place : ℕ) (fields : List LayoutField) → IsBytes image
    → AreJoined place fields → HoldsLayout image (fields_moved_by by fields)
    → Holds image (by + place) (fields_text fields) × AreFitting fields
fields-text image by place [] small joined held = (Holds-none image (by + place), All-nil IsFitting)
fields-text image by place (f ∷ fields) small joined held =
    let bytes = bytes_high_first f.size f.value in
    let IsThere = λ (g : LayoutField). number_in g.order image (by + g.place) f.size ≡ f.value in
    let number = subst IsThere joined.0 held.0 in
    let first = number-held image (by + place) f.size f.value small number in
    let rest = fields-text image by (place + f.size) fields small joined.1 held.1 in
    let count = length-bytes_high_first f.size f.value in
    let next : by + (place + f.size) ≡ by + place + length bytes = omega (arith, count) in
    let second = subst (λ (p : ℕ). Holds image p (fields_text fields)) next rest.0 in (
      Holds-append image (by + place) bytes (fields_text fields) first.0 second,
      All-cons IsFitting f fields first.1 rest.1,
    )

-- an image has the fields of a text that it has
pub text-fields : (image : Image) (by place : ℕ) (fields : List LayoutField) → AreJoined place fields
    → AreFitting fields → Holds image (by + place) (fields_text fields) → HoldsLayout image (fields_moved_by by fields)
text-fields image by place [] joined fits held = tt
text-fields image by place (f ∷ fields) joined fits held =
    let bytes = bytes_high_first f.size f.value in
    let first = Holds-first image (by + place) bytes (fields_text fields) held in
    let number = held-number image (by + place) f.size f.value first (All-head IsFitting f fields fits) in
    let IsThere = λ (g : LayoutField). number_in g.order image (by + g.place) f.size ≡ f.value in
    let count = length-bytes_high_first f.size f.value in
    let next : by + place + length bytes ≡ by + (place + f.size) = omega (arith, count) in
    let second = subst (λ (p : ℕ). Holds image p (fields_text fields)) next
    (Holds-second image (by + place) bytes (fields_text fields) held) in
    let others = All-tail IsFitting f fields fits in
    (subst IsThere (sym joined.0) number, text-fields image by (place + f.size) fields joined.1 others second)

-- bytes that hold fields which follow one another are their text
layout-text : (bytes : List ℕ) (fields : List LayoutField) → IsBytes (image_of bytes) → AreJoined 0 fields
    → length bytes ≡ length (fields_text fields) → HoldsLayout (image_of bytes) (fields_moved_by 0 fields)
    → (bytes ≡ fields_text fields) × AreFitting fields
layout-text bytes fields small joined count held =
    let text = fields-text (image_of bytes) 0 0 fields small joined held in (
      ext_get_or 0 bytes (fields_text fields) count
          (λ i below. sym (rw (zero-add i) at (text.0.each i (omega arith)))),
      text.1,
    )

-- such bytes after a text are the fields' text there
pub pushed-fields : {T E : Type 0} (answer : Result T E) (text after bytes : List ℕ)
    (fields : List LayoutField)
    → IsBytes (image_of bytes) → AreJoined 0 fields → length bytes ≡ length (fields_text fields)
    → HoldsLayout (image_of bytes) (fields_moved_by 0 fields) → OnOk answer (after ≡ text ++ bytes)
    → OnOk answer (after ≡ text ++ fields_text fields) × AreFitting fields
pushed-fields answer text after bytes fields small joined count held pushed =
    grind (arith, nat_tests, layout-text)

-- padding makes as many bytes as the next multiple of 8
pub length-padded : (bytes : List ℕ) → length (padded_bytes bytes) ≡ next_multiple_of (length bytes) 8
length-padded bytes = grind (arith, nat_tests, length-append, length-replicate)

-- how many bytes an extension takes
pub length-extension_text : (extension : Extension)
    → length (extension_text extension) ≡ 8 + next_multiple_of (length (data_of extension)) 8
length-extension_text extension = grind (arith, nat_tests, length-padded)

-- the number and the length of an extension fit their bytes
extension-fits : (header : HeaderExtensionHeader) → header.extension_type < 2 ^ 32 → header.length < 2 ^ 32
    → AreFitting (header_extension_header header)
extension-fits header number size = grind (arith, nat_tests)

-- what comes before an extension's data, in an image that has its text
held-header : (image : Image) (place : ℕ) (header : HeaderExtensionHeader) → header.extension_type < 2 ^ 32
    → header.length < 2 ^ 32 → Holds image place (fields_text (header_extension_header header))
    → (be image place 4 ≡ header.extension_type) × (be image (place + 4) 4 ≡ header.length)
held-header image place header number size held =
    let fields = header_extension_header header in
    let start : place ≡ place + 0 = omega arith in
    let moved_held = subst (λ (p : ℕ). Holds image p (fields_text fields)) start held in
    let fits = extension-fits header number size in
    let are = text-fields image place 0 fields (assumption) fits moved_held in
    (rw start are.0, are.1.0)

-- an extension that is in the image is the first of the chain from there on
first-extension : (image : Image) (len place : ℕ) (extension : Extension) → ReadsBack extension → len ≤ 2 ^ 21
    → Holds image place (extension_text extension) → place + length (extension_text extension) ≤ len
    → IsFirst image len place (normal_extension extension) (place + length (extension_text extension))
first-extension image len place extension back small held within =
    let bytes = data_of extension in
    let before : HeaderExtensionHeader = record { extension_type = type_number extension; length = length bytes } in
    let header = fields_text (header_extension_header before) in
    let count = length-extension_text extension in
    let first = Holds-first image place header (padded_bytes bytes) held in
    let are = held-header image place before back.0 (omega (arith, count)) first in
    let second = Holds-second image place header (padded_bytes bytes) held in
    let padding : List ℕ = replicate (next_multiple_of (length bytes) 8 - length bytes) 0 in
    let content =
    held-bytes_at image (place + 8) bytes (Holds-first image (place + 8) bytes padding second) in
    record {
      bounded = omega (arith, count, are.1);
      more = λ none. back.1 (sym are.0 ∙ none);
      says = rw (are.0, are.1, ← content) back.2;
      next_is = rw are.1 (omega (arith, count));
    }

-- the zeros after the extensions are End
held-end : (image : Image) (len place : ℕ) → Holds image place (replicate 8 0) → place + 8 ≤ len
    → IsEnd len (link_at image place)
held-end image len place held within =
    let end : HeaderExtensionHeader = record { extension_type = 0; length = 0 } in
    let are = held-header image place end (omega arith) (omega arith) held in
    record { bounded = omega (arith, are.1); end = are.0 }

-- extensions whose text is in the image are what the chain from there on says
pub text-says : (image : Image) (len place : ℕ) (extensions : List Extension) → len ≤ 2 ^ 21
    → All ReadsBack extensions → Holds image place (extensions_text extensions)
    → place + length (extensions_text extensions) ≤ len
    → SaysExtensions image len place (map normal_extension extensions)
text-says image len place [] small back held within =
    says_none image len place (held-end image len place held within)
text-says image len place (extension ∷ extensions) small back held within =
    let here = extension_text extension in
    let others = extensions_text extensions in
    let next = place + length here in
    let split : extensions_text (extension ∷ extensions) ≡ here ++ others =
    append_assoc here (flat_map extension_text extensions) (replicate 8 0) in
    let whole = subst (Holds image place) split held in
    let count = ap length split ∙ length-append here others in
    let here_held = Holds-first image place here others whole in
    let others_held = Holds-second image place here others whole in
    let here_back = All-head ReadsBack extension extensions back in
    let others_back = All-tail ReadsBack extension extensions back in
    let first = first-extension image len place extension here_back small here_held (omega (arith, count)) in
    let rest = text-says image len next extensions small others_back others_held (omega (arith, count)) in
    says_more image len place next (normal_extension extension) (map normal_extension extensions) first rest

-- what extensions read back as says the same names
pub same-names_by : (type : HeaderExtensionType) (extensions : List Extension)
    → names_by (name_in type) (map normal_extension extensions) ≡ names_by (name_in type) extensions
same-names_by type [] = refl
same-names_by type (extension ∷ extensions) = grind (arith, nat_tests, same-names_by type extensions)

-- the header has the places of its text, which fits the first cluster, and a name that isn't too long
pub record IsPlaced (header : HeaderRecord) : Type 0 where
  pub placed : header ≡ header_with_places header
  pub fits : length (header_text header) ≤ 2 ^ header.v2.cluster_bits
  pub short : is_short header.backing_filename ≡ true

-- what a header that is kept as it is has
kept-placed : (header : HeaderRecord) → header_after_write header ≡ Ok header → IsPlaced header
unfolding header_after_write
kept-placed header is = grind (arith, nat_tests)

-- the header's version is 2 or 3
abbrev pub IsKnown : HeaderRecord → Type 0
IsKnown header = (header.v2.version ≡ 2) ⊎ (header.v2.version ≡ 3)

-- the text of the two fixed parts
abbrev fixed_text : HeaderRecord → List ℕ
fixed_text header =
    fields_text (v2_header (placed_v2 header)) ++ fields_text (v3_header_base (placed_base header))

-- the text before the extensions in version 2
pub older-parts : (header : HeaderRecord) → header.v2.version ≡ 2
    → (parts_text header ≡ fields_text (v2_header (placed_v2 header))) × (header_end header ≡ 72)
older-parts header two = grind (arith, nat_tests)

-- and in version 3
pub newer-parts : (header : HeaderRecord) → header.v2.version ≡ 3
    → (parts_text header ≡ fixed_text header ++ padded_bytes header.unknown_header_fields)
    × (header_end header ≡ 104 + length (padded_bytes header.unknown_header_fields))
newer-parts header three = grind (arith, nat_tests)

-- the text before the extensions ends where they begin
pub length-parts_text : (header : HeaderRecord) → IsKnown header → length (parts_text header) ≡ header_end header
length-parts_text header (inl two) = grind (arith, nat_tests, older-parts)
length-parts_text header (inr three) = grind (arith, nat_tests, newer-parts, length-append)

-- how many bytes a header's text has
pub length-header_text : (header : HeaderRecord) → IsKnown header
    → length (header_text header) ≡ name_place header + length (unwrap_or header.backing_filename [])
unfolding header_text
length-header_text header known = grind (arith, nat_tests, length-append, length-parts_text)

-- the pieces of the text before the extensions in version 3
record HasNewerParts (image : Image) (header : HeaderRecord) : Type 0 where
  v2 : Holds image 0 (fields_text (v2_header (placed_v2 header)))
  base : Holds image 72 (fields_text (v3_header_base (placed_base header)))
  unknown : Holds image 104 (padded_bytes header.unknown_header_fields)

-- they are in the image
held-newer : (image : Image) (header : HeaderRecord) → header.v2.version ≡ 3
    → Holds image 0 (parts_text header) → HasNewerParts image header
held-newer image header three held =
    let v2_text = fields_text (v2_header (placed_v2 header)) in
    let base_text = fields_text (v3_header_base (placed_base header)) in
    let unknown = padded_bytes header.unknown_header_fields in
    let whole = subst (Holds image 0) ((newer-parts header three).0) held in
    let fixed = Holds-first image 0 (v2_text ++ base_text) unknown whole in
    record {
      v2 = Holds-first image 0 v2_text base_text fixed;
      base = Holds-second image 0 v2_text base_text fixed;
      unknown = Holds-second image 0 (v2_text ++ base_text) unknown whole;
    }

-- the first part is in the image
held-v2 : (image : Image) (header : HeaderRecord) → IsKnown header → Holds image 0 (parts_text header)
    → Holds image 0 (fields_text (v2_header (placed_v2 header)))
held-v2 image header (inl two) held = subst (Holds image 0) ((older-parts header two).0) held
held-v2 image header (inr three) held = (held-newer image header three held).v2

-- the pieces of a header's text, and where they are
record HasPieces (image : Image) (header : HeaderRecord) : Type 0 where
  v2 : Holds image 0 (fields_text (v2_header (placed_v2 header)))
  newer : header.v2.version ≡ 3 → HasNewerParts image header
  extensions : Holds image (header_end header) (extensions_text header.extensions)
  name : Holds image (name_place header) (unwrap_or header.backing_filename [])
  count : length (header_text header) ≡ name_place header + length (unwrap_or header.backing_filename [])

-- they are in the image
held-pieces : (image : Image) (header : HeaderRecord) → IsKnown header → Holds image 0 (header_text header)
    → HasPieces image header
unfolding header_text
held-pieces image header known held =
    let parts = parts_text header in
    let extensions = extensions_text header.extensions in
    let name = unwrap_or header.backing_filename [] in
    let front = Holds-first image 0 (parts ++ extensions) name held in
    let first = Holds-first image 0 parts extensions front in
    let second = Holds-second image 0 parts extensions front in
    let third = Holds-second image 0 (parts ++ extensions) name held in
    let end : 0 + length parts ≡ header_end header = omega (arith, length-parts_text header known) in
    let place : length (parts ++ extensions) ≡ name_place header =
    length-append parts extensions ∙ ap (λ n. n + length extensions) (length-parts_text header known) in
    let start : 0 + length (parts ++ extensions) ≡ name_place header = omega (arith, place) in
    record {
      v2 = held-v2 image header known first;
      newer = λ three. held-newer image header three first;
      extensions = subst (λ (p : ℕ). Holds image p extensions) end second;
      name = subst (λ (p : ℕ). Holds image p name) start third;
      count = length-header_text header known;
    }

-- the length of a header that has its places
placed-length : (header : HeaderRecord) → IsValidHeader header → IsPlaced header → IsKnown header
    → header.base.header_length ≡ 104 + length (padded_bytes header.unknown_header_fields)
placed-length header valid is known = grind (arith, nat_tests, newer-parts)

-- it fits the first cluster
placed-fits : (image : Image) (header : HeaderRecord) → IsValidHeader header → IsPlaced header
    → HasPieces image header → IsKnown header → header.base.header_length ≤ 2 ^ header.v2.cluster_bits
placed-fits image header valid is pieces (inl two) =
    let none = valid.older two in
    let short : header.base.header_length ≡ 104 = ap (λ (b : V3HeaderBase). b.header_length) none.0 in
    omega (arith, short, pow_mono (valid.cluster_bits.0))
placed-fits image header valid is pieces (inr three) =
    let count = placed-length header valid is (inr three) in
    omega (arith, count, (newer-parts header three).1, pieces.count, is.fits)

-- the unknown fields are in the image
held-unknown : (image : Image) (header : HeaderRecord) → IsValidHeader header → HasPieces image header
    → IsKnown header → padded_bytes header.unknown_header_fields
    ≡ bytes_at image 104 (length (padded_bytes header.unknown_header_fields))
held-unknown image header valid pieces known = grind (arith, nat_tests, held-bytes_at)

-- the second part is in the image
held-base : (image : Image) (header : HeaderRecord) → IsValidHeader header → IsPlaced header
    → HasPieces image header → AreFitting (v3_header_base header.base)
    → IsBase image header.v2.version header.base
held-base image header valid is pieces fits = record {
  version_3 = λ three.
      let Stands = λ (h : HeaderRecord). Holds image 72 (fields_text (v3_header_base h.base)) in
      let held = subst Stands (sym is.placed) ((pieces.newer three).base) in
      text-fields image 72 0 (v3_header_base header.base) (assumption) fits held;
  version_2 = λ two. (valid.older two).0;
}

-- the backing file's name is in the image
held-name : (image : Image) (header : HeaderRecord) (name : Option (List ℕ)) → header.backing_filename ≡ name
    → IsPlaced header → HasPieces image header → IfSome name IsUtf8
    → IsBackingName image header.v2 name
held-name image header name none is pieces text = grind (arith, nat_tests, held-bytes_at)

-- the extensions are in the image
held-extensions : (image : Image) (header : HeaderRecord) → IsValidHeader header → IsPlaced header
    → HasPieces image header → All ReadsBack header.extensions
    → HasExtensions image header.v2 header.base (map normal_extension header.extensions)
held-extensions image header valid is pieces back =
    grind (arith, nat_tests, newer-parts, placed-length, pow_mono, text-says)

-- padding leaves the byte of the compression type
padded-first : (bytes : List ℕ) → compression_type (padded_bytes bytes) ≡ compression_type bytes
padded-first [] = refl
padded-first (first ∷ bytes) = refl

-- so who accepts a header accepts it as it reads back
accepts-padded : (accepted : AcceptedFeatures) (base : V3HeaderBase) (fields : List ℕ) → Accepts accepted base fields
    → Accepts accepted base (padded_bytes fields)
accepts-padded accepted base fields accepts = record {
  features = accepts.features;
  compression = λ taken. rw (padded-first fields) (accepts.compression taken);
}

-- a header whose text is at the start of an image is the image's, as it reads back
pub text-header : (accepted : AcceptedFeatures) (image : Image) (header : HeaderRecord) → IsValidHeader header
    → All ReadsBack header.extensions → AreFitting (v2_header header.v2)
    → AreFitting (v3_header_base header.base) → IfSome header.backing_filename IsUtf8
    → header_after_write header ≡ Ok header → Holds image 0 (header_text header)
    → Accepts accepted header.base header.unknown_header_fields → IsAcceptedHeader accepted image (header_read_back header)
text-header accepted image header valid back fits_v2 fits_base text same held accepts =
    let is = kept-placed header same in
    let known = valid.version in
    let pieces = held-pieces image header known held in
    let count = placed-length header valid is known in
    let unknown = padded_bytes header.unknown_header_fields in
    let between : header.base.header_length - 104 ≡ length unknown = omega (arith, count) in
    let Stands = λ (h : HeaderRecord). Holds image 0 (fields_text (v2_header h.v2)) in
    let v2_held = subst Stands (sym is.placed) pieces.v2 in
    let formats = same-names_by kind.BackingFileFormat header.extensions in
    let data_files = same-names_by kind.ExternalDataFileName header.extensions in
    record {
      v2 = text-fields image 0 0 (v2_header header.v2) (assumption) fits_v2 v2_held;
      base = held-base image header valid is pieces fits_base;
      magic = valid.magic;
      version = known;
      cluster_bits = valid.cluster_bits;
      header_not_short = omega (arith, count);
      header_not_big = placed-fits image header valid is pieces known;
      l1_table_aligned = valid.l1_table_aligned;
      reftable_aligned = valid.reftable_aligned;
      refcount_width = valid.refcount_order;
      unknown_header_fields = rw between (held-unknown image header valid pieces known);
      backing_filename =
          held-name image header header.backing_filename refl is pieces text;
      extensions = held-extensions image header valid is pieces back;
      one_format = subst AreSame (sym formats) (all_same-AreSame _ valid.one_format);
      one_data_file = subst AreSame (sym data_files) (all_same-AreSame _ valid.one_data_file);
      accepts = accepts-padded accepted header.base header.unknown_header_fields accepts;
    }
