use Rattle.std.proofs.Common.{◌≡◌, ◌⊎◌, ℕ, zero, suc, ◌-◌, Bool, true, false, not, ◌||◌, ◌==◌, nat_eq, List, [], ◌∷◌, Option, None, Result, Ok, refl, sym, ap, ◌∙◌, inl, inr, subst, arith, rules}
use Rattle.std.specs.Cmp.Lexicographic.{pointwise}
use Rattle.std.specs.List.{IsAmong, list_all}
use Rattle.std.specs.Str.{IsUtf8}
use Rattle.std.proofs.lemmas.Bool.Decides.{nat_tests}
use Rattle.std.proofs.lemmas.List.Sums.{AllPass-from_list_all}
use Rattle.std.proofs.lemmas.Str.{IsUtf8-from_is_utf8, is_utf8-from_IsUtf8}
use Rattle.qcow2_base.specs.OnDiskStruct.{HoldsLayout, fields_moved_by, v2_header, v3_header_base}
use Rattle.qcow2_base.specs.Storage.{Image}
use Rattle.qcow2_base.specs.declared.fault.Fault.{Fault}
use Rattle.qcow2_base.specs.declared.on_disk_struct.v2_header.V2Header.{V2Header}
use Rattle.qcow2_base.specs.declared.on_disk_struct.v3_header_base.V3HeaderBase.{V3HeaderBase}
use Rattle.qcow2_metadata.specs.Results.{and_then, after_conditions}
use Rattle.qcow2_metadata.specs.Header.{Accepts, HeaderRecord, all_same, compression_type, each_feature, has_feature, is_compression, names_by, no_feature, other_features}
use Rattle.qcow2_metadata.specs.Header.Extensions.{Extension, name_in, text}
use Rattle.qcow2_metadata.specs.Header.Grammar.{AreSame, HasExtensions, IsAcceptedHeader, IsBackingName, IsBase, IsHeader, accepted_header, backing_name, base_at, field_conditions, fixed_parts, header_extensions, header_of, header_with_parts, last_conditions, v2_at, version_conditions}
use Rattle.qcow2_metadata.specs.Range.{bytes_at}
use Rattle.qcow2_metadata.specs.declared.header.extensions.HeaderExtensionType.TheVariants as kind
use Rattle.qcow2_metadata.specs.declared.header.features.AcceptedFeatures.{AcceptedFeatures}
use Rattle.qcow2_metadata.specs.declared.header.features.IncompatibleFeatures.TheVariants.{CompressionType}
use Rattle.qcow2_metadata.proofs.ChainLemmas.{extensions_at-says, says-extensions_at}

-- the two results of which one came
pub and_then-ok : {A B : Type 0} (answer : Result A Fault) (next : A → Result B Fault) (y : B)
    → and_then answer next ≡ Ok y → (x : A) × (answer ≡ Ok x) × (next x ≡ Ok y)
and_then-ok answer next y is = grind (arith, nat_tests)

-- what is among the others is among all
among_more : (x : List ℕ) (xs : List (List ℕ)) (a : List ℕ) → IsAmong xs a → IsAmong (x ∷ xs) a
among_more x xs a (i, (below, is)) = (suc i, (omega arith, is))

-- any of the names is the first one, where all others are
is_first : (first : List ℕ) (names : List (List ℕ)) → list_all (pointwise nat_eq first) names ≡ true
    → (a : List ℕ) → IsAmong (first ∷ names) a → first ≡ a
is_first first names is a (zero, (below, here)) = sym here
is_first first names is a (suc i, (below, here)) = search (rules, AllPass-from_list_all)

-- where any is the first one, all others are
first_are : (first : List ℕ) (names : List (List ℕ)) → ((a : List ℕ) → IsAmong names a → first ≡ a)
    → list_all (pointwise nat_eq first) names ≡ true
first_are first [] same = refl
first_are first (name ∷ names) same =
    search (rules, among_more, first_are first names (λ a among. same a (among_more name names a among)))

-- where all names are the first one, any two are the same
pub all_same-AreSame : (names : List (List ℕ)) → all_same names ≡ true → AreSame names
all_same-AreSame [] is a b (i, (below, here)) there = absurd (omega arith)
all_same-AreSame (first ∷ names) is a b here there =
    sym (is_first first names is a here) ∙ is_first first names is b there

-- where any two are the same, all names are the first one
AreSame-all_same : (names : List (List ℕ)) → AreSame names → all_same names ≡ true
AreSame-all_same [] same = refl
AreSame-all_same (first ∷ names) same =
    first_are first names
    (λ a among. same first a (zero, (omega arith, refl)) (among_more first names a among))

-- the first part that an image has is the one that is read
pub holds-v2_at : (image : Image) (v2 : V2Header) → HoldsLayout image (v2_header v2) → v2_at image ≡ v2
holds-v2_at image v2 (is_magic, (is_version, (is_place, (is_length, (is_bits, (is_size, more)))))) =
    grind (arith, nat_tests)

-- the second part that an image has in version 3 is the one that is read
pub holds-base_at : (image : Image) (base : V3HeaderBase) → HoldsLayout image (fields_moved_by 72 (v3_header_base base))
    → base_at image 3 ≡ base
holds-base_at image base (is_incompatible, (is_compatible, (is_autoclear, (is_order, (is_length, t))))) =
    grind (arith, nat_tests)

-- the second part that is read is the image's
base_at-IsBase : (image : Image) (version : ℕ) → IsBase image version (base_at image version)
base_at-IsBase image version = grind (arith, nat_tests)

-- an image's second part is the one that is read
pub IsBase-base_at : (image : Image) (version : ℕ) (base : V3HeaderBase) → (version ≡ 2) ⊎ (version ≡ 3)
    → IsBase image version base → base_at image version ≡ base
IsBase-base_at image version base known is = grind (arith, nat_tests, holds-base_at)

-- the two fixed parts, or the fault of the first condition that they fail
abbrev pub parts_by : V2Header → V3HeaderBase → Result (V2Header × V3HeaderBase) Fault
parts_by v2 base =
    after_conditions (version_conditions v2) (λ _. after_conditions (field_conditions v2 base) (λ _. Ok (v2, base)))

-- the fixed parts of an image, by what is there
pub fixed_parts-by : (image : Image) (v2 : V2Header) (base : V3HeaderBase) → v2_at image ≡ v2
    → base_at image v2.version ≡ base → fixed_parts image ≡ parts_by v2 base
fixed_parts-by image v2 base is_v2 is_base = grind (arith, nat_tests)

-- parts that pass all conditions are returned
parts_by-same : (v2 : V2Header) (base : V3HeaderBase) (parts : V2Header × V3HeaderBase)
    → parts_by v2 base ≡ Ok parts → (v2, base) ≡ parts
parts_by-same v2 base parts is = grind (arith, nat_tests)

-- fixed parts that are read are there, and are valid
pub fixed_parts-are : (image : Image) (parts : V2Header × V3HeaderBase) → fixed_parts image ≡ Ok parts
    → (v2_at image ≡ parts.0) × (base_at image parts.0.version ≡ parts.1)
    × (parts_by parts.0 parts.1 ≡ Ok parts)
fixed_parts-are image parts is =
    let same = parts_by-same (v2_at image) (base_at image (v2_at image).version) parts is in
    let Are = λ (p : V2Header × V3HeaderBase).
    (v2_at image ≡ p.0) × (base_at image p.0.version ≡ p.1) × (parts_by p.0 p.1 ≡ Ok p) in
    subst Are same (refl, refl, is ∙ ap Ok (sym same))

-- bytes that are taken as text are text
text-ok : (fault : Fault) (bytes name : List ℕ) → text fault bytes ≡ Ok name → (name ≡ bytes) × IsUtf8 name
text-ok fault bytes name found = grind (arith, nat_tests, IsUtf8-from_is_utf8)

-- text is taken
pub text_of_utf8 : (fault : Fault) (bytes : List ℕ) → IsUtf8 bytes → text fault bytes ≡ Ok bytes
text_of_utf8 fault bytes is = rw (is_utf8-from_IsUtf8 bytes is) refl

-- there is no backing file's name exactly where none is read
no_name-is : (image : Image) (v2 : V2Header) → backing_name image v2 ≡ Ok None → v2.backing_file_offset ≡ 0
no_name-is image v2 is = grind (arith, nat_tests)

-- the backing file's name that is read
backing_name-is : (image : Image) (v2 : V2Header) (name : Option (List ℕ))
    → backing_name image v2 ≡ Ok name → IsBackingName image v2 name
backing_name-is image v2 name is = grind (arith, nat_tests, no_name-is, text-ok)

-- the backing file's name is read
is-backing_name : (image : Image) (v2 : V2Header) (name : Option (List ℕ)) → IsBackingName image v2 name
    → backing_name image v2 ≡ Ok name
is-backing_name image v2 name is = grind (arith, nat_tests, is_utf8-from_IsUtf8)

-- the extensions that are read
header_extensions-has : (image : Image) (v2 : V2Header) (base : V3HeaderBase) (extensions : List Extension)
    → header_extensions image v2 base ≡ Ok extensions → HasExtensions image v2 base extensions
header_extensions-has image v2 base extensions is = record {
  version_3 = λ three. extensions_at-says image _ base.header_length extensions (rw three at is);
  version_2 = λ two. let none : Ok [] ≡ Ok extensions = rw two at is in cc;
}

-- the extensions are read
has-header_extensions : (image : Image) (v2 : V2Header) (base : V3HeaderBase) (extensions : List Extension)
    → (v2.version ≡ 2) ⊎ (v2.version ≡ 3) → HasExtensions image v2 base extensions
    → header_extensions image v2 base ≡ Ok extensions
has-header_extensions image v2 base extensions (inl two) has = rw (two, has.version_2 two) refl
has-header_extensions image v2 base extensions (inr three) has =
    rw three (says-extensions_at image _ base.header_length extensions (has.version_3 three))

-- the header of these parts, this name and these extensions
abbrev pub header_from : Image → V2Header × V3HeaderBase → Option (List ℕ) → List Extension → HeaderRecord
header_from image parts name extensions = record {
  v2 = parts.0;
  base = parts.1;
  unknown_header_fields = bytes_at image 104 (parts.1.header_length - 104);
  backing_filename = name;
  extensions = extensions;
}

-- the header after its extensions were read, and after the backing file's name
abbrev pub after_extensions : AcceptedFeatures → Image → V2Header × V3HeaderBase → Option (List ℕ) → List Extension
    → Result HeaderRecord Fault
after_extensions accepted image parts name extensions =
    after_conditions (last_conditions accepted parts.1 (bytes_at image 104 (parts.1.header_length - 104)) extensions)
    (λ _. Ok (header_from image parts name extensions))

abbrev pub after_name : AcceptedFeatures → Image → V2Header × V3HeaderBase → Option (List ℕ) → Result HeaderRecord Fault
after_name accepted image parts name =
    and_then (header_extensions image parts.0 parts.1) (after_extensions accepted image parts name)

-- the conditions on all extensions hold where something came of them
record Tested (accepted : AcceptedFeatures) (base : V3HeaderBase) (fields : List ℕ) (extensions : List Extension) : Type 0 where
  pub one_format : all_same (names_by (name_in kind.BackingFileFormat) extensions) ≡ true
  pub one_data_file : all_same (names_by (name_in kind.ExternalDataFileName) extensions) ≡ true
  pub features : other_features accepted base ≡ 0
  pub compression : (not accepted.compression_type || is_compression base fields) ≡ true

pub record HoldLast (accepted : AcceptedFeatures) (base : V3HeaderBase) (fields : List ℕ) (extensions : List Extension) : Type 0 where
  pub one_format : all_same (names_by (name_in kind.BackingFileFormat) extensions) ≡ true
  pub one_data_file : all_same (names_by (name_in kind.ExternalDataFileName) extensions) ≡ true
  pub accepts : Accepts accepted base fields

-- what the condition on a compression type says of who accepts one
accepts-compression : (is_accepted there : Bool) → (not is_accepted || there) ≡ true → is_accepted ≡ true → there ≡ true
accepts-compression is_accepted there is taken = grind (arith, nat_tests)

compression-accepted : (is_accepted there : Bool) → (is_accepted ≡ true → there ≡ true) → (not is_accepted || there) ≡ true
compression-accepted true there is = is refl
compression-accepted false there is = refl

-- four conditions hold where something came of them
four-hold : {T : Type 0} (a b c d : Bool) (p q r s : Fault) (x y : T)
    → after_conditions ((a, p) ∷ (b, q) ∷ (c, r) ∷ (d, s) ∷ []) (λ _. Ok x) ≡ Ok y
    → (a ≡ true) × (b ≡ true) × (c ≡ true) × (d ≡ true) × (x ≡ y)
four-hold a b c d p q r s x y is = grind (arith, nat_tests)

is-zero : (n : ℕ) → (n == 0) ≡ true → n ≡ 0
is-zero n is = grind (arith, nat_tests)

tested-last : {T : Type 0} (accepted : AcceptedFeatures) (base : V3HeaderBase) (fields : List ℕ) (extensions : List Extension) (x y : T)
    → after_conditions (last_conditions accepted base fields extensions) (λ _. Ok x) ≡ Ok y
    → Tested accepted base fields extensions × (x ≡ y)
tested-last accepted base fields extensions x y is =
    let hold = four-hold
    (all_same (names_by (name_in kind.BackingFileFormat) extensions))
    (all_same (names_by (name_in kind.ExternalDataFileName) extensions))
    (other_features accepted base == 0) (not accepted.compression_type || is_compression base fields) _ _ _ _ x y is in (
      record {
        one_format = hold.0;
        one_data_file = hold.1;
        features = is-zero (other_features accepted base) hold.2;
        compression = hold.3;
      },
      hold.4,
    )

last-tested : {T : Type 0} (accepted : AcceptedFeatures) (base : V3HeaderBase) (fields : List ℕ) (extensions : List Extension) (x : T)
    → Tested accepted base fields extensions → after_conditions (last_conditions accepted base fields extensions) (λ _. Ok x) ≡ Ok x
last-tested accepted base fields extensions x hold = grind (arith, nat_tests)

pub last-hold : {T : Type 0} (accepted : AcceptedFeatures) (base : V3HeaderBase) (fields : List ℕ) (extensions : List Extension) (x y : T)
    → after_conditions (last_conditions accepted base fields extensions) (λ _. Ok x) ≡ Ok y
    → HoldLast accepted base fields extensions × (x ≡ y)
last-hold accepted base fields extensions x y is =
    let found = tested-last accepted base fields extensions x y is in
    let hold = found.0 in (
      record {
        one_format = hold.one_format;
        one_data_file = hold.one_data_file;
        accepts = record {
          features = hold.features;
          compression = accepts-compression accepted.compression_type (is_compression base fields) hold.compression;
        };
      },
      found.1,
    )

hold-last : {T : Type 0} (accepted : AcceptedFeatures) (base : V3HeaderBase) (fields : List ℕ) (extensions : List Extension) (x : T)
    → HoldLast accepted base fields extensions → after_conditions (last_conditions accepted base fields extensions) (λ _. Ok x) ≡ Ok x
hold-last accepted base fields extensions x hold = last-tested accepted base fields extensions x (record {
  one_format = hold.one_format;
  one_data_file = hold.one_data_file;
  features = hold.accepts.features;
  compression = compression-accepted accepted.compression_type (is_compression base fields) hold.accepts.compression;
})

-- no features are left over by who accepts each, where none are by who accepts fewer
pub each-accepts : (accepted : AcceptedFeatures) (base : V3HeaderBase) → other_features accepted base ≡ 0
    → other_features each_feature base ≡ 0
each-accepts accepted base is = grind (arith, nat_tests)

-- the header that is read is the image's
pub accepted_header-is : (accepted : AcceptedFeatures) (image : Image) (header : HeaderRecord)
    → accepted_header accepted image ≡ Ok header → IsAcceptedHeader accepted image header
unfolding accepted_header
accepted_header-is accepted image header is =
    let fixed = and_then-ok (fixed_parts image) (header_with_parts accepted image) header is in
    let parts = fixed.0 in
    let named = and_then-ok (backing_name image parts.0) (after_name accepted image parts) header fixed.2 in
    let found = and_then-ok (header_extensions image parts.0 parts.1)
    (after_extensions accepted image parts named.0) header named.2 in
    let unknown_header_fields = bytes_at image 104 (parts.1.header_length - 104) in
    let last = last-hold accepted parts.1 unknown_header_fields found.0 (header_from image parts named.0 found.0) header found.2 in
    let are = fixed_parts-are image parts fixed.1 in
    let valid = are.2 in
    subst (IsAcceptedHeader accepted image) last.1 (record {
      v2 = subst (λ (h : V2Header). HoldsLayout image (v2_header h)) are.0 assumption;
      base = subst (IsBase image parts.0.version) are.1 (base_at-IsBase image parts.0.version);
      magic = grind (arith, nat_tests, valid);
      version = grind (arith, nat_tests, valid);
      cluster_bits = (grind (arith, nat_tests, valid), grind (arith, nat_tests, valid));
      header_not_short = grind (arith, nat_tests, valid);
      header_not_big = grind (arith, nat_tests, valid);
      l1_table_aligned = grind (arith, nat_tests, valid);
      reftable_aligned = grind (arith, nat_tests, valid);
      refcount_width = grind (arith, nat_tests, valid);
      unknown_header_fields = refl;
      backing_filename = backing_name-is image parts.0 named.0 named.1;
      extensions = header_extensions-has image parts.0 parts.1 found.0 found.1;
      one_format = all_same-AreSame _ last.0.one_format;
      one_data_file = all_same-AreSame _ last.0.one_data_file;
      accepts = last.0.accepts;
    })

pub header_of-is : (image : Image) (header : HeaderRecord) → header_of image ≡ Ok header → IsHeader image header
header_of-is = accepted_header-is no_feature

-- the fixed parts of an image's header are read
fixed-is : (accepted : AcceptedFeatures) (image : Image) (header : HeaderRecord) → IsAcceptedHeader accepted image header
    → fixed_parts image ≡ Ok (header.v2, header.base)
fixed-is accepted image header is =
    grind (arith, nat_tests, IsBase-base_at, fixed_parts-by, holds-v2_at)

-- the image's header is read
pub is-accepted_header : (accepted : AcceptedFeatures) (image : Image) (header : HeaderRecord)
    → IsAcceptedHeader accepted image header → accepted_header accepted image ≡ Ok header
unfolding accepted_header
is-accepted_header accepted image header is =
    let fixed = fixed-is accepted image header is in
    let named = is-backing_name image header.v2 header.backing_filename is.backing_filename in
    let extended = has-header_extensions image header.v2 header.base header.extensions is.version is.extensions in
    let hold : HoldLast accepted header.base header.unknown_header_fields header.extensions = record {
      one_format = AreSame-all_same _ is.one_format;
      one_data_file = AreSame-all_same _ is.one_data_file;
      accepts = is.accepts;
    } in
    let last = hold-last accepted header.base header.unknown_header_fields header.extensions header hold in
    rw (fixed, named, extended, sym is.unknown_header_fields) last

-- who accepts no feature reads a header that has none
no-more : (accepted : AcceptedFeatures) (base : V3HeaderBase) → other_features no_feature base ≡ 0 → other_features accepted base ≡ 0
no-more accepted base is = grind (arith, nat_tests)

without-compression : (base : V3HeaderBase) → other_features no_feature base ≡ 0 → has_feature CompressionType base ≡ false
without-compression base is = grind (arith, nat_tests)

-- so who accepts some does, where it has the default compression
pub plain-accepted : (accepted : AcceptedFeatures) (image : Image) (header : HeaderRecord) → header_of image ≡ Ok header
    → compression_type header.unknown_header_fields ≡ 0 → accepted_header accepted image ≡ Ok header
plain-accepted accepted image header is plain =
    let was = header_of-is image header is in
    let none = without-compression header.base was.accepts.features in
    is-accepted_header accepted image header (record {
      v2 = was.v2;
      base = was.base;
      magic = was.magic;
      version = was.version;
      cluster_bits = was.cluster_bits;
      header_not_short = was.header_not_short;
      header_not_big = was.header_not_big;
      l1_table_aligned = was.l1_table_aligned;
      reftable_aligned = was.reftable_aligned;
      refcount_width = was.refcount_width;
      unknown_header_fields = was.unknown_header_fields;
      backing_filename = was.backing_filename;
      extensions = was.extensions;
      one_format = was.one_format;
      one_data_file = was.one_data_file;
      accepts = record {
        features = no-more accepted header.base was.accepts.features;
        compression = λ _. rw (plain, none) refl;
      };
    })

pub is-header_of : (image : Image) (header : HeaderRecord) → IsHeader image header → header_of image ≡ Ok header
is-header_of = is-accepted_header no_feature
