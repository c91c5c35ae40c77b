use Rattle.std.proofs.Common.{◌≡◌, ◌≢◌, ◌⊎◌, ◌∙◌, ℕ, ◌^◌, ◌<◌, true, ◌==◌, ◌&&◌, List, map, Ok, Err, refl, sym, ap, arith, String, string_bytes, [], ◌∷◌, ◌++◌, subst, rules, inl, inr}
use Rattle.std.proofs.Math.Path.{fun_ext}
use Rattle.std.specs.Bool.{Decides}
use Rattle.std.specs.Cmp.Derive.Mapped.{pointwise-map}
use Rattle.std.specs.Cmp.Lexicographic.{pointwise}
use Rattle.std.specs.Global.{Global}
use Rattle.std.specs.Str.{IsUtf8, bytes_eq, chars, is_utf8}
use Rattle.std.proofs.lemmas.Bool.Decides.{Decides-and, Decides-eqb, Decides-like, nat_tests}
use Rattle.std.proofs.lemmas.Slice.Eq.{bytes_eq-Decides, slice_eq-Decides}
use Rattle.std.proofs.lemmas.Str.{IsUtf8-from_is_utf8, IsUtf8-had, IsUtf8-string_bytes, is_utf8-from_IsUtf8}
use Rattle.qcow2_base.specs.declared.fault.Fault.{Fault}
use Rattle.qcow2_metadata.proofs.GrammarLemmas.{text_of_utf8}
use Rattle.qcow2_metadata.specs.Header.Extensions.{Extension, FeatureKey, TextOf, Unknown, data_of, extension_number, extension_of, normal_extension, extension_from_data, same_extension, same_feature_name, text, type_number, FeatureNameTable, FeatureNames, IsStorable, key_cmp, names_of}
use Rattle.qcow2_metadata.specs.Header.Features.{feature_type_number}
use Rattle.qcow2_metadata.specs.declared.header.extensions.HeaderExtension.{HeaderExtension}
use Rattle.qcow2_metadata.specs.declared.header.extensions.HeaderExtension.TheVariants as held
use Rattle.qcow2_metadata.specs.declared.header.extensions.HeaderExtensionType.{HeaderExtensionType}
use Rattle.qcow2_metadata.specs.declared.header.extensions.HeaderExtensionType.TheVariants as kind
use Rattle.qcow2_metadata.specs.declared.header.features.FeatureType.{FeatureType}
use Rattle.qcow2_metadata.specs.contracts.header.extensions.HeaderExtensionPartialEq.TheImpl as extension_eq
use Rattle.qcow2_metadata.specs.contracts.header.features.FeatureTypePartialEq.TheImpl as feature_type_eq
use lib.Utf8.{encode}
use Rattle.std.specs.Prelude.{All, IfSome, None, Option, Some, option_to_list, option_map}
use Rattle.std.proofs.lemmas.List.Sums.{AllPass-from_list_all}
use Rattle.std.proofs.lemmas.Map.Made.{keys_of-map_values}
use Rattle.std.proofs.lemmas.List.Elements.{All-append, All-cons, All-nil}
use Rattle.std.specs.BTreeMap.{BTreeMap, IsOrdered}
use Rattle.std.specs.List.{list_all}
use Rattle.std.specs.List.Sorted.{IsStrictlySortedBy}
use Rattle.std.specs.Map.{keys_of}
use Rattle.qcow2_metadata.specs.Header.{known_names}

-- bytes that are no text
pub text_invalid : (fault : Fault) (bytes : List ℕ) → ¬ (IsUtf8 bytes) → text fault bytes ≡ Err fault
text_invalid fault bytes invalid = grind (arith, nat_tests, IsUtf8-from_is_utf8)

-- bytes that are text or aren't
pub ruleset texts = (text_invalid, text_of_utf8, IsUtf8-had)

-- bytes of a type that isn't known are kept as they are
pub parsed-unknown : (number : ℕ) (bytes : List ℕ) → ((kind : HeaderExtensionType) → extension_number kind ≢ number)
    → extension_from_data number bytes ≡ Ok (Unknown number bytes)
parsed-unknown number bytes unknown =
    let format = unknown kind.BackingFileFormat in
    let names = unknown kind.FeatureNameTable in
    let file = unknown kind.ExternalDataFileName in
    grind (arith, nat_tests, format, names, file)

-- the number of its type fits its field and isn't End's, and its data reads as what it reads back as
abbrev pub ReadsBack : Extension → Type 0
ReadsBack extension =
    (type_number extension < 2 ^ 32) × (type_number extension ≢ 0)
    × (extension_from_data (type_number extension) (data_of extension) ≡ Ok (normal_extension extension))

-- a string in memory is text
pub string_is_text : (name : String Global) → IsUtf8 (string_bytes name)
string_is_text = IsUtf8-string_bytes

-- text of a type that is text reads back
pub text-reads_back : (type : HeaderExtensionType) (name : List ℕ)
    → (type ≡ kind.BackingFileFormat) ⊎ (type ≡ kind.ExternalDataFileName) → IsUtf8 name → ReadsBack (TextOf type name)
text-reads_back type name is valid = grind (arith, nat_tests, is_utf8-from_IsUtf8)

-- the test of two names with their keys says whether they are the same
same_feature_name-Decides : (a b : FeatureKey × List ℕ) → Decides (same_feature_name a b) (a ≡ b)
same_feature_name-Decides ((kind, bit), name) ((other_kind, other_bit), other) =
    grind (arith, nat_tests, Decides-and, Decides-eqb, Decides-like, bytes_eq-Decides)

-- the test of two extensions says whether they are the same
pub same_extension-Decides : (a b : Extension) → Decides (same_extension a b) (a ≡ b)
same_extension-Decides a b =
    grind (arith, bytes_eq-Decides, slice_eq-Decides, same_feature_name-Decides)

-- the derived test of two types of features is that of their numbers
feature_type_eq-number : (a b : FeatureType) → (feature_type_eq.ghosts).eq a b ≡ (feature_type_number a == feature_type_number b)
feature_type_eq-number a b = grind (arith, nat_tests)

-- the derived test of two extensions in memory is that of what they say
pub same_extension-of : (a b : HeaderExtension) → (extension_eq.ghosts).eq a b ≡ same_extension (extension_of a) (extension_of b)
same_extension-of (held.FeatureNameTable a) (held.FeatureNameTable b) =
    let extension_in_link : FeatureKey × String Global → FeatureKey × List ℕ = λ entry. (entry.0, string_bytes entry.1) in
    let each = fun_ext (λ (p : FeatureKey × String Global). fun_ext (λ (q : FeatureKey × String Global).
    ap (λ kinds. kinds && p.0.1 == q.0.1 && bytes_eq (string_bytes p.1) (string_bytes q.1)) (feature_type_eq-number p.0.0 q.0.0))) in
    ap (λ E. pointwise E a.entries b.entries) each ∙ sym (pointwise-map extension_in_link same_feature_name a.entries b.entries)
same_extension-of (held.BackingFileFormat a) (held.BackingFileFormat b) = refl
same_extension-of (held.ExternalDataFileName a) (held.ExternalDataFileName b) = refl
same_extension-of (held.Unknown m a) (held.Unknown n b) = refl
same_extension-of _ _ = refl

-- so is the test of two lists of them
pub same_extensions_of : (a b : List HeaderExtension)
    → pointwise (extension_eq.ghosts).eq a b ≡ pointwise same_extension (map extension_of a) (map extension_of b)
same_extensions_of a b =
    let each = fun_ext (λ (x : HeaderExtension). fun_ext (λ (y : HeaderExtension). same_extension-of x y)) in
    ap (λ E. pointwise E a b) each ∙ sym (pointwise-map extension_of same_extension a b)

-- the texts of names in memory are text
names_of-texts : (entries : List (FeatureKey × String Global))
    → All (λ (named : FeatureKey × List ℕ). IsUtf8 named.1) (map (λ entry. (entry.0, string_bytes entry.1)) entries)
names_of-texts [] = All-nil (λ (named : FeatureKey × List ℕ). IsUtf8 named.1)
names_of-texts (entry ∷ entries) = search (rules, All-cons, IsUtf8-string_bytes, names_of-texts entries)

-- names in memory are in the order of their keys, as those of an image
pub ordered-storable : (names : BTreeMap FeatureKey (String Global)) → IsOrdered key_cmp names
    → IsStorable (FeatureNameTable (names_of names))
ordered-storable names ordered = (
  subst (IsStrictlySortedBy key_cmp) (sym (keys_of-map_values string_bytes names.entries)) ordered,
  names_of-texts names.entries,
)

-- the backing file's name in memory is text
pub name-text : (name : Option (String Global)) → IfSome (option_map string_bytes name) IsUtf8
name-text None = tt
name-text (Some name) = IsUtf8-string_bytes name

-- what features are called in new images is in the order of the keys
known_names-ordered : IsStrictlySortedBy key_cmp (keys_of known_names)
unfolding IsStrictlySortedBy
known_names-ordered = assumption

-- names of which each is text
all_texts : (names : FeatureNames) → list_all (λ named. is_utf8 named.1) names ≡ true → All (λ (named : FeatureKey × List ℕ). IsUtf8 named.1) names
all_texts names test = grind (arith, nat_tests, IsUtf8-from_is_utf8, AllPass-from_list_all)

-- what features are called in new images can be stored
pub known_names-storable : IsStorable (FeatureNameTable known_names)
unfolding is_utf8 chars encode
known_names-storable = (known_names-ordered, all_texts known_names refl)

-- text in memory can be stored, if it is there
texts-storable : (type : HeaderExtensionType) → (type ≡ kind.BackingFileFormat) ⊎ (type ≡ kind.ExternalDataFileName)
    → (name : Option (String Global))
    → All IsStorable (map (TextOf type) (option_to_list (option_map string_bytes name)))
texts-storable type is None = All-nil IsStorable
texts-storable type is (Some name) = grind (arith, nat_tests, All-cons, IsUtf8-string_bytes, All-nil)

-- the extensions of a new image can be stored
pub new_extensions-storable : (format data_file : Option (String Global))
    → All IsStorable
    (FeatureNameTable known_names
    ∷ map (TextOf kind.BackingFileFormat) (option_to_list (option_map string_bytes format))
    ++ map (TextOf kind.ExternalDataFileName) (option_to_list (option_map string_bytes data_file)))
new_extensions-storable format data_file =
    search (rules, All-cons, known_names-storable, All-append, texts-storable kind.BackingFileFormat (inl refl) format, texts-storable kind.ExternalDataFileName (inr refl) data_file)
