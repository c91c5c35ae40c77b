-- What does an extension of a header say, by its type and its data?
use Rattle.std.specs.Prelude.{◌≡◌, ◌≢◌, ◌⊎◌, ℕ, zero, suc, ◌-◌, ◌*◌, ◌^◌, ◌<◌, ◌==◌, ◌&&◌, Bool, false, if◌then◌else◌, All, List, [], ◌∷◌, ◌++◌, length, map, take, drop, replicate, Option, Some, None, Result, Ok, Err, String, string_bytes}
use Rattle.std.specs.Global.{Global}
use Rattle.std.specs.BTreeMap.{BTreeMap, insert_entry}
use Rattle.std.specs.Cmp.Lexicographic.{pointwise}
use Rattle.std.specs.Int.{div_ceil}
use Rattle.std.specs.List.{flat_map}
use Rattle.std.specs.List.Sorted.{IsStrictlySortedBy}
use Rattle.std.specs.Map.{keys_of, lookup}
use Rattle.std.specs.Ordering.{is_eq, nat_cmp, ordering_then}
use Rattle.std.specs.declared.cmp.Ordering.{Ordering}
use Rattle.std.specs.Str.{IsUtf8, bytes_eq, is_utf8}
use Rattle.std.specs.Str.Lossy.{utf8_lossy}
use Rattle.qcow2_base.specs.declared.fault.Fault.{Fault}
use Rattle.qcow2_base.specs.declared.fault.Fault.TheVariants.{ExtensionText, FeatureNameCut}
use Rattle.qcow2_metadata.specs.Header.Features.{feature_type_number, feature_type_of}
use Rattle.qcow2_metadata.specs.declared.header.extensions.HeaderExtension.{HeaderExtension}
use Rattle.qcow2_metadata.specs.declared.header.extensions.HeaderExtension.TheVariants as held
use Rattle.qcow2_metadata.specs.declared.header.extensions.HeaderExtensionType.{HeaderExtensionType}
use Rattle.qcow2_metadata.specs.declared.header.extensions.HeaderExtensionType.TheVariants as kind
use Rattle.qcow2_metadata.specs.declared.header.features.FeatureType.{FeatureType}
use Rattle.qcow2_metadata.specs.contracts.header.features.FeatureTypeOrd.TheImpl as feature_type_ord
use Rattle.qcow2_metadata.specs.Results.{and_then, result_map}

-- the key of a feature's name: its type and its bit
abbrev pub FeatureKey : Type 0
FeatureKey = FeatureType × ℕ

-- the order of keys: by type, then by bit
abbrev pub key_cmp : FeatureKey → FeatureKey → Ordering
key_cmp a b = ordering_then ((feature_type_ord.ghosts).cmp a.0 b.0) (nat_cmp a.1 b.1)

-- names by key, in the order of the keys, each key once
abbrev pub FeatureNames : Type 0
FeatureNames = List (FeatureKey × List ℕ)

-- the number of a type of extension
abbrev pub extension_number : HeaderExtensionType → ℕ
extension_number kind.End = 0
extension_number kind.BackingFileFormat = 0xe2792aca
extension_number kind.FeatureNameTable = 0x6803f857
extension_number kind.ExternalDataFileName = 0x44415441

-- an extension of the header: text of a type, names of features, or content of a type that isn't known; texts and
-- contents are bytes
pub data Extension : Type 0 where
  TextOf : HeaderExtensionType → List ℕ → Extension
  FeatureNameTable : FeatureNames → Extension
  Unknown : ℕ → List ℕ → Extension

-- whether an extension is of the type with this number, which isn't known here
abbrev pub is_unknown : ℕ → Extension → Bool
is_unknown number (Unknown other content) = other == number
is_unknown number _ = false

-- the names that a table in memory has
abbrev pub names_of : BTreeMap FeatureKey (String Global) → FeatureNames
names_of names = map (λ entry. (entry.0, string_bytes entry.1)) names.entries

-- what an extension in memory says
abbrev pub extension_of : HeaderExtension → Extension
extension_of (held.BackingFileFormat name) = TextOf kind.BackingFileFormat (string_bytes name)
extension_of (held.FeatureNameTable names) = FeatureNameTable (names_of names)
extension_of (held.ExternalDataFileName name) = TextOf kind.ExternalDataFileName (string_bytes name)
extension_of (held.Unknown number content) = Unknown number content.items

-- text, or the fault of bytes that are none
abbrev pub text : Fault → List ℕ → Result (List ℕ) Fault
text fault bytes = if is_utf8 bytes then Ok bytes else Err fault

-- what comes before the first zero byte
abbrev pub until_zero : List ℕ → List ℕ
until_zero [] = []
until_zero (byte ∷ bytes) = if byte == 0 then [] else byte ∷ until_zero bytes

-- the names with what one chunk of a feature name table says: a type, a bit and a name. A chunk of a type
-- that isn't known says nothing
abbrev pub with_feature_name : FeatureNames → List ℕ → Result FeatureNames Fault
with_feature_name names [] = Ok names
with_feature_name names (number ∷ bytes) = of_type (feature_type_of number) bytes
  where
    of_type : Option FeatureType → List ℕ → Result FeatureNames Fault
    of_type None bytes = Ok names
    of_type (Some feature_type) [] = Err FeatureNameCut
    of_type (Some feature_type) (bit ∷ name) = Ok (insert_entry key_cmp names (feature_type, bit) (utf8_lossy (until_zero name)))

-- the names of the first chunks of 48 bytes; a later one of the same key replaces an earlier one
abbrev pub names_of_chunks : List ℕ → ℕ → Result FeatureNames Fault
names_of_chunks bytes zero = Ok []
names_of_chunks bytes (suc chunks) =
    and_then (names_of_chunks bytes chunks) (λ names. with_feature_name names (take 48 (drop (48 * chunks) bytes)))

-- the names of a feature name table; its last chunk may be shorter
abbrev pub feature_names : List ℕ → Result FeatureNames Fault
feature_names bytes = names_of_chunks bytes (div_ceil (length bytes) 48)

-- an extension that an image can say: texts are UTF-8, and names of features are in the order of their keys. Only
-- data of a type that isn't known is kept as it is
abbrev pub IsStorable : Extension → Type 0
IsStorable (TextOf type name) =
    ((type ≡ kind.BackingFileFormat) ⊎ (type ≡ kind.ExternalDataFileName)) × IsUtf8 name
IsStorable (FeatureNameTable names) =
    IsStrictlySortedBy key_cmp (keys_of names) × All (λ named. IsUtf8 named.1) names
IsStorable (Unknown number content) =
    (number < 2 ^ 32) × ((type : HeaderExtensionType) → extension_number type ≢ number)

-- the name that an extension of this type says
abbrev pub name_in : HeaderExtensionType → Extension → Option (List ℕ)
name_in type (TextOf own name) = if extension_number own == extension_number type then Some name else None
name_in type _ = None

-- the name that an extension has for a feature
abbrev pub feature_name_in : FeatureKey → Extension → Option (List ℕ)
feature_name_in key (FeatureNameTable names) = lookup (λ other. is_eq (key_cmp key other)) names
feature_name_in key _ = None

-- whether two names of features are the same, and the keys that they have
abbrev pub same_feature_name : FeatureKey × List ℕ → FeatureKey × List ℕ → Bool
same_feature_name a b =
    feature_type_number a.0.0 == feature_type_number b.0.0 && a.0.1 == b.0.1 && bytes_eq a.1 b.1

-- whether two extensions are the same
abbrev pub same_extension : Extension → Extension → Bool
same_extension (TextOf type name) (TextOf other_type other) =
    extension_number type == extension_number other_type && bytes_eq name other
same_extension (FeatureNameTable names) (FeatureNameTable others) = pointwise same_feature_name names others
same_extension (Unknown number content) (Unknown other_number other) = number == other_number && bytes_eq content other
same_extension _ _ = false

-- the extension of a type that isn't End with these bytes of data
abbrev pub extension_from_data : ℕ → List ℕ → Result Extension Fault
extension_from_data number bytes =
    if number == extension_number kind.BackingFileFormat then result_map (TextOf kind.BackingFileFormat) (text ExtensionText bytes)
    else (if number == extension_number kind.FeatureNameTable then result_map FeatureNameTable (feature_names bytes)
    else (if number == extension_number kind.ExternalDataFileName then result_map (TextOf kind.ExternalDataFileName) (text ExtensionText bytes)
    else Ok (Unknown number bytes)))

-- a feature's name in 48 bytes: its type, its bit, the first 46 bytes of the name, and zeros
abbrev pub name_chunk : FeatureKey × List ℕ → List ℕ
name_chunk named = feature_type_number named.0.0 ∷ named.0.1 ∷ take 46 named.1 ++ replicate (46 - length named.1) 0

-- the number of an extension's type
abbrev pub type_number : Extension → ℕ
type_number (TextOf type name) = extension_number type
type_number (FeatureNameTable names) = extension_number kind.FeatureNameTable
type_number (Unknown number content) = number

-- the data of an extension
abbrev pub data_of : Extension → List ℕ
data_of (TextOf type name) = name
data_of (FeatureNameTable names) = flat_map name_chunk names
data_of (Unknown number content) = content

-- what a name of a feature reads back as: the text of its first 46 bytes, up to the first zero byte
abbrev pub normal_name : List ℕ → List ℕ
normal_name name = utf8_lossy (until_zero (take 46 name))

-- what an extension reads back as
abbrev pub normal_extension : Extension → Extension
normal_extension (TextOf type name) = TextOf type name
normal_extension (FeatureNameTable names) = FeatureNameTable (map (λ named. (named.0, normal_name named.1)) names)
normal_extension (Unknown number content) = Unknown number content
