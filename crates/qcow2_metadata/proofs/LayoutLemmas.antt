use Rattle.std.proofs.Common.{◌≡◌, ℕ, ◌+◌, ◌-◌, ◌%◌, ◌^◌, ◌<◌, ◌≤◌, Bool, true, false, List, [], ◌∷◌, ◌++◌, length, get_or, map, take, replicate, refl, append_assoc, append-nil, length-append, take_all, arith, min}
use Rattle.std.specs.BTreeMap.{BTreeMap}
use Rattle.std.specs.Global.{Global}
use Rattle.std.specs.List.{flat_map}
use Rattle.std.specs.Prelude.{unwrap_or, Err, IfSome, MatchOption, None, Ok, Option, Some, String, ok_or, string_bytes}
use Rattle.std.proofs.lemmas.List.{length-map, take_min}
use Rattle.std.proofs.lemmas.List.Folds.{flat_map-map, length-flat_map-take}
use Rattle.std.proofs.Math.Pow.{pow_mono}
use Rattle.std.proofs.lemmas.Bool.Decides.{nat_tests}
use Rattle.qcow2_metadata.proofs.TextLemmas.{IsKnown, length-header_text, newer-parts}
use Rattle.qcow2_base.specs.declared.fault.Fault.TheVariants.{HeaderTooLong, NameTooLong}
use Rattle.qcow2_metadata.specs.Header.{HeaderRecord, IsValidHeader}
use Rattle.qcow2_metadata.specs.Header.Extensions.{Extension, FeatureKey, FeatureNameTable, FeatureNames, data_of, extension_of, name_chunk, names_of, type_number}
use Rattle.qcow2_base.specs.OnDiskStruct.{header_extension_header, v2_header, v3_header_base}
use Rattle.qcow2_metadata.specs.Header.Features.{feature_type_number}
use Rattle.qcow2_metadata.specs.Header.Text.{IsChosen, IsLayout, base_with_length, header_end, v2_with_name, header_after_write, header_to_write, chosen_extensions, header_text, extension_text, extensions_text, fields_text, fits_first_cluster, name_place, padded_bytes, parts_text, written_text}
use Rattle.qcow2_metadata.specs.declared.header.text.Layout.{Layout}
use Rattle.qcow2_metadata.specs.declared.header.extensions.HeaderExtension.{HeaderExtension}
use Rattle.qcow2_metadata.proofs.FeatureNamesLemmas.{name_chunks_len}

-- the text of the extensions that are written is that of each, or nothing
pub chosen-parts : (with_names : Bool) (extensions : List Extension)
    → flat_map extension_text (chosen_extensions with_names extensions) ≡ flat_map (written_text with_names) extensions
chosen-parts true [] = refl
chosen-parts true (extension ∷ extensions) = grind (arith, nat_tests, chosen-parts true extensions)
chosen-parts false [] = refl
chosen-parts false (extension ∷ extensions) = grind (arith, nat_tests, chosen-parts false extensions)

-- a table says as many names as it has
pub names_len : (names : BTreeMap FeatureKey (String Global)) → length (names_of names) ≡ length names.entries
names_len names = length-map names.entries (λ entry. (entry.0, string_bytes entry.1))

-- how many bytes they take
pub ruleset table_lens = (names_len, name_chunks_len)

-- what is written of an extension in memory
abbrev pub held_part : Bool → HeaderExtension → List ℕ
held_part with_names held = written_text with_names (extension_of held)

-- the text of extensions in memory, and End
pub extensions_text-held : (with_names : Bool) (held : List HeaderExtension)
    → extensions_text (chosen_extensions with_names (map extension_of held))
    ≡ flat_map (held_part with_names) held ++ replicate 8 0
extensions_text-held with_names held = grind (arith, nat_tests, chosen-parts, flat_map-map)

-- how many bytes these are
pub extensions_text_len : (with_names : Bool) (held : List HeaderExtension)
    → length (extensions_text (chosen_extensions with_names (map extension_of held)))
    ≡ 8 + length (flat_map (held_part with_names) held)
extensions_text_len with_names held = grind (arith, nat_tests, extensions_text-held, length-append)

-- the extensions up to a place, and the next one, are among all
pub parts_within_len : (with_names : Bool) (held : List HeaderExtension) (i : ℕ) (extension : HeaderExtension)
    → i < length held → extension ≡ get_or held i extension
    → length (flat_map (held_part with_names) (take i held)) + length (held_part with_names extension)
    ≤ length (flat_map (held_part with_names) held)
parts_within_len with_names held i extension below is =
    rw (← is) at (length-flat_map-take (held_part with_names) held i extension below)

-- how many bytes extensions take
pub ruleset lens = (extensions_text_len, parts_within_len, take_all)

-- bytes after others, and the zeros after them, are the padded bytes after the others
pub padded_pieces : (text bytes : List ℕ) → (text ++ bytes) ++ replicate ((8 - length bytes % 8) % 8) 0 ≡ text ++ padded_bytes bytes
padded_pieces text bytes = grind (arith, nat_tests, append_assoc)

-- the pieces of a feature's name
pub name_chunk_pieces : (text : List ℕ) (key : FeatureKey) (name : List ℕ)
    → (((text ++ feature_type_number key.0 ∷ []) ++ key.1 ∷ []) ++ take (min 46 (length name)) name)
    ++ replicate (46 - min 46 (length name)) 0
    ≡ text ++ name_chunk (key, name)
name_chunk_pieces text key name = grind (arith, nat_tests, append_assoc, take_min)

-- names need no padding
pub names_padded : (names : FeatureNames) → padded_bytes (flat_map name_chunk names) ≡ flat_map name_chunk names
names_padded names = grind (arith, nat_tests, name_chunks_len, append-nil)

-- the pieces of an extension of names
pub names_pieces : (text before after : List ℕ) (extension : Extension) (names : FeatureNames) → extension ≡ FeatureNameTable names
    → before ≡ text ++ fields_text (header_extension_header (record { extension_type = type_number extension; length = length (data_of extension) }))
    → after ≡ before ++ flat_map name_chunk names → after ≡ text ++ extension_text extension
names_pieces text before after extension names is header more = grind (arith, nat_tests, names_padded, append_assoc)

-- the pieces of the extensions and of End
pub extensions_pieces : (text before after : List ℕ) (with_names : Bool) (held : List HeaderExtension) (i : ℕ)
    → length held ≤ i → before ≡ text ++ flat_map (held_part with_names) (take i held) → after ≡ before ++ replicate 8 0
    → after ≡ text ++ extensions_text (chosen_extensions with_names (map extension_of held))
extensions_pieces text before after with_names held i all parts zeros =
    rw (zeros, parts, extensions_text-held with_names held, take_all i held all) (simp append_assoc)

-- a header in memory has no layout where its text is longer than the first cluster, which has 2 MiB at most
pub too_long : (inside header : HeaderRecord) (with_names : Bool) → IsValidHeader inside → inside ≡ header
    → (2 ^ header.v2.cluster_bits ≤ 2 ^ 21 → 2 ^ header.v2.cluster_bits
    < name_place (header_to_write with_names header) + length (unwrap_or header.backing_filename []))
    → fits_first_cluster (header_to_write with_names header) ≡ false
too_long inside header with_names valid same long = grind (arith, nat_tests, pow_mono, length-header_text)

-- and it has one where the text isn't longer
pub laid_out : (inside header : HeaderRecord) (layout : Layout) (end place : ℕ) → IsValidHeader inside
    → inside ≡ header
    → end ≡ header_end header → place ≡ name_place (header_to_write layout.with_names header)
    → layout.v2 ≡ v2_with_name header.v2 place header.backing_filename
    → layout.base ≡ base_with_length header.v2.version header.base end
    → layout.len ≡ place + length (unwrap_or header.backing_filename [])
    → layout.len ≤ 2 ^ header.v2.cluster_bits
    → IsLayout (header_to_write layout.with_names header) layout
laid_out inside header layout end place valid same ends begins v2 base len short =
    grind (arith, nat_tests, length-header_text)

-- the pieces before the extensions in version 3
pub newer_pieces : (header : HeaderRecord) (layout : Layout) (text first second third : List ℕ) → header.v2.version ≡ 3
    → IsLayout header layout → first ≡ text ++ fields_text (v2_header layout.v2)
    → second ≡ first ++ fields_text (v3_header_base layout.base)
    → third ≡ second ++ padded_bytes header.unknown_header_fields → third ≡ text ++ parts_text header
newer_pieces header layout text first second third newer is v2 base unknown =
    rw (unknown, base, v2, (newer-parts header newer).0, is.v2, is.base) (simp append_assoc)

-- the extensions of a header that fits are few bytes
pub extensions_short : (header : HeaderRecord) → IsKnown header → header.v2.cluster_bits ≤ 21 → fits_first_cluster header ≡ true
    → length (extensions_text header.extensions) < 2 ^ 32
extensions_short header known bits inside = grind (arith, nat_tests, pow_mono, length-header_text)

-- the pieces of a header's text
pub text_pieces : (header : HeaderRecord) (first second third fourth : List ℕ) → first ≡ [] → second ≡ first ++ parts_text header
    → third ≡ second ++ extensions_text header.extensions → fourth ≡ third ++ unwrap_or header.backing_filename []
    → fourth ≡ header_text header
unfolding header_text
text_pieces header first second third fourth none parts extensions name = grind (arith, nat_tests)

-- a name that is too long is refused
pub kept_long : (header : HeaderRecord) → 1023 < length (unwrap_or header.backing_filename [])
    → header_after_write header ≡ Err NameTooLong
unfolding header_after_write
kept_long header long = grind (arith, nat_tests)

-- a layout with feature names that was found is the one that is written
pub whole_chosen : (header : HeaderRecord) (layout : Layout)
    → length (unwrap_or header.backing_filename []) ≤ 1023
    → IsLayout (header_to_write true header) layout → layout.with_names ≡ true → IsChosen header (Ok layout)
unfolding header_after_write
whole_chosen header layout short is names = grind (arith, nat_tests)

-- where there is none, the result is the layout without feature names, or the fault
pub bare_chosen : (header : HeaderRecord) (found : Option Layout)
    → length (unwrap_or header.backing_filename []) ≤ 1023
    → fits_first_cluster (header_to_write true header) ≡ false
    → MatchOption found (fits_first_cluster (header_to_write false header) ≡ false) (IsLayout (header_to_write false header))
    → IfSome found (λ layout. layout.with_names ≡ false) → IsChosen header (ok_or found HeaderTooLong)
unfolding header_after_write
bare_chosen header None short whole few names = grind (arith, nat_tests, short, whole, few)
bare_chosen header (Some layout) short whole is names = grind (arith, nat_tests)

-- which layout is chosen
pub ruleset choices = (kept_long, whole_chosen, bare_chosen)
