-- Which bytes are written for a header, and what does it read back as?
use Rattle.std.specs.Prelude.{◌≡◌, All, ℕ, ◌<◌, ◌+◌, ◌-◌, ◌^◌, ◌==◌, nat_le, ◌||◌, Bool, true, false, if◌then◌else◌, List, [], ◌∷◌, ◌++◌, length, map, replicate, Option, Some, None, unwrap_or, Result, Ok, Err, MatchResult}
use Rattle.std.specs.Int.{bytes_high_first, next_multiple_of}
use Rattle.std.specs.List.{filter, flat_map}
use Rattle.qcow2_base.specs.Format.{max_backing_filename}
use Rattle.qcow2_base.specs.OnDiskStruct.{LayoutField, header_extension_header, v2_header, v3_header_base}
use Rattle.qcow2_base.specs.Storage.{Holds, Image}
use Rattle.qcow2_base.specs.declared.fault.Fault.{Fault}
use Rattle.qcow2_base.specs.declared.fault.Fault.TheVariants.{HeaderTooLong, NameTooLong}
use Rattle.qcow2_base.specs.declared.on_disk_struct.v2_header.V2Header.{V2Header}
use Rattle.qcow2_base.specs.declared.on_disk_struct.v3_header_base.V3HeaderBase.{V3HeaderBase}
use Rattle.qcow2_metadata.specs.Results.{after_conditions}
use Rattle.qcow2_metadata.specs.Header.{Accepts, HeaderRecord}
use Rattle.qcow2_metadata.specs.Header.Extensions.{Extension, FeatureNameTable, data_of, normal_extension, type_number}
use Rattle.qcow2_metadata.specs.Header.Grammar.{IsAcceptedHeader}
use Rattle.qcow2_metadata.specs.declared.header.text.Layout.{Layout}
use Rattle.qcow2_metadata.specs.declared.header.features.AcceptedFeatures.{AcceptedFeatures}

-- the bytes of fields that follow one another, the most significant one of each first
abbrev pub fields_text : List LayoutField → List ℕ
fields_text fields = flat_map (λ f. bytes_high_first f.size f.value) fields

-- each field's value fits its bytes
abbrev pub AreFitting : List LayoutField → Type 0
AreFitting fields = All (λ f. f.value < 256 ^ f.size) fields

-- the bytes, and zeros up to a multiple of 8 of them
abbrev pub padded_bytes : List ℕ → List ℕ
padded_bytes bytes = bytes ++ replicate (next_multiple_of (length bytes) 8 - length bytes) 0

-- an extension in the image: its type, its length, and its data with the padding
abbrev pub extension_text : Extension → List ℕ
extension_text extension =
    let content = data_of extension in
    fields_text (header_extension_header (record { extension_type = type_number extension; length = length content }))
    ++ padded_bytes content

-- the extensions one after another, and End, which is eight zero bytes
abbrev pub extensions_text : List Extension → List ℕ
extensions_text extensions = flat_map extension_text extensions ++ replicate 8 0

-- where the extensions begin: after the first part, and in version 3 after the second one and the padded
-- unknown fields
abbrev pub header_end : HeaderRecord → ℕ
header_end header = elim (header.v2.version == 3) [
  | true ↦ 104 + length (padded_bytes header.unknown_header_fields)
  | false ↦ 72
]

-- where the backing file's name begins: right after the extensions
abbrev pub name_place : HeaderRecord → ℕ
name_place header = header_end header + length (extensions_text header.extensions)

-- the first part with the place and the length of the backing file's name, 0 and 0 where there is none
abbrev pub v2_with_name : V2Header → ℕ → Option (List ℕ) → V2Header
v2_with_name v2 place None = record v2 { backing_file_offset = 0; backing_file_size = 0 }
v2_with_name v2 place (Some name) = record v2 { backing_file_offset = place; backing_file_size = length name }

-- the first part as it is written
abbrev pub placed_v2 : HeaderRecord → V2Header
placed_v2 header = v2_with_name header.v2 (name_place header) header.backing_filename

-- the second part with the header's length, where the version has such a part
abbrev pub base_with_length : ℕ → V3HeaderBase → ℕ → V3HeaderBase
base_with_length version base len = elim (version == 3) [
  | true ↦ record base { header_length = len }
  | false ↦ base
]

-- the second part as it is written
abbrev pub placed_base : HeaderRecord → V3HeaderBase
placed_base header = base_with_length header.v2.version header.base (header_end header)

-- the header with the places that its text has
abbrev pub header_with_places : HeaderRecord → HeaderRecord
header_with_places header = record header { v2 = placed_v2 header; base = placed_base header }

-- what comes before the extensions
abbrev pub parts_text : HeaderRecord → List ℕ
parts_text header = elim (header.v2.version == 3) [
  | true ↦ fields_text (v2_header (placed_v2 header)) ++ fields_text (v3_header_base (placed_base header))
      ++ padded_bytes header.unknown_header_fields
  | false ↦ fields_text (v2_header (placed_v2 header))
]

-- the bytes of a header: its parts, the extensions, and the backing file's name, with nothing after it
unfoldable pub header_text : HeaderRecord → List ℕ
header_text header = parts_text header ++ extensions_text header.extensions ++ unwrap_or header.backing_filename []

-- whether an extension is other than a table of feature names
abbrev pub is_other : Extension → Bool
is_other (FeatureNameTable names) = false
is_other _ = true

-- the extensions that are written: all, or those other than tables of feature names
abbrev pub chosen_extensions : Bool → List Extension → List Extension
chosen_extensions true extensions = extensions
chosen_extensions false extensions = filter is_other extensions

-- what is written of one: its text, or nothing of a table of feature names that is left out
abbrev pub written_text : Bool → Extension → List ℕ
written_text with_names extension = if with_names || is_other extension then extension_text extension else []

-- the header that is written: the whole one, or that without feature names
abbrev pub header_to_write : Bool → HeaderRecord → HeaderRecord
header_to_write with_names header =
    record header { extensions = chosen_extensions with_names header.extensions }

-- whether its text fits the first cluster
abbrev pub fits_first_cluster : HeaderRecord → Bool
fits_first_cluster header = nat_le (length (header_text header)) (2 ^ header.v2.cluster_bits)

-- whether the backing file's name is one that an image can have
abbrev pub is_short : Option (List ℕ) → Bool
is_short None = true
is_short (Some name) = nat_le (length name) max_backing_filename

-- the header as a write leaves it: with the places of its text, and where that doesn't fit, without feature
-- names; or why it can't be written
unfoldable pub header_after_write : HeaderRecord → Result HeaderRecord Fault
header_after_write header =
    after_conditions ((is_short header.backing_filename, NameTooLong) ∷ []) (λ _.
    elim (fits_first_cluster header) [
      | true ↦ Ok (header_with_places header)
      | false ↦ after_conditions ((fits_first_cluster (header_to_write false header), HeaderTooLong) ∷ []) (λ _. Ok (header_with_places (header_to_write false header)))
    ])

-- the bytes that a write places; none where it is refused
abbrev pub chosen_text : HeaderRecord → List ℕ
chosen_text header = elim (header_after_write header) [
  | Ok written ↦ header_text written
  | Err fault ↦ []
]

-- what a header that was written reads back as. The unknown fields have their padding, which version 2 has
-- not, and the names of features are those that the image has
abbrev pub header_read_back : HeaderRecord → HeaderRecord
header_read_back header = record header {
  unknown_header_fields = padded_bytes header.unknown_header_fields;
  extensions = map normal_extension header.extensions;
}

-- a header that is about to be written: its fixed parts with the places of its text, and how many bytes that has,
-- which fit the first cluster
pub record IsLayout (header : HeaderRecord) (layout : Layout) : Type 0 where
  pub v2 : layout.v2 ≡ placed_v2 header
  pub base : layout.base ≡ placed_base header
  pub len : layout.len ≡ length (header_text header)
  pub fits : fits_first_cluster header ≡ true

-- the layout that is written, or why there is none
abbrev pub IsChosen : HeaderRecord → Result Layout Fault → Type 0
IsChosen header answer = MatchResult answer
    (λ layout. IsLayout (header_to_write layout.with_names header) layout × (header_after_write header ≡ Ok (header_with_places (header_to_write layout.with_names header))))
    (λ fault. header_after_write header ≡ Err fault)

-- a header that was written: its text is at the image's start, and who accepts its features reads it back as the normal form
pub record IsWrittenHeader (image : Image) (header : HeaderRecord) : Type 0 where
  pub text : Holds image 0 (header_text header)
  pub reads_back : (accepted : AcceptedFeatures) → Accepts accepted header.base header.unknown_header_fields
      → IsAcceptedHeader accepted image (header_read_back header)

-- a header that was written stays as it is: to write it again places the same bytes, and so does what it reads
-- back as, which reads back as itself
pub record IsSettled (header : HeaderRecord) : Type 0 where
  pub again : header_after_write header ≡ Ok header
  pub normal_again : header_after_write (header_read_back header) ≡ Ok (header_read_back header)
  pub normal_once : header_read_back (header_read_back header) ≡ header_read_back header
