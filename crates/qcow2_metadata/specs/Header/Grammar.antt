-- Which header do the bytes of an image have, or which fault?
use Rattle.std.specs.Prelude.{◌≡◌, ◌≢◌, ◌⊎◌, ℕ, ◌+◌, ◌-◌, ◌^◌, ◌%◌, ◌≤◌, ◌==◌, nat_le, ◌||◌, ◌&&◌, not, Bool, List, [], ◌∷◌, Option, Some, None, Result, Ok, true, false}
use Rattle.std.specs.List.{IsAmong}
use Rattle.std.specs.Str.{IsUtf8}
use Rattle.qcow2_base.specs.Format.{max_backing_filename}
use Rattle.qcow2_base.specs.OnDiskStruct.{HoldsLayout, fields_moved_by, v2_header, v3_header_base}
use Rattle.qcow2_base.specs.Fault.{fault_number}
use Rattle.qcow2_base.specs.Storage.{Image, be}
use Rattle.qcow2_base.specs.Types.{IsClusterBits}
use Rattle.qcow2_base.specs.declared.fault.Fault.{Fault}
use Rattle.qcow2_base.specs.declared.fault.Fault.TheVariants.{NotQcow2, Version, ClusterSize, HeaderShort, HeaderBig, L1Unaligned, ReftableUnaligned, RefcountWidth, BackingNameLong, BackingNamePlace, BackingNameText, FormatConflict, DataFileConflict, Incompatible}
use Rattle.qcow2_base.specs.declared.on_disk_struct.v2_header.V2Header.{V2Header}
use Rattle.qcow2_base.specs.declared.on_disk_struct.v3_header_base.V3HeaderBase.{V3HeaderBase}
use Rattle.qcow2_metadata.specs.Results.{and_then, after_conditions, result_map}
use Rattle.qcow2_metadata.specs.Header.{Accepts, HeaderRecord, all_same, default_base, is_compression, magic, names_by, no_feature, other_features}
use Rattle.qcow2_metadata.specs.Header.Chain.{SaysExtensions, extensions_at}
use Rattle.qcow2_metadata.specs.Header.Extensions.{Extension, name_in, text}
use Rattle.qcow2_metadata.specs.Header.Features.{incompatible_bit}
use Rattle.qcow2_metadata.specs.Range.{bytes_at}
use Rattle.qcow2_metadata.specs.declared.header.extensions.HeaderExtensionType.TheVariants as kind
use Rattle.qcow2_metadata.specs.declared.header.features.AcceptedFeatures.{AcceptedFeatures}
use Rattle.qcow2_metadata.specs.declared.header.features.IncompatibleFeatures.TheVariants.{CompressionType}

-- the part of a header that each version has
abbrev pub v2_at : Image → V2Header
v2_at image = record {
  magic = be image 0 4;
  version = be image 4 4;
  backing_file_offset = be image 8 8;
  backing_file_size = be image 16 4;
  cluster_bits = be image 20 4;
  size = be image 24 8;
  crypt_method = be image 32 4;
  l1_size = be image 36 4;
  l1_table_offset = be image 40 8;
  refcount_table_offset = be image 48 8;
  refcount_table_clusters = be image 56 4;
  nb_snapshots = be image 60 4;
  snapshots_offset = be image 64 8;
}

-- the part that version 3 adds, of an image without features where the version is 2
abbrev pub base_at : Image → ℕ → V3HeaderBase
base_at image version = elim (version == 3) [
  | true ↦ record {
    incompatible_features = be image 72 8;
    compatible_features = be image 80 8;
    autoclear_features = be image 88 8;
    refcount_order = be image 96 4;
    header_length = be image 100 4;
  }
  | false ↦ default_base
]

-- the conditions on the fields that say how to read the others
abbrev pub version_conditions : V2Header → List (Bool × Fault)
version_conditions v2 =
    (v2.magic == magic, NotQcow2)
    ∷ (v2.version == 2 || v2.version == 3, Version)
    ∷ (nat_le 9 v2.cluster_bits && nat_le v2.cluster_bits 21, ClusterSize)
    ∷ []

-- the conditions on fields of a cluster size that is valid
abbrev pub field_conditions : V2Header → V3HeaderBase → List (Bool × Fault)
field_conditions v2 base =
    (nat_le 104 base.header_length, HeaderShort)
    ∷ (nat_le base.header_length (2 ^ v2.cluster_bits), HeaderBig)
    ∷ (v2.l1_table_offset % 2 ^ v2.cluster_bits == 0, L1Unaligned)
    ∷ (v2.refcount_table_offset % 2 ^ v2.cluster_bits == 0, ReftableUnaligned)
    ∷ (nat_le base.refcount_order 6, RefcountWidth)
    ∷ []

-- the two fixed parts of a header
abbrev pub fixed_parts : Image → Result (V2Header × V3HeaderBase) Fault
fixed_parts image =
    let v2 = v2_at image in
    after_conditions (version_conditions v2) (λ _.
    let base = base_at image v2.version in
    after_conditions (field_conditions v2 base) (λ _. Ok (v2, base)))

-- the backing file's name, where the header says where it is
abbrev pub backing_name : Image → V2Header → Result (Option (List ℕ)) Fault
backing_name image v2 = elim (v2.backing_file_offset == 0) [
  | true ↦ Ok None
  | false ↦ after_conditions
      ((nat_le v2.backing_file_size max_backing_filename, BackingNameLong)
      ∷ (nat_le (v2.backing_file_offset + v2.backing_file_size) (2 ^ v2.cluster_bits), BackingNamePlace)
      ∷ []) (λ _.
      result_map Some (text BackingNameText (bytes_at image v2.backing_file_offset v2.backing_file_size)))
]

-- the extensions, of which version 2 has none
abbrev pub header_extensions : Image → V2Header → V3HeaderBase → Result (List Extension) Fault
header_extensions image v2 base = elim (v2.version == 3) [
  | true ↦ extensions_at image (2 ^ v2.cluster_bits) base.header_length
  | false ↦ Ok []
]

-- the conditions that need all extensions: features but the external data file, bit 2, and those that are accepted are
-- refused, and where a compression type is accepted, one that there isn't
abbrev pub last_conditions : AcceptedFeatures → V3HeaderBase → List ℕ → List Extension → List (Bool × Fault)
last_conditions accepted base unknown_header_fields extensions =
    (all_same (names_by (name_in kind.BackingFileFormat) extensions), FormatConflict)
    ∷ (all_same (names_by (name_in kind.ExternalDataFileName) extensions), DataFileConflict)
    ∷ (other_features accepted base == 0, Incompatible (other_features accepted base))
    ∷ (not accepted.compression_type || is_compression base unknown_header_fields, Incompatible (2 ^ incompatible_bit CompressionType))
    ∷ []

-- the part that version 3 adds comes after the first, and version 2 has none
pub record IsBase (image : Image) (version : ℕ) (base : V3HeaderBase) : Type 0 where
  pub version_3 : version ≡ 3 → HoldsLayout image (fields_moved_by 72 (v3_header_base base))
  pub version_2 : version ≡ 2 → base ≡ default_base

-- the backing file's name, if the header says a place: at most 1023 bytes of text, within the first cluster
abbrev pub IsBackingName : Image → V2Header → Option (List ℕ) → Type 0
IsBackingName image v2 None = v2.backing_file_offset ≡ 0
IsBackingName image v2 (Some name) =
    (v2.backing_file_offset ≢ 0) × (v2.backing_file_size ≤ max_backing_filename)
    × (v2.backing_file_offset + v2.backing_file_size ≤ 2 ^ v2.cluster_bits)
    × (name ≡ bytes_at image v2.backing_file_offset v2.backing_file_size) × IsUtf8 name

-- the extensions of version 3 begin where the header ends, and version 2 has none
pub record HasExtensions (image : Image) (v2 : V2Header) (base : V3HeaderBase) (extensions : List Extension) : Type 0 where
  pub version_3 : v2.version ≡ 3 → SaysExtensions image (2 ^ v2.cluster_bits) base.header_length extensions
  pub version_2 : v2.version ≡ 2 → extensions ≡ []

-- any two of the names are the same
abbrev pub AreSame : List (List ℕ) → Type 0
AreSame names = (a b : List ℕ) → IsAmong names a → IsAmong names b → a ≡ b

-- the image begins with this header, whose features are accepted
pub record IsAcceptedHeader (accepted : AcceptedFeatures) (image : Image) (header : HeaderRecord) : Type 0 where
  pub v2 : HoldsLayout image (v2_header header.v2)
  pub base : IsBase image header.v2.version header.base
  pub magic : header.v2.magic ≡ magic
  pub version : (header.v2.version ≡ 2) ⊎ (header.v2.version ≡ 3)
  pub cluster_bits : IsClusterBits header.v2.cluster_bits
  pub header_not_short : 104 ≤ header.base.header_length
  pub header_not_big : header.base.header_length ≤ 2 ^ header.v2.cluster_bits
  pub l1_table_aligned : header.v2.l1_table_offset % 2 ^ header.v2.cluster_bits ≡ 0
  pub reftable_aligned : header.v2.refcount_table_offset % 2 ^ header.v2.cluster_bits ≡ 0
  pub refcount_width : header.base.refcount_order ≤ 6
  pub unknown_header_fields : header.unknown_header_fields ≡ bytes_at image 104 (header.base.header_length - 104)
  pub backing_filename : IsBackingName image header.v2 header.backing_filename
  pub extensions : HasExtensions image header.v2 header.base header.extensions
  pub one_format : AreSame (names_by (name_in kind.BackingFileFormat) header.extensions)
  pub one_data_file : AreSame (names_by (name_in kind.ExternalDataFileName) header.extensions)
  pub accepts : Accepts accepted header.base header.unknown_header_fields

-- the image begins with this header, which has no feature but the external data file
abbrev pub IsHeader : Image → HeaderRecord → Type 0
IsHeader = IsAcceptedHeader no_feature

-- the refusals of the grammar
abbrev pub IsHeaderFault : Fault → Type 0
IsHeaderFault fault = fault_number fault ≤ 17

-- what holds of the fixed parts of every header
pub record AreValidParts (v2 : V2Header) (base : V3HeaderBase) : Type 0 where
  pub magic : v2.magic ≡ magic
  pub version : (v2.version ≡ 2) ⊎ (v2.version ≡ 3)
  pub cluster_bits : IsClusterBits v2.cluster_bits
  pub header_length : (104 ≤ base.header_length) × (base.header_length ≤ 2 ^ v2.cluster_bits)
  pub refcount_order : base.refcount_order ≤ 6
  pub l1_table_aligned : v2.l1_table_offset % 2 ^ v2.cluster_bits ≡ 0
  pub reftable_aligned : v2.refcount_table_offset % 2 ^ v2.cluster_bits ≡ 0
  pub older : v2.version ≡ 2 → base ≡ default_base

-- the header of an image with these fixed parts, or the fault of the first condition that the rest of it fails
abbrev pub header_with_parts : AcceptedFeatures → Image → V2Header × V3HeaderBase → Result HeaderRecord Fault
header_with_parts accepted image parts =
    let unknown_header_fields = bytes_at image 104 (parts.1.header_length - 104) in
    and_then (backing_name image parts.0) (λ name.
    and_then (header_extensions image parts.0 parts.1) (λ extensions.
    after_conditions (last_conditions accepted parts.1 unknown_header_fields extensions) (λ _.
    Ok (record {
      v2 = parts.0;
      base = parts.1;
      unknown_header_fields = unknown_header_fields;
      backing_filename = name;
      extensions = extensions;
    }))))

-- the header of an image for who accepts these features, or the fault of the first condition that it fails
unfoldable pub accepted_header : AcceptedFeatures → Image → Result HeaderRecord Fault
accepted_header accepted image = and_then (fixed_parts image) (header_with_parts accepted image)

-- the header of an image for who accepts none
abbrev pub header_of : Image → Result HeaderRecord Fault
header_of = accepted_header no_feature
