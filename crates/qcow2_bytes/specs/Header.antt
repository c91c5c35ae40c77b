-- What do the bytes of a first cluster say of an image, and where in them do names lie?
use Rattle.std.specs.Prelude.{◌≡◌, ℕ, ◌==◌, ◌+◌, ◌*◌, ◌/◌, ◌^◌, ◌<◌, ◌≤◌, ◌&&◌, nat_le, List, [], ◌∷◌, length, Option, Some, None, Result, Ok, IsOkAnd, MatchResult, Err, ◌⊎◌}
use Rattle.qcow2_base.specs.Bits.{field}
use Rattle.qcow2_base.specs.Format.{external_data_file_bit}
use Rattle.qcow2_base.specs.Storage.{Image, image_of}
use Rattle.qcow2_base.specs.declared.fault.Fault.{Fault}
use Rattle.qcow2_base.specs.declared.fault.Fault.TheVariants.{ClusterSize, Incompatible, NoMemory, WrongLength}
use Rattle.qcow2_metadata.specs.Results.{after_conditions, and_then}
use Rattle.qcow2_metadata.specs.Range.{bytes_at}
use Rattle.qcow2_metadata.specs.Header.{Geometry, HeaderRecord, each_feature, first_by, geometry}
use Rattle.qcow2_metadata.specs.Header.Extensions.{name_in}
use Rattle.qcow2_metadata.specs.Header.Grammar.{accepted_header, v2_at, version_conditions}
use Rattle.qcow2_metadata.specs.declared.header.extensions.HeaderExtensionType.TheVariants as kind
use Rattle.qcow2_bytes.specs.declared.header.HeaderFields.{HeaderFields}
use Rattle.qcow2_bytes.specs.declared.header.NameRange.{NameRange}

-- how many bytes the first cluster has, by its first 104 bytes, or the fault of fields that say none
abbrev pub first_cluster_size : List ℕ → Result ℕ Fault
first_cluster_size bytes =
    let v2 = v2_at (image_of bytes) in
    after_conditions ((nat_le 104 (length bytes), WrongLength) ∷ version_conditions v2) (λ _. Ok (2 ^ v2.cluster_bits))

-- the header of an image, each feature of which is accepted that can be
abbrev pub any_header_of : Image → Result HeaderRecord Fault
any_header_of = accepted_header each_feature

-- the header of an image that begins with these bytes, which must be its whole first cluster
abbrev pub header_in : List ℕ → Result HeaderRecord Fault
header_in bytes = and_then (first_cluster_size bytes) (λ size.
    after_conditions ((nat_le size (length bytes), WrongLength) ∷ []) (λ _. any_header_of (image_of bytes)))

-- no name, which has neither an offset nor a length
abbrev pub no_name : NameRange
no_name = record { offset = 0; length = 0 }

-- the range has the name's bytes, and ends within that many bytes of the image; where there is no name, it is empty at 0
abbrev pub IsNameAt : Image → ℕ → Option (List ℕ) → NameRange → Type 0
IsNameAt image size None range = range ≡ no_name
IsNameAt image size (Some name) range =
    (0 < range.offset) × (range.offset + range.length ≤ size) × (name ≡ bytes_at image range.offset range.length)

-- the fields of a header whose names lie in these ranges
abbrev pub header_fields : HeaderRecord → NameRange → NameRange → NameRange → HeaderFields
header_fields header backing_name backing_format data_file = record {
  version = header.v2.version;
  cluster_bits = header.v2.cluster_bits;
  refcount_order = header.base.refcount_order;
  crypt_method = header.v2.crypt_method;
  size = header.v2.size;
  l1_offset = header.v2.l1_table_offset;
  reftable_offset = header.v2.refcount_table_offset;
  l1_entries = header.v2.l1_size;
  reftable_clusters = header.v2.refcount_table_clusters;
  incompatible_features = header.base.incompatible_features;
  compatible_features = header.base.compatible_features;
  autoclear_features = header.base.autoclear_features;
  snapshots_offset = header.v2.snapshots_offset;
  snapshots = header.v2.nb_snapshots;
  backing_name = backing_name;
  backing_format = backing_format;
  data_file = data_file;
}

-- the fields are those of a header, and its names lie in the image's first cluster where the fields say
pub record SaysHeader (image : Image) (header : HeaderRecord) (fields : HeaderFields) : Type 0 where
  pub numbers : fields ≡ header_fields header fields.backing_name fields.backing_format fields.data_file
  pub backing_name : IsNameAt image (2 ^ header.v2.cluster_bits) header.backing_filename fields.backing_name
  pub backing_format : IsNameAt image (2 ^ header.v2.cluster_bits) (first_by (name_in kind.BackingFileFormat) header.extensions) fields.backing_format
  pub data_file : IsNameAt image (2 ^ header.v2.cluster_bits) (first_by (name_in kind.ExternalDataFileName) header.extensions) fields.data_file

-- the answer has the fields of the header that the bytes have by the grammar, or the fault that they are refused by, unless
-- memory ran out
abbrev pub ReadsHeader : List ℕ → Result HeaderFields Fault → Type 0
ReadsHeader bytes answer =
    MatchResult answer (λ fields. IsOkAnd (header_in bytes) (λ header. SaysHeader (image_of bytes) header fields))
    (λ fault. (fault ≡ NoMemory) ⊎ (header_in bytes ≡ Err fault))

-- the incompatible features of these fields from bit 4 on, which no accepted header has
abbrev pub unknown_features : HeaderFields → ℕ
unknown_features fields = fields.incompatible_features / 2 ^ 4 * 2 ^ 4

-- what the meaning of an entry depends on, of fields that somebody may have made up: their cluster bits, and whether guest data
-- lies in an external data file; or why no header has them
abbrev pub geometry_in : HeaderFields → Result Geometry Fault
geometry_in fields = after_conditions (
    (nat_le 9 fields.cluster_bits && nat_le fields.cluster_bits 21, ClusterSize)
    ∷ (unknown_features fields == 0, Incompatible (unknown_features fields))
    ∷ []) (λ _.
    Ok (geometry fields.cluster_bits (field fields.incompatible_features external_data_file_bit 1 == 1)))
