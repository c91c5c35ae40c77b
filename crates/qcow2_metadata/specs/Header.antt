-- What does the header of an image say, and which header does a new image have?
pub mod BitmapCount
pub mod Chain
pub mod EncryptionHeader
pub mod Extensions
pub mod Features
pub mod Grammar
pub mod Marks
pub mod Open
pub mod Pointers
pub mod Text
pub mod Update
use Rattle.std.specs.Prelude.{◌≡◌, ◌⊎◌, All, ℕ, Bool, true, false, not, nat_eq, nat_le, ◌||◌, ◌&&◌, ◌==◌, ◌+◌, ◌-◌, ◌*◌, ◌%◌, ◌^◌, ◌≤◌, List, [], ◌∷◌, ◌++◌, map, codes, Option, Some, None, IfSome, is_some, if◌then◌else◌, option_to_list, slice_get, slice_index}
use Rattle.std.specs.Cmp.Lexicographic.{pointwise}
use Rattle.std.specs.List.{list_all, list_any}
use Rattle.std.specs.Str.{IsUtf8}
use Rattle.qcow2_base.specs.Format.{external_data_file_bit}
use Rattle.qcow2_base.specs.Bits.{field}
use Rattle.qcow2_base.specs.Types.{IsClusterBits}
use Rattle.qcow2_base.specs.declared.fault.UncountedPart.{UncountedPart}
use Rattle.qcow2_base.specs.declared.fault.UncountedPart.TheVariants.{Bitmaps, Encryption, Snapshots}
use Rattle.qcow2_base.specs.declared.on_disk_struct.v2_header.V2Header.{V2Header}
use Rattle.qcow2_base.specs.declared.on_disk_struct.v3_header_base.V3HeaderBase.{V3HeaderBase}
use Rattle.qcow2_base.specs.declared.types.ClusterCount.{ClusterCount}
use Rattle.qcow2_base.specs.declared.types.HostCluster.{HostCluster}
use Rattle.qcow2_metadata.specs.Header.EncryptionHeader.{encryption_by, encryption_type}
use Rattle.qcow2_metadata.specs.Header.Extensions.{Extension, FeatureNameTable, FeatureNames, IsStorable, is_unknown, TextOf, name_in}
use Rattle.qcow2_metadata.specs.Header.Features.{autoclear_bit, incompatible_bit}
use Rattle.qcow2_metadata.specs.declared.header.extensions.HeaderExtensionType.TheVariants as kind
use Rattle.qcow2_metadata.specs.declared.header.features.AcceptedFeatures.{AcceptedFeatures}
use Rattle.qcow2_metadata.specs.declared.header.features.AutoclearFeatures.TheVariants as autoclear
use Rattle.qcow2_metadata.specs.declared.header.features.FeatureType.TheVariants.{Incompatible, Compatible, Autoclear}
use Rattle.qcow2_metadata.specs.declared.header.features.IncompatibleFeatures.{IncompatibleFeatures}
use Rattle.qcow2_metadata.specs.declared.header.features.IncompatibleFeatures.TheVariants.{CompressionType, Corrupt, Dirty, ExternalDataFile}

-- what a header says: the two fixed parts, the bytes between these and the extensions, the backing file's
-- name, which is text, and the extensions without End. In version 2 there is no second part, and this is as
-- default_base says
pub record HeaderRecord : Type 0 where
  pub v2 : V2Header
  pub base : V3HeaderBase
  pub unknown_header_fields : List ℕ
  pub backing_filename : Option (List ℕ)
  pub extensions : List Extension

-- "QFI", and a byte that is no text
abbrev pub magic : ℕ
magic = 0x514649fb

-- the second part of an image of version 2
abbrev pub default_base : V3HeaderBase
default_base = record {
  incompatible_features = 0;
  compatible_features = 0;
  autoclear_features = 0;
  refcount_order = 4;
  header_length = 104;
}

-- all names that extensions say, in order
abbrev pub names_by : (Extension → Option (List ℕ)) → List Extension → List (List ℕ)
names_by name_in [] = []
names_by name_in (extension ∷ extensions) = option_to_list (name_in extension) ++ names_by name_in extensions

-- the first of them
abbrev pub first_by : (Extension → Option (List ℕ)) → List Extension → Option (List ℕ)
first_by name_in extensions = slice_get (names_by name_in extensions) 0

-- whether all names are the first one
abbrev pub all_same : List (List ℕ) → Bool
all_same [] = true
all_same (first ∷ names) = list_all (pointwise nat_eq first) names

-- whether guest data lies in another file, which an incompatible feature says
abbrev pub uses_external_data : HeaderRecord → Bool
uses_external_data header = field header.base.incompatible_features external_data_file_bit 1 == 1

-- whether the image has an incompatible feature
abbrev pub has_feature : IncompatibleFeatures → V3HeaderBase → Bool
has_feature feature base = field base.incompatible_features (incompatible_bit feature) 1 == 1

-- no feature, and each one that can be accepted
abbrev pub no_feature : AcceptedFeatures
no_feature = record { dirty = false; corrupt = false; compression_type = false }

abbrev pub each_feature : AcceptedFeatures
each_feature = record { dirty = true; corrupt = true; compression_type = true }

-- the bit of a feature where it is accepted and the image has it
abbrev pub accepted_feature : Bool → IncompatibleFeatures → V3HeaderBase → ℕ
accepted_feature is_accepted feature base =
    if is_accepted && has_feature feature base then 2 ^ incompatible_bit feature else 0

-- the incompatible features but the external data file and those that are accepted
abbrev pub other_features : AcceptedFeatures → V3HeaderBase → ℕ
other_features accepted base =
    base.incompatible_features
    - accepted_feature true ExternalDataFile base
    - accepted_feature accepted.dirty Dirty base
    - accepted_feature accepted.corrupt Corrupt base
    - accepted_feature accepted.compression_type CompressionType base

-- the number of the compression type: the byte at 104, the first of the unknown fields, and 0 where the header ends before it
abbrev pub compression_type : List ℕ → ℕ
compression_type unknown_header_fields = slice_index unknown_header_fields 0

-- whether that is a type there is: 1 exactly where the feature says so, else 0
abbrev pub is_compression : V3HeaderBase → List ℕ → Bool
is_compression base unknown_header_fields =
    compression_type unknown_header_fields == (if has_feature CompressionType base then 1 else 0)

-- a header with these parts has no other features than those that are accepted, and a compression type there is
pub record Accepts (accepted : AcceptedFeatures) (base : V3HeaderBase) (unknown_header_fields : List ℕ) : Type 0 where
  pub features : other_features accepted base ≡ 0
  pub compression : accepted.compression_type ≡ true → is_compression base unknown_header_fields ≡ true

-- the type of the extension that says where bitmaps lie
abbrev pub bitmaps_type : ℕ
bitmaps_type = 0x23852875

-- the kind of encryption that is called LUKS. It keeps its keys in clusters, and later kinds may do so too
abbrev pub luks_method : ℕ
luks_method = 2

-- the clusters of the encryption header: the first and how many, as an extension names them
abbrev pub encryption_clusters : HeaderRecord → Option (HostCluster × ClusterCount)
encryption_clusters header = encryption_by header.v2.cluster_bits header.extensions

-- whether an image has bitmaps that agree with its disk. Others refer to nothing
abbrev pub has_bitmaps : HeaderRecord → Bool
has_bitmaps header = field header.base.autoclear_features (autoclear_bit autoclear.Bitmaps) 1 == 1
    && list_any (is_unknown bitmaps_type) header.extensions

-- whether it may keep keys in clusters that are none of its encryption header's
abbrev pub hides_keys : HeaderRecord → Bool
hides_keys header = (nat_le luks_method header.v2.crypt_method || list_any (is_unknown encryption_type) header.extensions)
    && not (header.v2.crypt_method == luks_method && is_some (encryption_clusters header))

-- the first part of an image that refers to clusters and that isn't read here, if it has one
unfoldable pub uncounted_part : HeaderRecord → Option UncountedPart
uncounted_part header =
    if not (header.v2.nb_snapshots == 0) then Some Snapshots
    else if has_bitmaps header then Some Bitmaps
    else if hides_keys header then Some Encryption
    else None

-- what features are called in new images
abbrev pub known_names : FeatureNames
known_names =
    ((Incompatible, 0), codes "dirty")
    ∷ ((Incompatible, 1), codes "corrupt")
    ∷ ((Incompatible, 2), codes "external data file")
    ∷ ((Incompatible, 3), codes "extended compression type")
    ∷ ((Incompatible, 4), codes "extended L2 entries")
    ∷ ((Compatible, 0), codes "lazy refcounts")
    ∷ ((Autoclear, 0), codes "persistent dirty bitmaps")
    ∷ ((Autoclear, 1), codes "raw external data file")
    ∷ []

-- the header of an image that is to be made: version 3, no tables yet, and a header length that is set when
-- it is written
abbrev pub new_header : ℕ → ℕ → Option (List ℕ) → Option (List ℕ) → Option (List ℕ) → HeaderRecord
new_header cluster_bits refcount_order backing_filename backing_format data_file = record {
  v2 = record {
    magic = magic;
    version = 3;
    backing_file_offset = 0;
    backing_file_size = 0;
    cluster_bits = cluster_bits;
    size = 0;
    crypt_method = 0;
    l1_size = 0;
    l1_table_offset = 0;
    refcount_table_offset = 0;
    refcount_table_clusters = 0;
    nb_snapshots = 0;
    snapshots_offset = 0;
  };
  base = record {
    incompatible_features = (if is_some data_file then 2 ^ external_data_file_bit else 0);
    compatible_features = 0;
    autoclear_features = 0;
    refcount_order = refcount_order;
    header_length = 0;
  };
  unknown_header_fields = [];
  backing_filename = backing_filename;
  extensions = FeatureNameTable known_names
      ∷ map (TextOf kind.BackingFileFormat) (option_to_list backing_format)
      ++ map (TextOf kind.ExternalDataFileName) (option_to_list data_file);
}

-- what holds of every header, whether it was made or loaded
pub record IsValidHeader (header : HeaderRecord) : Type 0 where
  pub magic : header.v2.magic ≡ magic
  pub version : (header.v2.version ≡ 2) ⊎ (header.v2.version ≡ 3)
  pub cluster_bits : IsClusterBits header.v2.cluster_bits
  pub refcount_order : header.base.refcount_order ≤ 6
  pub l1_table_aligned : header.v2.l1_table_offset % 2 ^ header.v2.cluster_bits ≡ 0
  pub reftable_aligned : header.v2.refcount_table_offset % 2 ^ header.v2.cluster_bits ≡ 0
  pub features : other_features each_feature header.base ≡ 0
  pub one_format : all_same (names_by (name_in kind.BackingFileFormat) header.extensions) ≡ true
  pub one_data_file : all_same (names_by (name_in kind.ExternalDataFileName) header.extensions) ≡ true
  pub backing_filename : IfSome header.backing_filename IsUtf8
  pub storable : All IsStorable header.extensions
  pub older : header.v2.version ≡ 2
      → (header.base ≡ default_base) × (header.unknown_header_fields ≡ []) × (header.extensions ≡ [])

-- what the meaning of an entry depends on: a cluster has 2 ^ cluster_bits bytes, and guest data lies in the
-- image or in an external data file
pub record Geometry : Type 0 where
  pub cluster_bits : ℕ
  pub external_data_file : Bool

-- these cluster bits, with or without an external data file
abbrev pub geometry : ℕ → Bool → Geometry
geometry cb external = record { cluster_bits = cb; external_data_file = external }

-- that of an image with this header
abbrev pub geometry_of : HeaderRecord → Geometry
geometry_of header = geometry header.v2.cluster_bits (uses_external_data header)
