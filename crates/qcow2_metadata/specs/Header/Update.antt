-- In which fields may two headers of one image differ, and what does one take over from the other?
use Rattle.std.specs.Prelude.{◌≡◌, ℕ, Bool, false, ◌==◌, List, [], ◌∷◌, ◌++◌, All, Option}
use Rattle.std.specs.Bool.{beq}
use Rattle.std.specs.Cmp.Lexicographic.{pointwise}
use Rattle.std.specs.Option.{option_eq}
use Rattle.std.specs.Str.{bytes_eq}
use Rattle.qcow2_base.specs.declared.fault.Fault.{Fault}
use Rattle.qcow2_base.specs.declared.fault.Fault.TheVariants.{FieldChanged}
use Rattle.qcow2_base.specs.declared.fault.Field.{Field}
use Rattle.qcow2_base.specs.declared.fault.Field.TheVariants as field
use Rattle.qcow2_metadata.specs.Header.{HeaderRecord, uses_external_data}
use Rattle.qcow2_metadata.specs.Header.Extensions.{Extension, same_extension}

-- what a header says in one of its fields
pub data FieldValue : Type 0 where
  Number : ℕ → FieldValue
  Bytes : List ℕ → FieldValue
  Name : Option (List ℕ) → FieldValue
  Extensions : List Extension → FieldValue
  Flag : Bool → FieldValue

-- what a header says in this field
abbrev pub value_in : Field → HeaderRecord → FieldValue
value_in field.Magic header = Number header.v2.magic
value_in field.Version header = Number header.v2.version
value_in field.BackingOffset header = Number header.v2.backing_file_offset
value_in field.BackingSize header = Number header.v2.backing_file_size
value_in field.ClusterBits header = Number header.v2.cluster_bits
value_in field.CryptMethod header = Number header.v2.crypt_method
value_in field.NbSnapshots header = Number header.v2.nb_snapshots
value_in field.SnapshotsOffset header = Number header.v2.snapshots_offset
value_in field.Incompatible header = Number header.base.incompatible_features
value_in field.Compatible header = Number header.base.compatible_features
value_in field.Autoclear header = Number header.base.autoclear_features
value_in field.RefcountOrder header = Number header.base.refcount_order
value_in field.UnknownFields header = Bytes header.unknown_header_fields
value_in field.BackingName header = Name header.backing_filename
value_in field.Extensions header = Extensions header.extensions
value_in field.ExternalData header = Flag (uses_external_data header)

-- two headers say the same in this field
abbrev pub AgreeIn : HeaderRecord → HeaderRecord → Field → Type 0
AgreeIn here there field = value_in field here ≡ value_in field there

-- the fields that an image in use must keep, in the order in which they are compared
abbrev pub kept_fields : List Field
kept_fields =
    field.Magic
    ∷ field.Version
    ∷ field.BackingOffset
    ∷ field.BackingSize
    ∷ field.ClusterBits
    ∷ field.CryptMethod
    ∷ field.NbSnapshots
    ∷ field.SnapshotsOffset
    ∷ field.Incompatible
    ∷ field.Compatible
    ∷ field.Autoclear
    ∷ field.RefcountOrder
    ∷ field.UnknownFields
    ∷ field.BackingName
    ∷ field.Extensions
    ∷ field.ExternalData
    ∷ []

-- whether two headers say the same in a field
abbrev pub same_value : FieldValue → FieldValue → Bool
same_value (Number number) (Number other) = number == other
same_value (Bytes bytes) (Bytes others) = bytes_eq bytes others
same_value (Name name) (Name other) = option_eq bytes_eq name other
same_value (Extensions extensions) (Extensions others) = pointwise same_extension extensions others
same_value (Flag flag) (Flag other) = beq flag other
same_value _ _ = false

-- the fault names the first of the fields in which the headers differ
pub record IsFirstChange (here there : HeaderRecord) (fault : Fault) : Type 0 where
  pub field : Field
  pub before : List Field
  pub after : List Field
  pub order : kept_fields ≡ before ++ (field ∷ after)
  pub agree : All (AgreeIn here there) before
  pub differ : ¬ (AgreeIn here there field)
  pub named : fault ≡ FieldChanged field

-- this header with the disk's size and the tables of the other
abbrev pub with_size_and_tables : HeaderRecord → HeaderRecord → HeaderRecord
with_size_and_tables here there = record here {
  v2 = record here.v2 {
    size = there.v2.size;
    l1_size = there.v2.l1_size;
    l1_table_offset = there.v2.l1_table_offset;
    refcount_table_offset = there.v2.refcount_table_offset;
    refcount_table_clusters = there.v2.refcount_table_clusters;
  };
}
