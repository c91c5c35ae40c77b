use Rattle.std.proofs.Common.{◌≡◌, ◌≢◌, ◌⊎◌, inl, inr, ℕ, ◌<◌, ◌≤◌, ◌==◌, true, false, List, Option, Some, None, if◌then◌else◌, length, Result, Ok, Err, IsOkAnd, refl, ap, sym, ◌∙◌, ◌^◌, arith}
use Rattle.std.proofs.lemmas.Bool.Decides.{nat_tests}
use Rattle.std.proofs.Math.Pow.{pow_mono}
use Rattle.qcow2_base.specs.OnDiskStruct.{HoldsLayout, v2_header}
use Rattle.qcow2_base.specs.Storage.{Image, StorageState, image_from, image_of}
use Rattle.qcow2_base.specs.Types.{IsClusterBits}
use Rattle.qcow2_base.specs.declared.fault.Fault.{Fault}
use Rattle.qcow2_base.specs.declared.fault.Fault.TheVariants.{HeaderTooLong, NoMemory, Storage}
use Rattle.qcow2_base.specs.declared.on_disk_struct.v2_header.V2Header.{V2Header}
use Rattle.qcow2_base.specs.declared.on_disk_struct.v3_header_base.V3HeaderBase.{V3HeaderBase}
use Rattle.qcow2_metadata.specs.Header.{HeaderRecord, each_feature, first_by}
use Rattle.qcow2_metadata.specs.Header.Grammar.{HasExtensions, IsAcceptedHeader, IsBackingName, IsBase, IsHeaderFault, accepted_header, v2_at}
use Rattle.qcow2_metadata.specs.Header.Extensions.{name_in}
use Rattle.qcow2_metadata.specs.declared.header.extensions.HeaderExtensionType.TheVariants as types
use Rattle.qcow2_metadata.specs.Header.Open.{LoadsAccepted, header_after_load}
use Rattle.qcow2_metadata.specs.Results.{IsFromOutside, Reads}
use Rattle.qcow2_metadata.specs.declared.header.features.AcceptedFeatures.{AcceptedFeatures}
use Rattle.qcow2_metadata.proofs.GrammarLemmas.{IsBase-base_at, accepted_header-is, holds-v2_at}
use Rattle.qcow2_bytes.specs.Header.{IsNameAt, SaysHeader, any_header_of, first_cluster_size, header_in, no_name}
use Rattle.qcow2_bytes.specs.declared.header.HeaderFields.{HeaderFields}
use Rattle.qcow2_bytes.specs.declared.header.NameRange.{NameRange}

-- an image that begins with bytes has them
pub image-begin : (bytes : List ℕ) → image_from 0 bytes ≡ image_of bytes
image-begin bytes = λ i o. same o i
  where
    same : (o : ℕ) → image_from 0 bytes o ≡ image_of bytes o
    same o = grind (arith, nat_tests)

-- who only reads a header gets what was read
read_only : (read : Result HeaderRecord Fault) → header_after_load false read ≡ read
read_only (Ok header) = refl
read_only (Err fault) = refl

read-fault : (fault : Fault) → (IsHeaderFault fault ⊎ ((false ≡ true) × (fault ≡ HeaderTooLong))) ⊎ IsFromOutside fault
    → IsHeaderFault fault ⊎ IsFromOutside fault
read-fault fault (inr outside) = inr outside
read-fault fault (inl (inl is)) = inl is
read-fault fault (inl (inr written)) = cc

pub loaded-read : (accepted : AcceptedFeatures) (answer : Result HeaderRecord Fault) (old new : StorageState)
    → LoadsAccepted accepted false answer old new
    → Reads (λ header. header) answer (accepted_header accepted) IsHeaderFault old new
loaded-read accepted (Ok header) old new loads = record {
  exact = λ told. rw (read_only (accepted_header accepted old.byte_at)) at (loads.exact told);
  faults = tt;
  storage = loads.storage.reads refl;
}
loaded-read accepted (Err fault) old new loads = record {
  exact = λ told. rw (read_only (accepted_header accepted old.byte_at)) at (loads.exact told);
  faults = read-fault fault loads.faults;
  storage = loads.storage.reads refl;
}

-- a refusal that no storage makes
pub kept-fault : {V : Type 0} (expected : Result V Fault) (fault result : Fault)
    → (fault ≡ Storage) ⊎ (fault ≡ NoMemory) ⊎ (expected ≡ Err fault)
    → (result ≡ NoMemory) ⊎ ((result ≡ fault) × (fault ≢ Storage))
    → (result ≡ NoMemory) ⊎ (expected ≡ Err result)
kept-fault expected fault result why (inl memory) = inl memory
kept-fault expected fault result (inl storage) (inr same) = absurd (same.1 storage)
kept-fault expected fault result (inr (inl memory)) (inr same) = inl (same.0 ∙ memory)
kept-fault expected fault result (inr (inr refused)) (inr same) = inr (rw same.0 refused)

-- the sizes of clusters
pub cluster_sizes : (cb : ℕ) → IsClusterBits cb → (512 ≤ 2 ^ cb) × (2 ^ cb ≤ 2 ^ 21)
cluster_sizes cb bits = (pow_mono bits.0, pow_mono bits.1)

-- the first part of an image's header is the one that its bytes hold
pub same_v2 : (image : Image) (v2 : V2Header) (header : HeaderRecord) → HoldsLayout image (v2_header v2)
    → IsAcceptedHeader each_feature image header → v2 ≡ header.v2
same_v2 image v2 header held is = sym (holds-v2_at image v2 held) ∙ holds-v2_at image header.v2 is.v2

-- and so is the second
pub same_base : (image : Image) (version : ℕ) (base : V3HeaderBase) (header : HeaderRecord) → version ≡ header.v2.version
    → IsBase image version base → IsAcceptedHeader each_feature image header → base ≡ header.base
same_base image version base header same read is =
    let mine : IsBase image header.v2.version base = rw same at read in
    sym (IsBase-base_at image header.v2.version base is.version mine) ∙ IsBase-base_at image header.v2.version header.base is.version is.base

-- the backing file's name lies where the first part of a header says
pub backing_name-at : (image : Image) (v2 : V2Header) (name : Option (List ℕ)) (range : NameRange)
    → IsClusterBits v2.cluster_bits → IsBackingName image v2 name
    → (v2.backing_file_offset < 2 ^ 32 → range ≡ (if v2.backing_file_offset == 0 then no_name
    else record { offset = v2.backing_file_offset; length = v2.backing_file_size }))
    → IsNameAt image (2 ^ v2.cluster_bits) name range
backing_name-at image v2 None range bits said is = grind (arith, nat_tests)
backing_name-at image v2 (Some name) range bits said is =
    let bound = (cluster_sizes v2.cluster_bits bits).1 in
    grind (arith, nat_tests, bound)

-- the fields that are made of a header's parts and of where its names lie
abbrev pub fields_by : V2Header → V3HeaderBase → NameRange → NameRange → NameRange → HeaderFields
fields_by v2 base backing_name backing_format data_file = record {
  version = v2.version;
  cluster_bits = v2.cluster_bits;
  refcount_order = base.refcount_order;
  crypt_method = v2.crypt_method;
  size = v2.size;
  l1_offset = v2.l1_table_offset;
  reftable_offset = v2.refcount_table_offset;
  l1_entries = v2.l1_size;
  reftable_clusters = v2.refcount_table_clusters;
  incompatible_features = base.incompatible_features;
  compatible_features = base.compatible_features;
  autoclear_features = base.autoclear_features;
  snapshots_offset = v2.snapshots_offset;
  snapshots = v2.nb_snapshots;
  backing_name = backing_name;
  backing_format = backing_format;
  data_file = data_file;
}

-- they are the header's fields
pub fields-say : (image : Image) (header : HeaderRecord) (size : ℕ) (v2 : V2Header) (base : V3HeaderBase)
    (backing_name backing_format data_file : NameRange)
    → v2 ≡ header.v2 → base ≡ header.base → size ≡ 2 ^ header.v2.cluster_bits
    → IsAcceptedHeader each_feature image header
    → (v2.backing_file_offset < 2 ^ 32 → backing_name ≡ (if v2.backing_file_offset == 0 then no_name
    else record { offset = v2.backing_file_offset; length = v2.backing_file_size }))
    → (size ≡ 2 ^ v2.cluster_bits → (v2.version ≡ 2) ⊎ (v2.version ≡ 3) → HasExtensions image v2 base header.extensions
    → IsNameAt image size (first_by (name_in types.BackingFileFormat) header.extensions) backing_format)
    → (size ≡ 2 ^ v2.cluster_bits → (v2.version ≡ 2) ⊎ (v2.version ≡ 3) → HasExtensions image v2 base header.extensions
    → IsNameAt image size (first_by (name_in types.ExternalDataFileName) header.extensions) data_file)
    → SaysHeader image header (fields_by v2 base backing_name backing_format data_file)
fields-say image header size v2 base backing_name backing_format data_file same_v2 same_base is_size is backing format file =
    record {
      numbers = rw (same_v2, same_base) refl;
      backing_name = backing_name-at image header.v2 header.backing_filename backing_name is.cluster_bits is.backing_filename
          (rw same_v2 at backing);
      backing_format = rw is_size at ((rw (same_v2, same_base) at format) is_size is.version is.extensions);
      data_file = rw is_size at ((rw (same_v2, same_base) at file) is_size is.version is.extensions);
    }

-- what is read of the whole first cluster of an image, by the header that the image has
pub reads-header : (bytes : List ℕ) (size : ℕ) (header : HeaderRecord) (fields : HeaderFields)
    → first_cluster_size bytes ≡ Ok size → size ≤ length bytes → any_header_of (image_of bytes) ≡ Ok header
    → ((header : HeaderRecord) → IsAcceptedHeader each_feature (image_of bytes) header → size ≡ 2 ^ header.v2.cluster_bits
    → SaysHeader (image_of bytes) header fields)
    → IsOkAnd (header_in bytes) (λ header. SaysHeader (image_of bytes) header fields)
reads-header bytes size header fields is_size whole read says =
    let is = accepted_header-is each_feature (image_of bytes) header read in
    let v2 = holds-v2_at (image_of bytes) header.v2 is.v2 in
    let bits : size ≡ 2 ^ header.v2.cluster_bits =
    size_by bytes size is_size ∙ ap (λ (v2 : V2Header). 2 ^ v2.cluster_bits) v2 in
    rw (read_by bytes size header is_size whole read) (says header is bits)
  where
    size_by : (bytes : List ℕ) (size : ℕ) → first_cluster_size bytes ≡ Ok size
        → size ≡ 2 ^ (v2_at (image_of bytes)).cluster_bits
    size_by bytes size is = grind (arith, nat_tests)

    read_by : (bytes : List ℕ) (size : ℕ) (header : HeaderRecord) → first_cluster_size bytes ≡ Ok size
        → size ≤ length bytes → any_header_of (image_of bytes) ≡ Ok header → header_in bytes ≡ Ok header
    read_by bytes size header is whole read = rw is (grind (arith, nat_tests, read))
