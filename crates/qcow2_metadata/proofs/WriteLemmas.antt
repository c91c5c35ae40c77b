use Rattle.std.proofs.lemmas.Bool.Decides.{nat_tests}
use Rattle.std.proofs.Common.{◌≡◌, ℕ, ◌^◌, List, [], ◌∷◌, length, map, refl, ap, ◌∙◌, subst, inl, inr, arith, true, false, nat_le, Option, Ok, All, ◌⊎◌, Bool, not, sym, Some}
use Rattle.std.specs.List.{flat_map, filter}
use Rattle.std.proofs.lemmas.Bool.{cases_Bool}
use Rattle.std.proofs.lemmas.List.{append-nil, length-append, length-map}
use Rattle.std.proofs.lemmas.List.Elements.{All-filter, All-weaker}
use Rattle.qcow2_base.specs.declared.on_disk_struct.v2_header.V2Header.{V2Header}
use Rattle.qcow2_metadata.specs.Header.{HeaderRecord, IsValidHeader, each_feature, names_by, other_features}
use Rattle.qcow2_metadata.specs.Header.Extensions.{Extension, IsStorable, data_of, normal_extension, type_number, extension_of, name_in}
use Rattle.qcow2_metadata.specs.Header.Text.{IsSettled, header_to_write, extension_text, extensions_text, fits_first_cluster, header_end, header_text, is_other, is_short, header_after_write, header_read_back, padded_bytes, parts_text, header_with_places, placed_base, placed_v2, v2_with_name, AreFitting, IsLayout, IsWrittenHeader, base_with_length, chosen_extensions, chosen_text, name_place}
use Rattle.qcow2_metadata.proofs.FeatureNamesLemmas.{name_chunks_len, normal_extensions-once, normal_named, storable-reads_back}
use Rattle.qcow2_metadata.proofs.TextLemmas.{length-padded, text-header}
use Rattle.std.specs.Prelude.{Err}
use Rattle.qcow2_base.specs.OnDiskStruct.{v2_header, v3_header_base}
use Rattle.qcow2_base.specs.Storage.{Holds, Image, OnlyWrites, StorageState}
use Rattle.qcow2_base.specs.declared.fault.Fault.{Fault}
use Rattle.qcow2_base.specs.declared.fault.Fault.TheVariants.{HeaderTooLong, NameTooLong}
use Rattle.qcow2_base.specs.declared.on_disk_struct.v3_header_base.V3HeaderBase.{V3HeaderBase}
use Rattle.qcow2_metadata.specs.declared.header.text.Layout.{Layout}
use Rattle.qcow2_metadata.proofs.ExtensionsLemmas.{ReadsBack}
use Rattle.qcow2_metadata.specs.declared.header.extensions.HeaderExtension.{HeaderExtension}
use Rattle.qcow2_metadata.specs.declared.header.extensions.HeaderExtensionType.{HeaderExtensionType}
use Rattle.qcow2_metadata.specs.declared.header.extensions.HeaderExtensionType.TheVariants as kind
use Rattle.qcow2_metadata.specs.declared.header.features.AcceptedFeatures.{AcceptedFeatures}

-- padded bytes need no padding
pub padded-once : (bytes : List ℕ) → padded_bytes (padded_bytes bytes) ≡ padded_bytes bytes
padded-once bytes = grind (arith, nat_tests, length-padded, append-nil)

-- an extension as it reads back has as much data
length-normal_data : (extension : Extension)
    → length (data_of (normal_extension extension)) ≡ length (data_of extension)
length-normal_data extension = grind (arith, nat_tests, normal_named, name_chunks_len, length-map)

-- and its number
number_of-normal : (extension : Extension) → type_number (normal_extension extension) ≡ type_number extension
number_of-normal extension = grind (arith, nat_tests)

-- its text is as long
length-normal_text : (extension : Extension)
    → length (extension_text (normal_extension extension)) ≡ length (extension_text extension)
length-normal_text extension = grind (arith, nat_tests, length-normal_data, number_of-normal, length-padded, length-append)

-- and so are those of all
length-flat_map-normal : (extensions : List Extension)
    → length (flat_map extension_text (map normal_extension extensions))
    ≡ length (flat_map extension_text extensions)
length-flat_map-normal [] = refl
length-flat_map-normal (extension ∷ extensions) =
    grind (arith, nat_tests, length-normal_text, length-append, length-flat_map-normal extensions)

-- with End too
length-normal_texts : (extensions : List Extension)
    → length (extensions_text (map normal_extension extensions)) ≡ length (extensions_text extensions)
length-normal_texts extensions = grind (arith, nat_tests, length-flat_map-normal, length-append)

-- a place of the name changes nothing else that the first part says
pub record KeepsV2 (old new : V2Header) : Type 0 where
  pub magic : new.magic ≡ old.magic
  pub version : new.version ≡ old.version
  pub cluster_bits : new.cluster_bits ≡ old.cluster_bits
  pub l1_table_offset : new.l1_table_offset ≡ old.l1_table_offset
  pub refcount_table_offset : new.refcount_table_offset ≡ old.refcount_table_offset

pub v2_with_name-keeps : (v2 : V2Header) (place : ℕ) (name : Option (List ℕ)) → KeepsV2 v2 (v2_with_name v2 place name)
v2_with_name-keeps v2 place name = grind (arith, nat_tests)

-- a header with its places ends where it ends without them
header_end-placed : (header : HeaderRecord) → header_end (header_with_places header) ≡ header_end header
header_end-placed header = grind arith

-- its first part has its place
placed_v2-placed : (header : HeaderRecord) → placed_v2 (header_with_places header) ≡ placed_v2 header
placed_v2-placed header = grind (arith, header_end-placed header)

-- its second part has its length
placed_base-placed : (header : HeaderRecord) → placed_base (header_with_places header) ≡ placed_base header
placed_base-placed header = grind (arith, header_end-placed header)

-- so it keeps its places
placed-placed : (header : HeaderRecord) → header_with_places (header_with_places header) ≡ header_with_places header
placed-placed header = grind (arith, nat_tests, placed_v2-placed, placed_base-placed)

-- and its text is the same
pub header_text-placed : (header : HeaderRecord) → header_text (header_with_places header) ≡ header_text header
unfolding header_text
header_text-placed header = grind (arith, placed_v2-placed header, placed_base-placed header)

-- which fits where it fits without the places
fits-placed : (header : HeaderRecord) → fits_first_cluster (header_with_places header) ≡ fits_first_cluster header
fits-placed header = grind (arith, nat_tests, v2_with_name-keeps, header_text-placed)

-- what a header reads back as ends where the header ends
header_end-normal : (header : HeaderRecord) → header_end (header_read_back header) ≡ header_end header
header_end-normal header = grind (arith, padded-once header.unknown_header_fields)

-- its first part has the same place
placed_v2-normal : (header : HeaderRecord) → placed_v2 (header_read_back header) ≡ placed_v2 header
placed_v2-normal header = grind (arith, nat_tests, length-normal_texts, header_end-normal)

-- its second part has the same length
placed_base-normal : (header : HeaderRecord) → placed_base (header_read_back header) ≡ placed_base header
placed_base-normal header = grind (arith, header_end-normal header)

-- so its places are those of the header
placed-normal : (header : HeaderRecord) → header_with_places (header_read_back header) ≡ header_read_back (header_with_places header)
placed-normal header = grind (arith, nat_tests, placed_v2-normal, placed_base-normal)

-- the same comes before its extensions
parts_text-normal : (header : HeaderRecord) → parts_text (header_read_back header) ≡ parts_text header
parts_text-normal header = grind (arith, nat_tests, padded-once, placed_v2-normal, placed_base-normal)

-- and its text is as long
length-normal_header : (header : HeaderRecord)
    → length (header_text (header_read_back header)) ≡ length (header_text header)
unfolding header_text
length-normal_header header = grind (arith, nat_tests, parts_text-normal, length-normal_texts, length-append)

-- so it fits where the header fits
fits-normal : (header : HeaderRecord) → fits_first_cluster (header_read_back header) ≡ fits_first_cluster header
fits-normal header = ap (λ (n : ℕ). nat_le n (2 ^ header.v2.cluster_bits)) (length-normal_header header)

-- a header that fits is kept with its places
kept-fits : (header : HeaderRecord) → is_short header.backing_filename ≡ true → fits_first_cluster header ≡ true
    → header_after_write header ≡ Ok (header_with_places header)
unfolding header_after_write
kept-fits header short fit = rw (short, fit) refl

-- and so it is settled
settled-fits : (header : HeaderRecord) → is_short header.backing_filename ≡ true → fits_first_cluster header ≡ true
    → All IsStorable header.extensions → IsSettled (header_with_places header)
settled-fits header short fit all =
    let written = header_with_places header in
    let fit_again : fits_first_cluster written ≡ true = fits-placed header ∙ fit in
    let places = placed-placed header in
    record {
      again = kept-fits written short fit_again ∙ ap Ok places;
      normal_again = kept-fits (header_read_back written) short (fits-normal written ∙ fit_again)
          ∙ ap Ok (placed-normal written ∙ ap header_read_back places);
      normal_once = λ i. record written {
        unknown_header_fields = padded-once header.unknown_header_fields i;
        extensions = normal_extensions-once header.extensions all i;
      };
    }

-- a header as a write leaves it is settled
pub kept-settled : (header written : HeaderRecord) → All IsStorable header.extensions
    → header_after_write header ≡ Ok written → IsSettled written
unfolding header_after_write
kept-settled header written all is =
    elim (cases_Bool (is_short header.backing_filename)) [
      | inl short ↦ elim (cases_Bool (fits_first_cluster header)) [
        | inl fit ↦
            let same : header_with_places header ≡ written = grind arith in
            subst IsSettled same (settled-fits header short fit all)
        | inr big ↦ elim (cases_Bool (fits_first_cluster (header_to_write false header))) [
          | inl fit ↦
              let same : header_with_places (header_to_write false header) ≡ written = grind arith in
              let others = All-filter is_other IsStorable header.extensions all in
              subst IsSettled same (settled-fits (header_to_write false header) short fit others)
          | inr more ↦ grind arith
        ]
      ]
      | inr long ↦ grind arith
    ]

-- without tables of feature names the names are the same
filter-names_by : (type : HeaderExtensionType) (extensions : List Extension)
    → names_by (name_in type) (filter is_other extensions) ≡ names_by (name_in type) extensions
filter-names_by type [] = refl
filter-names_by type (extension ∷ extensions) = grind (arith, nat_tests, filter-names_by type extensions)

-- the names are the same, whether such tables are written or not
chosen-names_by : (with_names : Bool) (type : HeaderExtensionType) (extensions : List Extension)
    → names_by (name_in type) (chosen_extensions with_names extensions) ≡ names_by (name_in type) extensions
chosen-names_by true type extensions = refl
chosen-names_by false type extensions = filter-names_by type extensions

-- what is written can be stored
pub chosen-storable : (with_names : Bool) (extensions : List Extension) → All IsStorable extensions
    → All IsStorable (chosen_extensions with_names extensions)
chosen-storable true extensions storable = storable
chosen-storable false extensions storable = All-filter is_other IsStorable extensions storable

-- a length changes nothing else that the second part says
base_with_length-keeps : (version : ℕ) (base : V3HeaderBase) (len : ℕ)
    → ((base_with_length version base len).refcount_order ≡ base.refcount_order)
    × ((accepted : AcceptedFeatures) → other_features accepted (base_with_length version base len) ≡ other_features accepted base)
base_with_length-keeps version base len =
    let same : (base_with_length version base len).incompatible_features ≡ base.incompatible_features = grind (arith, nat_tests) in (
      grind (arith, nat_tests),
      λ accepted. ap (λ features. other_features accepted (record base { incompatible_features = features })) same,
    )

-- the second part stays in version 2
older-base : (version : ℕ) (base : V3HeaderBase) (len : ℕ) → version ≡ 2 → base_with_length version base len ≡ base
older-base version base len two = rw two refl

-- of no extensions none are written
chosen-nil : (with_names : Bool) (extensions : List Extension) → extensions ≡ []
    → chosen_extensions with_names extensions ≡ []
chosen-nil with_names extensions none = grind (arith, nat_tests)

-- the header that is written is valid
pub placed-valid : (with_names : Bool) (header : HeaderRecord) → IsValidHeader header
    → IsValidHeader (header_with_places (header_to_write with_names header))
placed-valid with_names header valid =
    let written = header_to_write with_names header in
    let v2 = v2_with_name-keeps header.v2 (name_place written) header.backing_filename in
    let base = base_with_length-keeps header.v2.version header.base (header_end written) in
    record {
      magic = v2.magic ∙ valid.magic;
      version = rw v2.version valid.version;
      cluster_bits = rw v2.cluster_bits valid.cluster_bits;
      refcount_order = rw base.0 valid.refcount_order;
      l1_table_aligned = rw (v2.cluster_bits, v2.l1_table_offset) valid.l1_table_aligned;
      reftable_aligned = rw (v2.cluster_bits, v2.refcount_table_offset) valid.reftable_aligned;
      features = base.1 each_feature ∙ valid.features;
      one_format = rw (chosen-names_by with_names kind.BackingFileFormat header.extensions) valid.one_format;
      one_data_file = rw (chosen-names_by with_names kind.ExternalDataFileName header.extensions) valid.one_data_file;
      backing_filename = valid.backing_filename;
      storable = chosen-storable with_names header.extensions valid.storable;
      older = λ two.
          let is : header.v2.version ≡ 2 = sym v2.version ∙ two in
          let none = valid.older is in (
            older-base header.v2.version header.base (header_end written) is ∙ none.0,
            none.1,
            chosen-nil with_names header.extensions none.2,
          );
    }

-- the extensions that are kept in memory are those that are written
pub kept-extensions : (held : List HeaderExtension)
    → map extension_of (filter (λ extension. is_other (extension_of extension)) held) ≡ filter is_other (map extension_of held)
kept-extensions [] = refl
kept-extensions (extension ∷ held) = grind (arith, nat_tests, kept-extensions held)

-- what isn't so
pub not_true : (test : Bool) → not test ≡ true → test ≡ false
not_true test is = grind (arith, nat_tests)

-- why a header isn't written
pub kept-fault : (header : HeaderRecord) (fault : Fault) → header_after_write header ≡ Err fault
    → (fault ≡ NameTooLong) ⊎ (fault ≡ HeaderTooLong)
unfolding header_after_write
kept-fault header fault is = grind arith

-- the text that a write places
pub chosen_text-placed : (header written : HeaderRecord) → header_after_write header ≡ Ok (header_with_places written)
    → chosen_text header ≡ header_text written
chosen_text-placed header written is = rw (is, chosen_text) (header_text-placed written)

-- the second part that is written fits
base-fits : (with_names : Bool) (header : HeaderRecord) (layout : Layout) → IsValidHeader header
    → IsLayout (header_to_write with_names header) layout
    → (header.v2.version ≡ 3 → AreFitting (v3_header_base layout.base)) → AreFitting (v3_header_base layout.base)
base-fits with_names header layout valid is fits = grind (arith, nat_tests, older-base)

-- a header whose text is in an image is written there
pub written-header : (image : Image) (header : HeaderRecord) (layout : Layout) → IsValidHeader header
    → IsLayout (header_to_write layout.with_names header) layout
    → header_after_write header ≡ Ok (header_with_places (header_to_write layout.with_names header)) → AreFitting (v2_header layout.v2)
    → (header.v2.version ≡ 3 → AreFitting (v3_header_base layout.base))
    → Holds image 0 (header_text (header_to_write layout.with_names header))
    → IsWrittenHeader image (header_with_places (header_to_write layout.with_names header))
written-header image header layout valid is written_is v2 base held =
    let written = header_to_write layout.with_names header in
    let after = placed-valid layout.with_names header valid in
    let settled = kept-settled header (header_with_places written) valid.storable written_is in
    let back = All-weaker IsStorable ReadsBack storable-reads_back written.extensions after.storable in
    let fits_v2 = subst (λ (part : V2Header). AreFitting (v2_header part)) is.v2 v2 in
    let fits_base = subst (λ (part : V3HeaderBase). AreFitting (v3_header_base part)) is.base
    (base-fits layout.with_names header layout valid is base) in
    let text = subst (Holds image 0) (sym (header_text-placed written)) held in
    record {
      text = text;
      reads_back = λ accepted. text-header accepted image (header_with_places written) after back fits_v2 fits_base after.backing_filename settled.again text;
    }

-- a write that is refused touches nothing
pub refused-writes : (fault : Fault) (len : ℕ) (state : StorageState) → (fault ≡ NameTooLong) ⊎ (fault ≡ HeaderTooLong)
    → OnlyWrites {T = Unit {0}} (Err fault) (Some 0) len state state
refused-writes fault len state why = grind (arith, nat_tests)
