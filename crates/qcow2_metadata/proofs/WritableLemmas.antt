use Rattle.std.proofs.Common.{◌≡◌, ◌⊎◌, inl, inr, All, ℕ, ◌==◌, Bool, true, false, not, if◌then◌else◌, List, [], ◌∷◌, length, map, Option, Some, None, option_map, Ok, refl, ap, sym, ◌∙◌, subst, arith}
use Rattle.std.specs.Prelude.{◌↔◌, Err, IfOk, IsErrOf, Result}
use Rattle.std.proofs.lemmas.Bool.Decides.{nat_tests}
use Rattle.std.specs.List.{filter, list_any}
use Rattle.qcow2_base.specs.Storage.{Holds, Image, OnImages, OnlyWrites, StorageState}
use Rattle.qcow2_base.specs.declared.fault.Fault.{Fault}
use Rattle.qcow2_base.specs.declared.fault.Fault.TheVariants.{Storage, Uncounted}
use Rattle.qcow2_base.specs.declared.fault.UncountedPart.{UncountedPart}
use Rattle.qcow2_base.specs.declared.fault.UncountedPart.TheVariants.{Bitmaps, Encryption, Snapshots}
use Rattle.qcow2_base.specs.declared.on_disk_struct.v2_header.V2Header.{V2Header}
use Rattle.qcow2_base.specs.declared.on_disk_struct.v3_header_base.V3HeaderBase.{V3HeaderBase}
use Rattle.qcow2_metadata.specs.Header.{Accepts, HeaderRecord, bitmaps_type, encryption_clusters, geometry_of, has_bitmaps, hides_keys, uncounted_part}
use Rattle.qcow2_metadata.specs.Header.EncryptionHeader.{encryption_by, encryption_type}
use Rattle.qcow2_metadata.specs.Header.Extensions.{Extension, IsStorable, is_unknown, normal_extension}
use Rattle.qcow2_metadata.specs.Header.Grammar.{accepted_header}
use Rattle.qcow2_metadata.specs.Header.Open.{BecomesWritable, SaysSame, header_after_load, is_rewritten, opened_text, without_autoclear}
use Rattle.qcow2_metadata.specs.Header.Text.{IsWrittenHeader, base_with_length, chosen_extensions, chosen_text, header_after_write, header_end, header_read_back, header_text, header_to_write, header_with_places, is_other, is_short, name_place, v2_with_name}
use Rattle.qcow2_metadata.specs.Results.{RefusesFirst}
use Rattle.qcow2_metadata.specs.declared.header.features.AcceptedFeatures.{AcceptedFeatures}
use Rattle.qcow2_metadata.proofs.GrammarLemmas.{is-accepted_header}
use Rattle.qcow2_metadata.proofs.OpenLemmas.{writable-faults}
use Rattle.qcow2_metadata.proofs.WriteLemmas.{kept-settled}

-- another header says the same where a third one does
pub SaysSame-after : (old between new : HeaderRecord) → SaysSame old between → SaysSame between new → SaysSame old new
SaysSame-after old between new first second = record {
  v2 = rw first.v2 at second.v2;
  base = rw first.base at second.base;
  autoclear = elim second.autoclear [
    | inr none ↦ inr none
    | inl kept ↦ elim first.autoclear [
      | inr none ↦ inr (kept ∙ none)
      | inl same ↦ inl (kept ∙ same)
    ]
  ];
  backing_filename = second.backing_filename ∙ first.backing_filename;
  extensions = second.extensions ∙ first.extensions;
}

v2_with_name-same : (v2 : V2Header) (place : ℕ) (name : Option (List ℕ)) → let new = v2_with_name v2 place name in
    new ≡ record v2 { backing_file_offset = new.backing_file_offset; backing_file_size = new.backing_file_size }
v2_with_name-same v2 place None = refl
v2_with_name-same v2 place (Some name) = refl

base_with_length-same : (version : ℕ) (base : V3HeaderBase) (len : ℕ) → let new = base_with_length version base len in
    new ≡ record base { autoclear_features = new.autoclear_features; header_length = new.header_length }
base_with_length-same version base len = grind (arith, nat_tests)

autoclear-kept : (version : ℕ) (base : V3HeaderBase) (len : ℕ) → (base_with_length version base len).autoclear_features ≡ base.autoclear_features
autoclear-kept version base len = grind (arith, nat_tests)

-- of the extensions that are written, and that read back, those other than tables of feature names are the same
others-other : (extensions : List Extension) → filter is_other (filter is_other extensions) ≡ filter is_other extensions
others-other [] = refl
others-other (extension ∷ extensions) = grind (arith, nat_tests, others-other extensions)

others-chosen : (with_names : Bool) (extensions : List Extension)
    → filter is_other (chosen_extensions with_names extensions) ≡ filter is_other extensions
others-chosen true extensions = refl
others-chosen false extensions = others-other extensions

others-normal : (extensions : List Extension) → filter is_other (map normal_extension extensions) ≡ filter is_other extensions
others-normal [] = refl
others-normal (extension ∷ extensions) = grind (arith, nat_tests, others-normal extensions)

placed-same : (with_names : Bool) (header : HeaderRecord)
    → SaysSame header (header_with_places (header_to_write with_names header))
placed-same with_names header =
    let written = header_to_write with_names header in
    record {
      v2 = v2_with_name-same header.v2 (name_place written) header.backing_filename;
      base = base_with_length-same header.v2.version header.base (header_end written);
      autoclear = inl (autoclear-kept header.v2.version header.base (header_end written));
      backing_filename = refl;
      extensions = others-chosen with_names header.extensions;
    }

-- a header as a write leaves it
pub written-same : (header written : HeaderRecord) → header_after_write header ≡ Ok written → SaysSame header written
unfolding header_after_write
written-same header written is = grind (arith, nat_tests, placed-same true header, placed-same false header)

-- and as it reads back
pub read_back-same : (header : HeaderRecord) → SaysSame header (header_read_back header)
read_back-same header = record { v2 = refl; base = refl; autoclear = inl refl; backing_filename = refl; extensions = others-normal header.extensions }

pub without_autoclear-same : (header : HeaderRecord) → SaysSame header (without_autoclear header)
without_autoclear-same header = record { v2 = refl; base = refl; autoclear = inr refl; backing_filename = refl; extensions = refl }

-- a header with autoclear features is written without them
after-rewritten : (header : HeaderRecord) → is_rewritten true header ≡ true
    → header_after_load true (Ok header) ≡ header_after_write (without_autoclear header)
after-rewritten header rewritten = grind (arith, nat_tests)

text-rewritten : (header : HeaderRecord) → is_rewritten true header ≡ true
    → opened_text true (Ok header) ≡ chosen_text (without_autoclear header)
text-rewritten header rewritten = grind (arith, nat_tests)

-- a header that was made one whose image may be written
pub writable-same : (header written : HeaderRecord) → header_after_load true (Ok header) ≡ Ok written → SaysSame header written
writable-same header written is = by_autoclear (is_rewritten true header) refl
  where
    by_autoclear : (test : Bool) → is_rewritten true header ≡ test → SaysSame header written
    by_autoclear true rewritten =
        let after = sym (after-rewritten header rewritten) ∙ is in
        SaysSame-after header (without_autoclear header) written (without_autoclear-same header) (written-same _ _ after)
    by_autoclear false stays =
        let same : header ≡ written = grind (arith, nat_tests) in
        rw (← same) (record { v2 = refl; base = refl; autoclear = inl refl; backing_filename = refl; extensions = refl })

-- has the same backing file's name
pub writable-short : (header : HeaderRecord) (answer : Result HeaderRecord Fault) → is_short header.backing_filename ≡ true
    → RefusesFirst (λ h. h) answer (header_after_load true (Ok header)) → IfOk answer (λ h. is_short h.backing_filename ≡ true)
writable-short header (Ok written) short is = rw (writable-same header written is).backing_filename short
writable-short header (Err fault) short is = tt

-- an answer with a header says of the storage what one without a value says
told_ok : (written : HeaderRecord) (P : Type 0) → IsErrOf {T = Unit {0}} {E = Fault} (Ok tt) Storage ↔ P
    → IsErrOf {T = HeaderRecord} {E = Fault} (Ok written) Storage ↔ P
told_ok written P told = grind arith

told_err : (fault : Fault) (P : Type 0) → IsErrOf {T = Unit {0}} {E = Fault} (Err fault) Storage ↔ P
    → IsErrOf {T = HeaderRecord} {E = Fault} (Err fault) Storage ↔ P
told_err fault P told = grind arith

-- a header with autoclear features was written without them
pub becomes-ok : (header written : HeaderRecord) (old new : StorageState) → is_rewritten true header ≡ true → All IsStorable header.extensions
    → header_after_write (without_autoclear header) ≡ Ok written → OnImages old new (λ _ after. IsWrittenHeader after written)
    → OnlyWrites {T = Unit {0}} (Ok tt) (Some 0) (length (chosen_text (without_autoclear header))) old new → BecomesWritable header (Ok written) old new
becomes-ok header written old new rewritten storable after written_is storage =
    let placed = text-rewritten header rewritten in
    let chosen : chosen_text (without_autoclear header) ≡ header_text written = rw (after, chosen_text) refl in
    record {
      exact = after-rewritten header rewritten ∙ after;
      faults = tt;
      placed = λ told. subst (Holds new.byte_at 0) (sym (placed ∙ chosen)) (written_is told).text;
      written = λ _ told. written_is told;
      settled = λ _. kept-settled (without_autoclear header) written storable after;
      storage = subst (λ (n : ℕ). OnlyWrites {T = HeaderRecord} (Ok written) (Some 0) n old new) (sym (ap length placed))
          (record { told = told_ok written _ storage.told; others = storage.others; refused = storage.refused; device = storage.device });
    }

-- or that was refused
pub becomes-err : (header : HeaderRecord) (fault : Fault) (old new : StorageState) → is_rewritten true header ≡ true
    → RefusesFirst {T = Unit {0}} (λ _. header) (Err fault) (header_after_write (without_autoclear header))
    → OnlyWrites {T = Unit {0}} (Err fault) (Some 0) (length (chosen_text (without_autoclear header))) old new → BecomesWritable header (Err fault) old new
becomes-err header fault old new rewritten why storage =
    let placed = text-rewritten header rewritten in
    let exact = subst (λ (expected : Result HeaderRecord Fault). RefusesFirst {T = HeaderRecord} (λ h. h) (Err fault) expected)
    (sym (after-rewritten header rewritten)) why in
    record {
      exact = exact;
      faults = writable-faults (Err fault) header exact;
      placed = λ told. tt;
      written = λ _ told. tt;
      settled = λ _. tt;
      storage = subst (λ (n : ℕ). OnlyWrites {T = HeaderRecord} (Err fault) (Some 0) n old new) (sym (ap length placed))
          (record { told = told_err fault _ storage.told; others = storage.others; refused = storage.refused; device = storage.device });
    }

-- what such a header reads back as, once it is written
pub written-read : (accepted : AcceptedFeatures) (image : Image) (written : HeaderRecord) → IsWrittenHeader image written
    → Accepts accepted written.base written.unknown_header_fields → accepted_header accepted image ≡ Ok (header_read_back written)
written-read accepted image written is accepts =
    is-accepted_header accepted image (header_read_back written) (is.reads_back accepted accepts)

-- an extension that isn't read here is other than a table of feature names
unknown-other : (number : ℕ) (extensions : List Extension)
    → list_any (is_unknown number) (filter is_other extensions) ≡ list_any (is_unknown number) extensions
unknown-other number [] = refl
unknown-other number (extension ∷ extensions) = grind (arith, nat_tests, unknown-other number extensions)

any_unknown-same : (number : ℕ) (old new : HeaderRecord) → SaysSame old new
    → list_any (is_unknown number) new.extensions ≡ list_any (is_unknown number) old.extensions
any_unknown-same number old new same =
    sym (unknown-other number new.extensions) ∙ ap (list_any (is_unknown number)) same.extensions
    ∙ unknown-other number old.extensions

-- nor is an encryption header
encryption-other : (cb : ℕ) (extensions : List Extension) → encryption_by cb (filter is_other extensions) ≡ encryption_by cb extensions
encryption-other cb [] = refl
encryption-other cb (extension ∷ extensions) =
    grind (arith, nat_tests, encryption-other cb extensions, unknown-other encryption_type extensions)

pub encryption_clusters-same : (old new : HeaderRecord) → SaysSame old new → encryption_clusters new ≡ encryption_clusters old
encryption_clusters-same old new same =
    let bits : new.v2.cluster_bits ≡ old.v2.cluster_bits = ap (λ (part : V2Header). part.cluster_bits) same.v2 in
    rw bits (sym (encryption-other old.v2.cluster_bits new.extensions) ∙ ap (encryption_by old.v2.cluster_bits) same.extensions
    ∙ encryption-other old.v2.cluster_bits old.extensions)

-- so an image that has no part that isn't read here still has none: its bitmaps agree with the disk at most where they did
bitmaps-same : (old new : HeaderRecord) → SaysSame old new → has_bitmaps old ≡ false → has_bitmaps new ≡ false
bitmaps-same old new same none = by_autoclear same.autoclear
  where
    extensions : list_any (is_unknown bitmaps_type) new.extensions ≡ list_any (is_unknown bitmaps_type) old.extensions
    extensions = any_unknown-same bitmaps_type old new same

    by_autoclear : (new.base.autoclear_features ≡ old.base.autoclear_features) ⊎ (new.base.autoclear_features ≡ 0) → has_bitmaps new ≡ false
    by_autoclear (inl kept) = rw (kept, extensions) none
    by_autoclear (inr cleared) = rw cleared refl

keys-same : (old new : HeaderRecord) → SaysSame old new → hides_keys new ≡ hides_keys old
keys-same old new same =
    let method : new.v2.crypt_method ≡ old.v2.crypt_method = ap (λ (part : V2Header). part.crypt_method) same.v2 in
    rw (method, any_unknown-same encryption_type old new same, encryption_clusters-same old new same) refl

no-parts : (unsaved bitmaps keys : Bool)
    → (if not unsaved then Some Snapshots else if bitmaps then Some Bitmaps else if keys then Some Encryption else None) ≡ None
    → (unsaved ≡ true) × (bitmaps ≡ false) × (keys ≡ false)
no-parts true false false is = (refl, refl, refl)
no-parts true false true is = grind (arith, is)
no-parts true true keys is = grind (arith, is)
no-parts false bitmaps keys is = grind (arith, is)

uncounted_part-none : (old new : HeaderRecord) → SaysSame old new → uncounted_part old ≡ None → uncounted_part new ≡ None
unfolding uncounted_part
uncounted_part-none old new same none =
    let snapshots : new.v2.nb_snapshots ≡ old.v2.nb_snapshots = ap (λ (part : V2Header). part.nb_snapshots) same.v2 in
    let each = no-parts (old.v2.nb_snapshots == 0) (has_bitmaps old) (hides_keys old) none in
    rw (uncounted_part, snapshots, each.0, bitmaps-same old new same each.1, keys-same old new same, each.2) refl

pub uncounted-none : (old new : HeaderRecord) → SaysSame old new → option_map Uncounted (uncounted_part old) ≡ None
    → option_map Uncounted (uncounted_part new) ≡ None
uncounted-none old new same none = by_part (uncounted_part old) refl
  where
    by_part : (part : Option UncountedPart) → uncounted_part old ≡ part → option_map Uncounted (uncounted_part new) ≡ None
    by_part None is = ap (option_map Uncounted) (uncounted_part-none old new same is)
    by_part (Some part) is = absurd (grind (arith, none, is))

-- and the same geometry
pub geometry-same : (old new : HeaderRecord) → SaysSame old new → geometry_of new ≡ geometry_of old
geometry-same old new same =
    let bits : new.v2.cluster_bits ≡ old.v2.cluster_bits = ap (λ (part : V2Header). part.cluster_bits) same.v2 in
    let features : new.base.incompatible_features ≡ old.base.incompatible_features = ap (λ (part : V3HeaderBase). part.incompatible_features) same.base in
    rw (bits, features) refl
