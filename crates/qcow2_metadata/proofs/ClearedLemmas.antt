use Rattle.std.proofs.Common.{◌≡◌, ℕ, ◌+◌, ◌<◌, List, Option, None, Some, Ok, inl, inr, sym, ◌∙◌, arith}
use Rattle.qcow2_base.proofs.OnDiskStructLemmas.{HoldsLayout-moved}
use Rattle.qcow2_base.specs.OnDiskStruct.{HoldsLayout, fields_moved_by, v2_header, v3_header_base}
use Rattle.qcow2_base.specs.Storage.{Image, SameOutside, be}
use Rattle.qcow2_metadata.specs.Header.{HeaderRecord, no_feature}
use Rattle.qcow2_metadata.specs.Header.Grammar.{IsAcceptedHeader, IsBackingName, accepted_header, header_of}
use Rattle.qcow2_metadata.specs.Header.Open.{without_autoclear}
use Rattle.qcow2_metadata.specs.Header.Pointers.{HasNameElsewhere}
use Rattle.qcow2_metadata.specs.Range.{bytes_at}
use Rattle.qcow2_metadata.specs.declared.header.features.AcceptedFeatures.{AcceptedFeatures}
use Rattle.qcow2_metadata.proofs.ChainLemmas.{extensions_at-says, says-extensions_at}
use Rattle.qcow2_metadata.proofs.GrammarLemmas.{accepted_header-is, is-accepted_header}
use Rattle.qcow2_metadata.proofs.LawsLemmas.{AgreeBetween, be-same, bytes_at-same, extensions_at-same}

-- images that agree outside the field of autoclear features agree before it and after it
before-field : (image other : Image) → SameOutside 88 8 image other → AgreeBetween 0 88 image other
before-field image other same = record { each = λ o after below. same.before o below }

after-field : (image other : Image) (end : ℕ) → SameOutside 88 8 image other → AgreeBetween 96 end image other
after-field image other end same = record { each = λ o after below. same.after o after }

-- a backing file's name that has no byte in the field is the same
name-kept : (header : HeaderRecord) (image other : Image) (name : Option (List ℕ)) → SameOutside 88 8 image other → HasNameElsewhere header
    → IsBackingName image header.v2 name → IsBackingName other header.v2 name
name-kept header image other None same apart none = none
name-kept header image other (Some name) same apart (some, short, within, is, text) = (some, short, within, is ∙ sym bytes, text)
  where
    place : ℕ
    place = header.v2.backing_file_offset

    size : ℕ
    size = header.v2.backing_file_size

    bytes : bytes_at other place size ≡ bytes_at image place size
    bytes = elim apart [
      | inl none ↦ absurd (some none)
      | inr (inl before) ↦ bytes_at-same 0 88 image other (before-field image other same) place size (omega arith) before
      | inr (inr after) ↦ bytes_at-same 96 (place + size) image other (after-field image other _ same) place size after (omega arith)
    ]

-- an image whose field of autoclear features became 0 has the header that it had, without these features
pub accepted-cleared : (accepted : AcceptedFeatures) (header : HeaderRecord) (image other : Image)
    → accepted_header accepted image ≡ Ok header → header.v2.version ≡ 3 → SameOutside 88 8 image other → be other 88 8 ≡ 0
    → HasNameElsewhere header → accepted_header accepted other ≡ Ok (without_autoclear header)
accepted-cleared accepted header image other is three same none apart = is-accepted_header accepted other (without_autoclear header) (record {
  v2 = HoldsLayout-moved image other 0 88 (v2_header header.v2) early (omega arith) was.v2;
  base = record { version_3 = fields; version_2 = λ two. absurd (omega (arith, three, two)) };
  magic = was.magic;
  version = was.version;
  cluster_bits = was.cluster_bits;
  header_not_short = was.header_not_short;
  header_not_big = was.header_not_big;
  l1_table_aligned = was.l1_table_aligned;
  reftable_aligned = was.reftable_aligned;
  refcount_width = was.refcount_width;
  unknown_header_fields = was.unknown_header_fields
      ∙ sym (bytes_at-same 96 header.base.header_length image other (after-field image other _ same) 104 _ (omega arith) (omega (arith, was.header_not_short)));
  backing_filename = name-kept header image other header.backing_filename same apart was.backing_filename;
  extensions = record {
    version_3 = λ newer. extensions_at-says other _ header.base.header_length header.extensions
        (extensions_at-same 96 _ image other (after-field image other _ same) header.base.header_length (omega (arith, was.header_not_short))
        ∙ says-extensions_at image _ header.base.header_length header.extensions (was.extensions.version_3 newer));
    version_2 = was.extensions.version_2;
  };
  one_format = was.one_format;
  one_data_file = was.one_data_file;
  accepts = record { features = was.accepts.features; compression = was.accepts.compression };
})
  where
    was : IsAcceptedHeader accepted image header
    was = accepted_header-is accepted image header is

    early : (k : ℕ) → k < 88 → image k ≡ other (0 + k)
    early k below = let place : 0 + k ≡ k = omega arith in rw place (sym (same.before k below))

    low : AgreeBetween 0 88 image other
    low = before-field image other same

    high : AgreeBetween 96 104 image other
    high = after-field image other 104 same

    fields : header.v2.version ≡ 3 → HoldsLayout other (fields_moved_by 72 (v3_header_base (without_autoclear header).base))
    fields newer = let held = was.base.version_3 newer in (
      be-same 0 88 image other low 72 8 (omega arith) (omega arith) ∙ held.0,
      (
        be-same 0 88 image other low 80 8 (omega arith) (omega arith) ∙ held.1.0,
        (
          none,
          (
            be-same 96 104 image other high 96 4 (omega arith) (omega arith) ∙ held.1.1.1.0,
            (be-same 96 104 image other high 100 4 (omega arith) (omega arith) ∙ held.1.1.1.1.0, tt),
          ),
        ),
      ),
    )

-- the same for who accepts none
pub cleared-header : (header : HeaderRecord) (image other : Image) → header_of image ≡ Ok header → header.v2.version ≡ 3
    → SameOutside 88 8 image other → be other 88 8 ≡ 0 → HasNameElsewhere header → header_of other ≡ Ok (without_autoclear header)
cleared-header = accepted-cleared no_feature
