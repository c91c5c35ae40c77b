-- What does a load of a header return, and what does it write where the image is to be written?
use Rattle.std.specs.Prelude.{◌≡◌, ◌⊎◌, ℕ, ◌==◌, ◌&&◌, Bool, true, false, not, IsTrue, List, [], length, Some, IfErr, IfOk, IsOkAnd, OnOk, Result, Ok, Err}
use Rattle.std.specs.List.{filter}
use Rattle.qcow2_base.specs.Storage.{Holds, OnImage, OnImages, OnlyReads, OnlyWrites, StorageState}
use Rattle.qcow2_base.specs.declared.fault.Fault.{Fault}
use Rattle.qcow2_base.specs.declared.fault.Fault.TheVariants.{HeaderTooLong, NameTooLong}
use Rattle.qcow2_metadata.specs.Results.{Answers, IsFromOutside, RefusesFirst, and_then}
use Rattle.qcow2_metadata.specs.Header.{HeaderRecord, no_feature}
use Rattle.qcow2_metadata.specs.Header.Grammar.{IsHeaderFault, accepted_header}
use Rattle.qcow2_metadata.specs.Header.Text.{IsSettled, IsWrittenHeader, chosen_text, header_after_write, is_other, is_short}
use Rattle.qcow2_metadata.specs.declared.header.features.AcceptedFeatures.{AcceptedFeatures}

-- the header with no autoclear feature
abbrev pub without_autoclear : HeaderRecord → HeaderRecord
without_autoclear header = record header { base = record header.base { autoclear_features = 0 } }

-- whether the header has to be written before the image may be: it names autoclear features
abbrev pub is_rewritten : Bool → HeaderRecord → Bool
is_rewritten writable header = writable && not (header.base.autoclear_features == 0)

-- what a load returns, by what it read: who writes to an image leaves no autoclear feature in its header
abbrev pub header_after_load : Bool → Result HeaderRecord Fault → Result HeaderRecord Fault
header_after_load writable read = and_then read (λ header. elim (is_rewritten writable header) [
  | true ↦ header_after_write (without_autoclear header)
  | false ↦ Ok header
])

-- the bytes that a load places, by what it read
abbrev pub opened_text : Bool → Result HeaderRecord Fault → List ℕ
opened_text writable (Err fault) = []
opened_text writable (Ok header) = elim (is_rewritten writable header) [
  | true ↦ chosen_text (without_autoclear header)
  | false ↦ []
]

-- a header says of an image what another says, but that it may have no autoclear features, and for names of features, and the
-- places and the padding of its own text
pub record SaysSame (old new : HeaderRecord) : Type 0 where
  pub v2 : new.v2 ≡ record old.v2 {
    backing_file_offset = new.v2.backing_file_offset;
    backing_file_size = new.v2.backing_file_size;
  }
  pub base : new.base ≡ record old.base {
    autoclear_features = new.base.autoclear_features;
    header_length = new.base.header_length;
  }
  pub autoclear : (new.base.autoclear_features ≡ old.base.autoclear_features) ⊎ (new.base.autoclear_features ≡ 0)
  pub backing_filename : new.backing_filename ≡ old.backing_filename
  pub extensions : filter is_other new.extensions ≡ filter is_other old.extensions

-- why a header can't be made one whose image may be written: it has no room, or its backing file's name is too long, which no
-- header has that was loaded; or a fault came from outside
abbrev pub IsWritableFault : HeaderRecord → Fault → Type 0
IsWritableFault header fault = (fault ≡ HeaderTooLong)
    ⊎ ((fault ≡ NameTooLong) × (is_short header.backing_filename ≡ false)) ⊎ IsFromOutside fault

-- a header was made one whose image may be written, which ended in this answer: it is placed without autoclear features, where
-- it had any, and no byte past it changes. The header that is returned then is written and settled, as after any write
pub record BecomesWritable (header : HeaderRecord) (answer : Result HeaderRecord Fault) (old new : StorageState) : Type 0 where
  pub exact : RefusesFirst (λ header. header) answer (header_after_load true (Ok header))
  pub faults : IfErr answer (IsWritableFault header)
  pub placed : OnImages old new (λ _ after. OnOk answer (Holds after 0 (opened_text true (Ok header))))
  pub written : IsTrue (is_rewritten true header) → OnImages old new (λ _ after. IfOk answer (IsWrittenHeader after))
  pub settled : IsTrue (is_rewritten true header) → IfOk answer IsSettled
  pub storage : OnlyWrites answer (Some 0) (length (opened_text true (Ok header))) old new

-- a load had to write: the header that it read is one that is rewritten
abbrev pub HadToWrite : AcceptedFeatures → Bool → StorageState → Type 0
HadToWrite accepted writable old =
    IsTrue old.tells × IsOkAnd (accepted_header accepted old.byte_at) (λ header. IsTrue (is_rewritten writable header))

-- a load that ended in this answer: it only reads where nobody is to write. Else it places the header without
-- autoclear features, where it had any, and changes no byte past it. The header that it returns then is written and
-- settled, as after any write
pub record Opens (accepted : AcceptedFeatures) (writable : Bool) (answer : Result HeaderRecord Fault) (old new : StorageState) : Type 0 where
  pub reads : writable ≡ false → OnlyReads answer old new
  pub writes : OnlyWrites answer (Some 0) (length (opened_text writable (accepted_header accepted old.byte_at))) old new
  pub placed : OnImages old new (λ before after. OnOk answer (Holds after 0 (opened_text writable (accepted_header accepted before))))
  pub written : HadToWrite accepted writable old → IfOk answer (IsWrittenHeader new.byte_at)
  pub settled : HadToWrite accepted writable old → IfOk answer IsSettled

-- a load of an image's header by who accepts these features ended in this answer: the header that the bytes have by the
-- grammar, opened, or the fault of the first condition that they fail. Its backing file's name is one that can be written
pub record LoadsAccepted (accepted : AcceptedFeatures) (writable : Bool) (answer : Result HeaderRecord Fault) (old new : StorageState) : Type 0 where
  pub exact : OnImage old (λ bytes. Answers (λ header. header) answer (header_after_load writable (accepted_header accepted bytes)))
  pub faults : IfErr answer (λ fault. (IsHeaderFault fault ⊎ ((writable ≡ true) × (fault ≡ HeaderTooLong))) ⊎ IsFromOutside fault)
  pub short : IfOk answer (λ header. is_short header.backing_filename ≡ true)
  pub storage : Opens accepted writable answer old new

-- a load by who accepts none
abbrev pub Loads : Bool → Result HeaderRecord Fault → StorageState → StorageState → Type 0
Loads = LoadsAccepted no_feature
