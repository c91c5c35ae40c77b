use Rattle.std.proofs.Common.{◌≡◌, ◌⊎◌, Bool, true, false, arith}
use Rattle.std.proofs.lemmas.Bool.Decides.{nat_tests}
use Rattle.std.specs.Prelude.{Err, IfErr, Ok, Result}
use Rattle.qcow2_base.specs.Storage.{Image}
use Rattle.qcow2_base.specs.declared.fault.Fault.{Fault}
use Rattle.qcow2_base.specs.declared.fault.Fault.TheVariants.{HeaderTooLong, NameTooLong, NoMemory, Storage}
use Rattle.qcow2_metadata.specs.Results.{Answers, IsFromOutside, RefusesFirst}
use Rattle.qcow2_metadata.specs.Header.{HeaderRecord}
use Rattle.qcow2_metadata.specs.Header.Grammar.{IsHeaderFault, accepted_header}
use Rattle.qcow2_metadata.specs.Header.Open.{IsWritableFault, header_after_load}
use Rattle.qcow2_metadata.specs.Header.Text.{is_short, header_after_write}
use Rattle.qcow2_metadata.specs.declared.header.features.AcceptedFeatures.{AcceptedFeatures}

-- why a header whose name isn't too long isn't written
kept-too_long : (header : HeaderRecord) (fault : Fault) → is_short header.backing_filename ≡ true
    → header_after_write header ≡ Err fault → fault ≡ HeaderTooLong
unfolding header_after_write
kept-too_long header fault short is = grind arith

-- why it isn't, whatever its name
writable_fault : (header : HeaderRecord) (fault : Fault) → header_after_load true (Ok header) ≡ Err fault
    → (fault ≡ HeaderTooLong) ⊎ ((fault ≡ NameTooLong) × (is_short header.backing_filename ≡ false))
unfolding header_after_write
writable_fault header fault is = grind (arith, nat_tests)

-- the fault of a header that was loaded and then written
opened-too_long : (header : HeaderRecord) (fault : Fault) → is_short header.backing_filename ≡ true
    → header_after_load true (Ok header) ≡ Err fault → fault ≡ HeaderTooLong
opened-too_long header fault short is = grind (arith, nat_tests, kept-too_long)

-- the faults of a header that is made one whose image may be written
pub writable-faults : (answer : Result HeaderRecord Fault) (header : HeaderRecord)
    → RefusesFirst (λ h. h) answer (header_after_load true (Ok header)) → IfErr answer (IsWritableFault header)
writable-faults answer header is = grind (arith, nat_tests, writable_fault)

-- what is returned once refusals come first is what is returned
pub answers-first : (answer : Result HeaderRecord Fault) (expected : Result HeaderRecord Fault)
    → RefusesFirst (λ h. h) answer expected → Answers (λ h. h) answer expected
answers-first answer expected is = grind (arith, nat_tests)

-- the faults of a load for who means to write
pub opened-faults : (answer : Result HeaderRecord Fault) (header : HeaderRecord) (writable : Bool) → writable ≡ true
    → is_short header.backing_filename ≡ true → Answers (λ h. h) answer (header_after_load true (Ok header))
    → IfErr answer (λ fault. (IsHeaderFault fault ⊎ ((writable ≡ true) × (fault ≡ HeaderTooLong))) ⊎ IsFromOutside fault)
opened-faults answer header writable is short answers = grind (arith, nat_tests, opened-too_long)

-- the fault of an image's header is that of its load
pub opened_fault : (accepted : AcceptedFeatures) (writable : Bool) (image : Image) (fault : Fault)
    → ((fault ≡ Storage) ⊎ (fault ≡ NoMemory) ⊎ (accepted_header accepted image ≡ Err fault))
    → ((fault ≡ Storage) ⊎ (fault ≡ NoMemory) ⊎ (header_after_load writable (accepted_header accepted image) ≡ Err fault))
opened_fault accepted writable image fault why = grind (arith, nat_tests)
