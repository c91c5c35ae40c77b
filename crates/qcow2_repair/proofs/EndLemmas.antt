use Rattle.std.proofs.Common.{◌≡◌, ℕ, Bool, true, false, ◌<◌, ◌≤◌, IsSome, IsTrue, List, Option, Result, Ok, Err, inl, inr, refl, sym, ap, subst, ◌∙◌, arith}
use Rattle.std.proofs.lemmas.Bool.Decides.{nat_tests}
use Rattle.qcow2_base.specs.Format.{max_file_length}
use Rattle.qcow2_base.specs.Storage.{Image, IsBytes, OnImages, SameOutside, StorageState}
use Rattle.qcow2_base.specs.declared.fault.Fault.{Fault}
use Rattle.qcow2_base.specs.declared.fault.Fault.TheVariants.{Storage}
use Rattle.qcow2_base.specs.declared.types.HostCluster.{HostCluster}
use Rattle.qcow2_metadata.proofs.WritableLemmas.{writable-same}
use Rattle.qcow2_metadata.specs.Header.{HeaderRecord, IsValidHeader}
use Rattle.qcow2_metadata.specs.Header.Open.{SaysSame}
use Rattle.qcow2_metadata.specs.Results.{Reads}
use Rattle.qcow2_check.specs.Counters.{block_of_cluster}
use Rattle.qcow2_check.specs.Findings.{EndsWithin}
use Rattle.qcow2_check.specs.Failures.{ReportsFailures, TearsAtMost}
use Rattle.qcow2_check.specs.Uses.{ImageTables, uses_of}
use Rattle.qcow2_summary.specs.Consistency.{IsConsistent}
use Rattle.qcow2_repair.proofs.FoundLemmas.{checked-found, kept-found-written, repairable-found-written}
use Rattle.qcow2_repair.proofs.HeaderLemmas.{found-fault}
use Rattle.qcow2_repair.proofs.LeftLemmas.{consistent-repaired}
use Rattle.qcow2_repair.proofs.StagesLemmas.{uses-repaired}
use Rattle.qcow2_repair.proofs.RefusalsLemmas.{nothing-counts, nothing-past}
use Rattle.qcow2_repair.specs.Left.{CountsUsed}
use Rattle.qcow2_repair.specs.Refusals.{IsRepairRefusal, leaves_nothing, repair_within}
use Rattle.qcow2_repair.specs.Repair.{ClearsMarks, EndsMarks, EndsRepair, HasPassed, RepairsImage, TellsPassed, image_uses_of, tables_in}

-- an image that can't be repaired was refused by its header or its end
pub refused-past-end : (header : HeaderRecord) (fault : Fault) (old new : StorageState)
    → Reads {T = Unit {0}} (λ done. done) (Err fault) (repair_within header old.len) (IsRepairRefusal header) old new
    → RepairsImage header (Err fault) old new
refused-past-end header fault old new reads = record {
  repairs = λ told. inl (record { whole = λ _. reads.storage.bytes; torn = inl reads.storage.bytes });
  refused = λ told. elim (reads.exact told) [
    | inl failed ↦ inl (inr failed)
    | inr (inl full) ↦ inl (inl full)
    | inr (inr is) ↦ inr (reads.storage.bytes, inr (inr is))
  ];
  faults = found-fault header fault reads.faults;
  storage = record { failed = grind (arith, reads.storage.told); device = reads.storage.device };
}

-- a repair but for its marks ended in this answer
abbrev pub Passes : HeaderRecord → Result (HeaderRecord × Bool) Fault → StorageState → StorageState → Type 0
Passes header = EndsRepair header (λ file. TellsPassed file header)

-- in a fault
pub passes-failed : (header : HeaderRecord) (fault : Fault) (old new : StorageState) → Passes header (Err fault) old new
    → RepairsImage header (Err fault) old new
passes-failed header fault old new passes = record {
  repairs = passes.repairs;
  refused = passes.refused;
  faults = passes.faults;
  storage = record { failed = grind (arith, nat_tests, passes.storage.failed); device = passes.storage.device };
}

-- in an image in which something stays wrong, whose marks stay
pub marks-kept : (header written : HeaderRecord) (old new : StorageState) → Passes header (Ok (written, false)) old new
    → RepairsImage header (Ok written) old new
marks-kept header written old new passes = record {
  repairs = λ told.
      let passed = passes.repairs told in (
        written,
        passed.0,
        new.byte_at,
        passed.1,
        subst (λ nothing. EndsMarks nothing written written new.byte_at new.byte_at) passed.2 (refl, refl),
      );
  refused = tt;
  faults = tt;
  storage = record { failed = grind (arith, nat_tests, passes.storage.failed); device = passes.storage.device };
}

-- and else they are cleared
pub marks-cleared : (header written left : HeaderRecord) (old mid new : StorageState) → Passes header (Ok (written, true)) old mid
    → OnImages mid new (λ before after. ClearsMarks written left before after) → ReportsFailures {T = Unit {0}} (Ok tt) mid new
    → RepairsImage header (Ok left) old new
marks-cleared header written left old mid new passes clears reports = record {
  repairs = λ told.
      let passed = passes.repairs told in
      let known : IsTrue mid.tells = rw passes.storage.device.tells told in (
        written,
        passed.0,
        mid.byte_at,
        passed.1,
        subst (λ nothing. EndsMarks nothing written left mid.byte_at new.byte_at) passed.2 (clears known),
      );
  refused = tt;
  faults = tt;
  storage = record {
    failed = grind (arith, nat_tests, passes.storage.failed, reports.failed);
    device = grind (arith, passes.storage.device, reports.device);
  };
}

-- or the write of their field was torn
pub marks-torn : (header written : HeaderRecord) (fault : Fault) (old mid new : StorageState) → Passes header (Ok (written, true)) old mid
    → OnImages mid new (λ before after. TearsAtMost fault (SameOutside 72 8) before after) → fault ≡ Storage
    → ReportsFailures {T = Unit {0}} (Err fault) mid new → RepairsImage header (Err fault) old new
marks-torn header written fault old mid new passes torn storage reports = record {
  repairs = λ told.
      let passed = passes.repairs told in
      let known : IsTrue mid.tells = rw passes.storage.device.tells told in
      inr (inr (written, passed.0, mid.byte_at, passed.1, sym passed.2, torn known));
  refused = λ told. inl (inr storage);
  faults = inr (inr (inr (inr storage)));
  storage = record {
    failed = grind (arith, nat_tests, passes.storage.failed, reports.failed);
    device = grind (arith, passes.storage.device, reports.device);
  };
}

-- a header that says the same has the same blocks
block-said : (header written : HeaderRecord) (reftable : List ℕ) (c : ℕ) → SaysSame header written
    → block_of_cluster written reftable c ≡ block_of_cluster header reftable c
block-said header written reftable c says =
    subst (λ base. block_of_cluster (record written { base = base }) reftable c ≡ block_of_cluster header reftable c) (sym says.base)
    (subst (λ v2. block_of_cluster (record written { v2 = v2; base = record header.base { autoclear_features = written.base.autoclear_features; header_length = written.base.header_length } }) reftable c ≡ block_of_cluster header reftable c) (sym says.v2) refl)

-- an image in which a repair leaves nothing wrong is consistent after its passes
pub consistent-passed : (file : ℕ) (header written : HeaderRecord) (tables : ImageTables) (old passed : Image) → IsValidHeader header → IsBytes old
    → HasPassed header written tables old passed → leaves_nothing file tables old ≡ true
    → IsConsistent (tables_in written tables.reftable passed) passed × EndsWithin file (tables_in written tables.reftable passed) passed
consistent-passed file header written tables old passed valid bytes has nothing =
    let mid = has.0 in
    let is = has.1 in
    let makes = has.2 in
    let says : SaysSame header written = writable-same header written makes.becomes in
    let kept = kept-found-written header written tables old mid valid bytes is makes in
    let same = (checked-found header old tables is).same in
    let counts : CountsUsed (tables_in written tables.reftable mid) mid = λ c below used.
    let before : IsSome (block_of_cluster tables.header tables.reftable c) =
    nothing-counts file tables old nothing c below (rw kept.0 at used) in
    subst (λ found. IsSome found) (sym (block-said header written tables.reftable c says)) (rw same at before) in
    let start = repairable-found-written header written tables old mid valid bytes is makes in (
      consistent-repaired written tables.reftable mid passed start has.3 counts,
      λ c after before.
          ap (λ uses. uses_of uses c) (uses-repaired written tables.reftable mid passed start has.3)
          ∙ ap (λ uses. uses_of uses c) kept.0 ∙ nothing-past file tables old nothing c after before,
    )
