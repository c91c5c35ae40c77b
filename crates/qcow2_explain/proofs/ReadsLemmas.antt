use Rattle.std.proofs.lemmas.Bool.Decides.{nat_tests}
use Rattle.std.proofs.Common.{◌≡◌, ◌≢◌, ◌∙◌, Result, Ok, Err, arith}
use Rattle.std.specs.Result.{IsErrOf}
use Rattle.qcow2_base.specs.Storage.{OnlyReads, ReadsFor, StorageState}
use Rattle.qcow2_base.specs.declared.fault.Fault.{Fault}
use Rattle.qcow2_base.specs.declared.fault.Fault.TheVariants.{Storage}

-- reads that returned a value: none failed
pub reads-ok : {A : Type 0} (value : A) (old new : StorageState) → OnlyReads (Ok value) old new → ReadsFor ⊥ old new
reads-ok value old new reads = grind (arith, nat_tests, reads)

-- reads that ended in a fault other than the storage's: none failed
pub reads-refused : {A : Type 0} (fault : Fault) (old new : StorageState) →
    fault ≢ Storage → OnlyReads {T = A} (Err fault) old new → ReadsFor ⊥ old new
reads-refused fault old new other reads = grind (arith, nat_tests, reads)

-- reads of which none failed, and then others
pub reads-then : {told : Type 0} (first second third : StorageState) →
    ReadsFor ⊥ first second → ReadsFor told second third → ReadsFor told first third
reads-then first second third one other = grind (arith, nat_tests, one, other)

-- reads that ended in a fault, which is returned for another value
pub reads-fault : {A B : Type 0} (fault : Fault) (old new : StorageState) →
    ReadsFor (IsErrOf {T = A} (Err fault) Storage) old new → ReadsFor (IsErrOf {T = B} (Err fault) Storage) old new
reads-fault fault old new reads = grind (arith, nat_tests, reads)

-- reads that returned a value, after which another is returned
pub reads-found : {A B : Type 0} (value : A) (other : B) (old new : StorageState) →
    ReadsFor (IsErrOf {T = A} (Ok value) Storage) old new → ReadsFor (IsErrOf {T = B} (Ok other) Storage) old new
reads-found value other old new reads = grind (arith, nat_tests, reads)

-- reads that returned a value, after which whatever else failed
pub reads-spared : {A told : Type 0} (value : A) (old new : StorageState) → ReadsFor (IsErrOf {T = A} (Ok value) Storage) old new → ReadsFor told old new
reads-spared value old new reads = record {
  failed = λ moved. let never : ⊥ = grind (arith, reads.failed moved) in elim never [ ];
  bytes = reads.bytes;
  len = reads.len;
  device = reads.device;
}

-- reads that ended in a fault other than the storage's, of which only the fault of a failed one is known
pub reads-other : {A : Type 0} (fault : Fault) (old new : StorageState) →
    fault ≢ Storage → ReadsFor (IsErrOf {T = A} (Err fault) Storage) old new → ReadsFor ⊥ old new
reads-other fault old new other reads = grind (arith, nat_tests, reads)

-- reads that ended in a fault, and then others that end in the storage's fault where the first did
pub reads-passed_on : {A told : Type 0} (fault : Fault) (first second third : StorageState) →
    OnlyReads {T = A} (Err fault) first second → ReadsFor told second third → (fault ≡ Storage → told) → ReadsFor told first third
reads-passed_on fault first second third one other passed_on = grind (arith, nat_tests, one, other, passed_on)

-- a second call that only reads leaves what both leave
pub reads-again : {A B : Type 0} (x : A) (answer : Result B Fault) (a b c : StorageState) → OnlyReads (Ok x) a b → OnlyReads answer b c
    → OnlyReads answer a c
reads-again x answer a b c first second = record {
  told = grind (arith, nat_tests, first.told, second.told);
  bytes = second.bytes ∙ first.bytes;
  len = second.len ∙ first.len;
  device = grind (arith, first.device, second.device);
}
