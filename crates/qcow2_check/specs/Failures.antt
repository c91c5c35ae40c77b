-- What may calls have changed that read and write, and ended in a fault?
use Rattle.std.specs.Prelude.{◌≡◌, ◌≢◌, ◌⊎◌, ◌↔◌, Result, IfErr, IsErrAnd, IsErrOf}
use Rattle.qcow2_base.specs.Storage.{Image, SameDevice, StorageState}
use Rattle.qcow2_base.specs.declared.fault.Fault.{Fault}
use Rattle.qcow2_base.specs.declared.fault.Fault.TheVariants.{Storage}
use Rattle.qcow2_metadata.specs.Results.{IsFromOutside}

-- calls that read and write ended in this answer: the storage fault is returned exactly where one of them failed
pub record ReportsFailures {T : Type 0} (answer : Result T Fault) (old new : StorageState) : Type 0 where
  pub failed : IsErrOf answer Storage ↔ (new.failures ≢ old.failures)
  pub device : SameDevice old new

-- a call ended in this fault: it changed no byte, but for what a torn write changes, and that only where the storage failed
pub record TearsAtMost (fault : Fault) (Tears : Image → Image → Type 0) (old new : Image) : Type 0 where
  pub whole : fault ≢ Storage → new ≡ old
  pub torn : (new ≡ old) ⊎ Tears old new

-- where this is a refusal, an answer is the same one, unless its fault came from outside
abbrev pub RefusesAs : {T V : Type 0} → Result V Fault → Result T Fault → Type 0
RefusesAs meant answer = IfErr meant (λ refusal. IsErrAnd answer (λ fault. IsFromOutside fault ⊎ (fault ≡ refusal)))
