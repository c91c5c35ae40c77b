-- How does a command that prints end?
use Rattle.std.specs.Prelude.{◌≡◌, ◌≢◌, ◌⊎◌, ℕ, List, ◌++◌, take, ⊤, Option, Some, None, Result, Err, IfErr, IsErrOf, IsOkAnd, IsOkUnless, OnErr, OnOk}
use Rattle.std.specs.Io.KnownBytes.{Appends}
use Rattle.qcow2_base.specs.Storage.{Image, OnImage, SameDevice, StorageState}
use Rattle.qcow2_base.specs.declared.fault.Fault.{Fault}
use Rattle.qcow2_base.specs.declared.fault.Fault.TheVariants.{NoMemory, Storage}

-- the bytes that an output has got, where they are known
abbrev pub OutputBytes : Type 0
OutputBytes = Option (List ℕ)

-- known bytes grow by a beginning of others
abbrev pub AppendsPart : OutputBytes → OutputBytes → List ℕ → Type 0
AppendsPart None new bytes = ⊤
AppendsPart (Some old) None bytes = ⊥
AppendsPart (Some old) (Some new) bytes = (written : ℕ) × (new ≡ old ++ take written bytes)

-- a run over an image, to an output: what it returned, the image's storage before and after, and the output before and
-- after, whose contents are the bytes that it has got
pub record Run (A O : Type 0) : Type 0 where
  pub answer : Result A Fault
  pub old : StorageState
  pub new : StorageState
  pub contents : O → OutputBytes
  pub before : O
  pub after : O

-- the run that returned this, over an image and to an output that were these before and are these after
abbrev pub run_over : {S A O : Type 0} → (S → StorageState) → (O → OutputBytes) → Result A Fault → S → S → O → O → Run A O
run_over state contents answer old new before after = record {
  answer = answer;
  old = state old;
  new = state new;
  contents = contents;
  before = before;
  after = after;
}

-- the output of a run got these bytes
abbrev pub OutputGets : {A O : Type 0} → Run A O → List ℕ → Type 0
OutputGets run bytes = Appends (run.contents run.before) (run.contents run.after) bytes

-- or a beginning of them
abbrev pub OutputGetsPart : {A O : Type 0} → Run A O → List ℕ → Type 0
OutputGetsPart run bytes = AppendsPart (run.contents run.before) (run.contents run.after) bytes

-- what a run read of its image ended in this fault: it is the one that the bytes mean, or memory ran out, or a call of the
-- image failed
abbrev pub IsReadFault : {V A O : Type 0} → Result V Fault → Run A O → Fault → Type 0
IsReadFault meant run fault =
    (meant ≡ Err fault) ⊎ (fault ≡ NoMemory) ⊎ ((fault ≡ Storage) × (run.new.failures ≢ run.old.failures))

-- the fault is that of a run's failed output: the storage fault, where no call of the image failed
abbrev pub IsOutputFault : {A O : Type 0} → Run A O → Fault → Type 0
IsOutputFault run fault = (fault ≡ Storage) × (run.new.failures ≡ run.old.failures)

-- a run ended in this fault: that of what it read, or that of its output, which got a beginning of the lines that are meant
abbrev pub IsRefusal : {V A O : Type 0} → Result V Fault → (V → List ℕ) → Run A O → Fault → Type 0
IsRefusal meant lines_of run fault = IsReadFault meant run fault
    ⊎ (IsOutputFault run fault × IsOkAnd meant (λ value. OutputGetsPart run (lines_of value)))

-- a print of these bytes to an output ended in this answer: the output got them, or it failed and got a beginning of them
pub record PrintsText {T : Type 0} (answer : Result T Fault) (before after : OutputBytes) (bytes : List ℕ) : Type 0 where
  pub fault : IsOkUnless answer Storage
  pub text : OnOk answer (Appends before after bytes)
  pub part : OnErr answer (AppendsPart before after bytes)

-- a run prints last: a fault other than the storage fault comes before any line, and so does a failed call of the image,
-- which is that fault
pub record PrintsLast {A O : Type 0} (run : Run A O) : Type 0 where
  pub refused : IfErr run.answer (λ fault. fault ≢ Storage → run.after ≡ run.before)
  pub failed : run.new.failures ≢ run.old.failures → IsErrOf run.answer Storage × (run.after ≡ run.before)
  pub device : SameDevice run.old run.new

-- a run prints what its image's bytes mean: it printed these lines, or it was refused
pub record Prints {A O : Type 0} (run : Run A O) (meant : Image → Result (List ℕ) Fault) : Type 0 where
  pub lines : OnOk run.answer (OnImage run.old (λ bytes. IsOkAnd (meant bytes) (OutputGets run)))
  pub refused : IfErr run.answer (λ fault. OnImage run.old (λ bytes. IsRefusal (meant bytes) (λ lines. lines) run fault))
