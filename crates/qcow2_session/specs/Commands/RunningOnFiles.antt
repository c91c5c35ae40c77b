-- What does a run of a command come to over the file of a path?
use Rattle.std.specs.Prelude.{◌≡◌, ◌<◌, ◌⊎◌, ℕ, Bool, true, false, IsTrue, Option, Some, None, Result, Err, IsErrAnd, MatchResult}
use Rattle.qcow2_base.specs.Storage.{OnImage, OnlyReads, StorageState}
use Rattle.qcow2_base.specs.Storage.File.{state_over}
use Rattle.qcow2_base.specs.Storage.ImageFile.{OnFile}
use Rattle.qcow2_base.specs.Storage.ImageFiles.{PathFile}
use Rattle.qcow2_base.specs.declared.fault.Fault.{Fault}
use Rattle.qcow2_base.specs.declared.fault.Fault.TheVariants.{InUse, NoMemory, Storage}
use Rattle.qcow2_metadata.specs.Header.{HeaderRecord}
use Rattle.qcow2_session.specs.Commands.{facts_of}
use Rattle.qcow2_session.specs.Commands.Apply.{maps_refusal}
use Rattle.qcow2_session.specs.Commands.Printing.{OutputBytes, Run}
use Rattle.qcow2_session.specs.Commands.Running.{AfterHeader, EndsAndFlushes}
use Rattle.qcow2_session.specs.declared.commands.Command.{Command}
use Rattle.qcow2_session.specs.declared.commands.Command.TheVariants.{Apply}
use Rattle.qcow2_check.specs.declared.verdict.Verdict.{Verdict}

-- why a command doesn't go with an image with this header and of this length, if it doesn't, whatever its tables are
abbrev pub command_within : Command → HeaderRecord → ℕ → Option Fault
command_within (Apply form edits) header len = maps_refusal edits header len
command_within _ header len = None

-- a comparison ended in this answer: it was refused by this, or by a failed call of the image, or there was nothing to refuse
abbrev pub RefusesBy : {T : Type 0} → Option Fault → Result T Fault → Type 0
RefusesBy refusal answer = MatchResult answer (λ _. refusal ≡ None) (λ fault. (fault ≡ Storage) ⊎ (refusal ≡ Some fault))

-- a command goes with an image's end, where that is known
abbrev pub FitsEnd : Command → HeaderRecord → StorageState → Type 0
FitsEnd command header state = OnImage state (λ _. command_within command header state.len ≡ None)

-- a command was refused by the image's end, by that one where it is known, or a call of the image failed
pub record IsRefusedByEnd (command : Command) (header : HeaderRecord) (state : StorageState) (fault : Fault) : Type 0 where
  pub refusal : (fault ≡ Storage) ⊎ ((len : ℕ) × (command_within command header len ≡ Some fault))
  pub known : OnImage state (λ _. (fault ≡ Storage) ⊎ (command_within command header state.len ≡ Some fault))

-- a comparison of a command with the image's end ended in this answer
abbrev pub ComparesWithEnd : {T : Type 0} → Command → HeaderRecord → StorageState → Result T Fault → Type 0
ComparesWithEnd command header state answer = MatchResult answer
    (λ _. FitsEnd command header state)
    (λ fault. IsRefusedByEnd command header state fault)

-- with its header a run stopped before its command: since memory ran out for pages, or by the fault of that comparison. From
-- there on it printed nothing, and only read
pub record StopsBefore {O : Type 0} (command : Command) (header : HeaderRecord) (run : Run Verdict O) : Type 0 where
  pub fault : IsErrAnd run.answer (λ fault. ((fault ≡ NoMemory) × IsTrue (facts_of command).reads_all_tables)
      ⊎ IsRefusedByEnd command header run.old fault)
  pub reads : OnlyReads run.answer run.old run.new
  pub output : run.after ≡ run.before

-- with its header a command stopped before it ran, or it goes with the image's end and ran
abbrev pub StopsOrEnds : {O : Type 0} → Command → HeaderRecord → Run Verdict O → Type 0
StopsOrEnds command header run = StopsBefore command header run
    ⊎ (FitsEnd command header run.old × EndsAndFlushes (facts_of command) header run)

-- what is told of what a run came to: where another program came to the image, a call failed for that
abbrev pub told_beside : Bool → Result Verdict Fault → Result Verdict Fault
told_beside true (Err Storage) = Err InUse
told_beside in_use ran = ran

-- a run of a command over a file that was `old`, which is `new` now: the file could not be opened, or its header was looked
-- for, and what the run left of the image is in the file. Nobody else comes to a file that is known
abbrev pub RunsOnFile : {O : Type 0} → Command → PathFile → PathFile → Result Verdict Fault → (O → OutputBytes) → O → O → Type 0
RunsOnFile command old new answer contents before after =
    ((answer ≡ Err Storage) × (new.content ≡ old.content) × OnFile old.content (0 < new.failures) × (after ≡ before))
    ⊎ ((ran : Result Verdict Fault) × (in_use : Bool) × OnFile old.content (in_use ≡ false) × (answer ≡ told_beside in_use ran)
    × (failures : ℕ) × OnFile new.content (failures ≡ new.failures)
    × AfterHeader (facts_of command) (StopsOrEnds command) (record {
      answer = ran;
      old = state_over old.content 0;
      new = state_over new.content failures;
      contents = contents;
      before = before;
      after = after;
    }))
