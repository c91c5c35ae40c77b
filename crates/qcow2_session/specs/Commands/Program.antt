-- How does a run of the program end, by what its words ask for?
use Rattle.std.specs.Prelude.{◌≡◌, ◌⊎◌, ℕ, ◌++◌, false, List, IfOk, IfSome, IsErr, Result, MatchResult}
use Rattle.std.specs.Io.KnownBytes.{Keeps}
use Rattle.qcow2_base.specs.Storage.ImageFiles.{ChangesOne, PathFile}
use Rattle.qcow2_base.specs.declared.fault.Fault.{Fault}
use Rattle.qcow2_base.specs.declared.fault.Fault.TheVariants.{NoMemory}
use Rattle.qcow2_check.specs.Verdict.{status_of_verdict}
use Rattle.qcow2_check.specs.declared.verdict.Verdict.{Verdict}
use Rattle.qcow2_check.specs.declared.verdict.Verdict.TheVariants.{Fine}
use Rattle.qcow2_session.specs.Commands.{facts_of}
use Rattle.qcow2_session.specs.Commands.Printing.{OutputBytes, PrintsText}
use Rattle.qcow2_session.specs.Commands.Report.{ReportsFault}
use Rattle.qcow2_session.specs.Commands.Request.{Asked, IsForCommand, for_command, for_nothing, for_place, for_text}
use Rattle.qcow2_session.specs.Commands.RunningOnFiles.{RunsOnFile}
use Rattle.qcow2_session.specs.Commands.Words.{Word}
use Rattle.qcow2_session.specs.declared.commands.Command.{Command}

-- what a run reaches: the files of paths, its output and its standard error, with the bytes that such outputs have got
pub record World (O E : Type 0) : Type 0 where
  pub file_at : Word → PathFile
  pub out_bytes : O → OutputBytes
  pub out : O
  pub err_bytes : E → OutputBytes
  pub err : E

-- the world of these
abbrev pub world : {O E : Type 0} → (Word → PathFile) → (O → OutputBytes) → O → (E → OutputBytes) → E → World O E
world file_at out_bytes out err_bytes err = record {
  file_at = file_at;
  out_bytes = out_bytes;
  out = out;
  err_bytes = err_bytes;
  err = err;
}

-- the bytes that the output has got
abbrev pub output_bytes : {O E : Type 0} → World O E → OutputBytes
output_bytes reached = reached.out_bytes reached.out

-- the bytes that standard error has got
abbrev pub error_bytes : {O E : Type 0} → World O E → OutputBytes
error_bytes reached = reached.err_bytes reached.err

-- what a run came to gave this status: that of its verdict, or its fault was reported
abbrev pub EndsAs : Result Verdict Fault → ℕ → OutputBytes → OutputBytes → Type 0
EndsAs answer status before after = MatchResult answer (λ verdict. status ≡ status_of_verdict verdict) (λ fault. ReportsFault fault status before after)

-- the text on a fault and some lines were printed, or it was refused before anything was
abbrev pub PrintsAnswer : Result Verdict Fault → OutputBytes → OutputBytes → List ℕ → Type 0
PrintsAnswer answer before after text = ((lines : List ℕ) × PrintsText answer before after (text ++ lines)) ⊎ (IsErr answer × Keeps before after)

-- a command ran over the file of a path. Only that file may have changed, by whatever name
pub record RunsCommand {O E : Type 0} (command : Command) (path : Word) (answer : Result Verdict Fault) (old new : World O E) : Type 0 where
  pub runs : RunsOnFile command (old.file_at path) (new.file_at path) answer old.out_bytes old.out new.out
  pub others : ChangesOne path old.file_at new.file_at
  pub place : IfSome (facts_of command).place_fault (λ _. IsErr answer × Keeps (output_bytes old) (output_bytes new))
  pub verdict : (facts_of command).has_verdict ≡ false → IfOk answer (λ verdict. verdict ≡ Fine)

-- what was asked for came to this: a text was printed, the place of a fault was told, or a command ran. Only a command changes
-- files
abbrev pub Serves : {O E : Type 0} → Asked → Result Verdict Fault → World O E → World O E → Type 0
Serves (for_text text) answer old new =
    PrintsText answer (output_bytes old) (output_bytes new) text × IfOk answer (λ verdict. verdict ≡ Fine) × (new.file_at ≡ old.file_at)
Serves (for_place text path) answer old new =
    PrintsAnswer answer (output_bytes old) (output_bytes new) text × IfOk answer (λ verdict. verdict ≡ Fine) × (new.file_at ≡ old.file_at)
Serves (for_command command path) answer old new = RunsCommand command path answer old new
Serves for_nothing answer old new = ⊥

-- nothing was printed to the output, and what is known of files stayed
abbrev pub SameButError : {O E : Type 0} → World O E → World O E → Type 0
SameButError old new = (new.out ≡ old.out) × (new.file_at ≡ old.file_at)

-- a run for what was asked for ended with this status: it came to an answer, or nothing was asked for
abbrev pub RunsRequest : {O E : Type 0} → Asked → ℕ → World O E → World O E → Type 0
RunsRequest asked status old new = ((answer : Result Verdict Fault) × Serves asked answer old new × EndsAs answer status (error_bytes old) (error_bytes new))
    ⊎ ((asked ≡ for_nothing) × (status ≡ 2) × SameButError old new)

-- the same of a line of words that asks for this: or memory ran out for its command, which was reported
abbrev pub RunsWords : {O E : Type 0} → Asked → ℕ → World O E → World O E → Type 0
RunsWords asked status old new = RunsRequest asked status old new
    ⊎ (IsForCommand asked × ReportsFault NoMemory status (error_bytes old) (error_bytes new) × SameButError old new)
