-- What stands on standard error after a run?
use Rattle.std.specs.Prelude.{◌≡◌, ◌≢◌, ℕ, List, ◌++◌, codes}
use Rattle.std.specs.Fmt.{decimal}
use Rattle.qcow2_base.specs.Fault.{fault_number}
use Rattle.qcow2_base.specs.declared.fault.Fault.{Fault}
use Rattle.qcow2_session.specs.Commands.Printing.{AppendsPart, OutputBytes}

-- the line of a fault
abbrev pub fault_line : Fault → List ℕ
fault_line fault = codes "qmeta: fault " ++ decimal (fault_number fault) ++ codes "\n"

-- the line for words that are no command
abbrev pub usage_line : List ℕ
usage_line = codes "usage: qmeta COMMAND IMAGE ARGUMENTS\n"

-- a fault was reported: by the status 1, and by its line on standard error, or a beginning of that
abbrev pub ReportsFault : Fault → ℕ → OutputBytes → OutputBytes → Type 0
ReportsFault fault status told telling = (status ≡ 1) × AppendsPart told telling (fault_line fault)

-- what a run of the program with this status wrote to standard error: the line of a fault, how the program is called, or a
-- beginning of these; nothing after any other status
pub record Reports {E : Type 0} (status : ℕ) (contents : E → OutputBytes) (old new : E) : Type 0 where
  pub verdict : status ≢ 1 → status ≢ 2 → new ≡ old
  pub fault : status ≡ 1 → (fault : Fault) × AppendsPart (contents old) (contents new) (fault_line fault)
  pub wrong_words : status ≡ 2 → AppendsPart (contents old) (contents new) usage_line
