-- How are findings of neighbouring clusters joined to runs?
use Rattle.std.specs.Prelude.{◌≡◌, ℕ, Bool, not, ◌&&◌, ◌==◌, ◌+◌, ◌-◌, ⊤, if◌then◌else◌, is_some, List, [], ◌∷◌, ◌++◌, Option, Some, None, option_to_list, Result, Ok, Err}
use Rattle.qcow2_base.specs.Format.{max_file_length}
use Rattle.qcow2_base.specs.Storage.{Image}
use Rattle.qcow2_base.specs.declared.fault.Fault.{Fault}
use Rattle.qcow2_check.specs.Findings.{FindingsState, findings_left}
use Rattle.qcow2_check.specs.declared.findings.Finding.{Finding}
use Rattle.qcow2_metadata.specs.Table.L2Guards.{one_if}
use Rattle.qcow2_session.specs.declared.commands.check.runs.FindingRun.{FindingRun}

-- a run of one finding
abbrev pub single : Finding → FindingRun
single finding = record { first = finding; count = 1 }

-- whether a finding is of the cluster after a run's last, and the same but for that
abbrev pub goes_on : FindingRun → Finding → Bool
goes_on run finding = finding.cluster.0 == run.first.cluster.0 + run.count && (finding.counter == run.first.counter
    && (finding.uses == run.first.uses && (if finding.shared then run.first.shared else not run.first.shared)))

-- runs of findings, with one more finding in front: it joins the first run, if that goes on from it
abbrev pub joined_before : Finding → List FindingRun → List FindingRun
joined_before finding [] = single finding ∷ []
joined_before finding (run ∷ runs) =
    if goes_on (single finding) run.first then record { first = finding; count = run.count + 1 } ∷ runs
    else single finding ∷ run ∷ runs

-- the runs that findings are: each is as long as it can be
abbrev pub runs_of : List Finding → List FindingRun
runs_of [] = []
runs_of (finding ∷ findings) = joined_before finding (runs_of findings)

-- what a reader of runs has: a reader of findings, and the finding that it has read beyond the last run
pub record RunsState : Type 0 where
  pub findings : FindingsState
  pub ahead : Option Finding

-- the findings that are in no run yet that a reader of runs has come to
abbrev pub all_left : RunsState → Image → List Finding
all_left reader image = option_to_list reader.ahead ++ findings_left reader.findings image

-- the runs that a reader comes to yet
abbrev pub runs_left : RunsState → Image → List FindingRun
runs_left reader image = runs_of (all_left reader image)

-- how many findings there can be yet
abbrev pub most_left : RunsState → ℕ
most_left reader = max_file_length - reader.findings.position + one_if (is_some reader.ahead)

-- what a reader of a list returns: the first of its items that are left, or nothing where none is
abbrev pub TakesFirst : {T : Type 0} → List T → List T → Result (Option T) Fault → Type 0
TakesFirst before after (Ok None) = before ≡ []
TakesFirst before after (Ok (Some first)) = before ≡ first ∷ after
TakesFirst before after (Err fault) = ⊤
