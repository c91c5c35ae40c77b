-- What does the command `check` print, and what is its verdict?
pub mod Account
pub mod Json
pub mod Lines
pub mod Runs
use Rattle.std.specs.Prelude.{◌≡◌, ◌≢◌, ◌⊎◌, Bool, false, true, ℕ, if◌then◌else◌, List, [], ◌∷◌, ◌++◌, flat_map, Option, Some, None, Result, Ok, Err, IfErr, IfOk, IsErrOf, IsOkAnd, MatchResult, OnOk, bytes_eq, codes}
use Rattle.qcow2_base.specs.Storage.{Image, OnImage, ReadsFor, StorageState}
use Rattle.qcow2_base.specs.declared.fault.Fault.{Fault}
use Rattle.qcow2_base.specs.declared.fault.Fault.TheVariants.{Storage}
use Rattle.qcow2_check.specs.FileEnd.{file_clusters}
use Rattle.qcow2_check.specs.Findings.{checked_tables, image_findings, past_findings}
use Rattle.qcow2_check.specs.Flags.{image_flags}
use Rattle.qcow2_check.specs.Totals.{totals_on, totals_within, verdict_in}
use Rattle.qcow2_check.specs.Uses.{ImageTables}
use Rattle.qcow2_metadata.specs.Header.{HeaderRecord, each_feature}
use Rattle.qcow2_metadata.specs.Results.{IsFromOutside, result_map}
use Rattle.qcow2_repair.specs.Refusals.{repair_within}
use Rattle.qcow2_repair.specs.Repair.{RepairsImage}
use Rattle.qcow2_check.specs.Failures.{RefusesAs}
use Rattle.qcow2_session.specs.Commands.Check.Json.{checked_object}
use Rattle.qcow2_session.specs.Commands.Check.Lines.{end_lines, flag_line, past_line, run_lines}
use Rattle.qcow2_session.specs.Commands.Check.Runs.{runs_of}
use Rattle.qcow2_session.specs.Commands.Facts.{CommandFacts, plain_facts}
use Rattle.qcow2_session.specs.Commands.Printing.{OutputGets, OutputGetsPart, Prints, Run}
use Rattle.qcow2_session.specs.Commands.Words.{Word, WordList}
use Rattle.qcow2_session.specs.declared.commands.Command.{Command}
use Rattle.qcow2_session.specs.declared.commands.Command.TheVariants as command
use Rattle.qcow2_session.specs.declared.commands.check.CheckForm.{CheckForm}
use Rattle.qcow2_session.specs.declared.commands.check.CheckForm.TheVariants as form
use Rattle.qcow2_check.specs.declared.verdict.Verdict.{Verdict}
use Rattle.qcow2_check.specs.declared.verdict.Verdict.TheVariants.{Harmful}

-- what a check comes to: its lines, and the verdict
pub record Report : Type 0 where
  pub lines : List ℕ
  pub verdict : Verdict

-- the lines of clusters of an image with these tables, in a file of that many clusters: the runs of findings, and those of used
-- clusters past the file's end
abbrev pub cluster_lines : ℕ → ImageTables → Image → List ℕ
cluster_lines file tables image =
    flat_map run_lines (runs_of (image_findings tables image)) ++ flat_map past_line (runs_of (past_findings file tables image))

-- the report on that image: these lines, the wrong flags, whether the L1 table is too short, and how many they are
abbrev pub report_on : ℕ → ImageTables → Image → Report
report_on file tables image =
    let flags = image_flags tables image in
    let totals = totals_within file tables image in
    record {
      lines = cluster_lines file tables image ++ flat_map flag_line flags ++ end_lines tables.header totals;
      verdict = verdict_in tables.header totals;
    }

-- the report on an image with this header and of this length, or why it can't be checked
abbrev pub checked_report : HeaderRecord → ℕ → Image → Result Report Fault
checked_report header len image =
    result_map (λ tables. report_on (file_clusters len header) tables image) (checked_tables header image)

-- an image with this header can be checked, and the verdict isn't `Harmful`, wherever its file ends
abbrev pub FindsNoHarm : HeaderRecord → Image → Type 0
FindsNoHarm header image = IsOkAnd (checked_tables header image) (λ tables. verdict_in tables.header (totals_on tables image) ≢ Harmful)

-- the lines of a report, none where there is no report
abbrev pub lines_of : Result Report Fault → List ℕ
lines_of (Ok report) = report.lines
lines_of (Err fault) = []

-- a run prints some lines that its image's bytes mean, or a beginning of them, where a fault comes from outside
pub record PrintsLines {A O : Type 0} (run : Run A O) (lines : Image → List ℕ) : Type 0 where
  pub all : OnOk run.answer (OnImage run.old (λ bytes. OutputGets run (lines bytes)))
  pub part : IfErr run.answer (λ fault. OnImage run.old (λ bytes. IsFromOutside fault × OutputGetsPart run (lines bytes)))

-- a run prints the report on its image, and has its verdict; or it was refused. Where the image can't be checked nothing is
-- printed, else a beginning of the report, since the fault came from outside
pub record PrintsReport {O : Type 0} (run : Run Verdict O) (report : Image → Result Report Fault) : Type 0 where
  pub lines : IfOk run.answer (λ verdict. OnImage run.old (λ bytes. IsOkAnd (report bytes) (λ found.
      (found.verdict ≡ verdict) × OutputGets run found.lines)))
  pub refused : IfErr run.answer (λ fault. OnImage run.old (λ bytes. ((report bytes ≡ Err fault) × OutputGets run [])
      ⊎ (IsFromOutside fault × OutputGetsPart run (lines_of (report bytes)))))

-- the verdict of a run is that of the report
abbrev pub HasVerdict : {O : Type 0} → Run Verdict O → (Image → Result Report Fault) → Type 0
HasVerdict run report = IfOk run.answer (λ verdict. OnImage run.old (λ bytes.
    IsOkAnd (report bytes) (λ found. found.verdict ≡ verdict)))

-- the command `check` that the name of its image and the words after it ask for
abbrev pub check_command : Word → WordList → Option Command
check_command image [] = Some (command.Check form.Text)
check_command image (word ∷ []) =
    if bytes_eq word (codes "json") then Some (command.Check (form.Json image))
    else if bytes_eq word (codes "repair") then Some (command.Check form.Repair) else None
check_command image _ = None

-- a run checks an image with this header: it prints the report, and may run out of memory after a part of it. It only reads
abbrev pub Checks : {O : Type 0} → HeaderRecord → Run Verdict O → Type 0
Checks header run = PrintsReport run (checked_report header run.old.len) × ReadsFor (IsErrOf run.answer Storage) run.old run.new

-- a run repairs an image with this header, and then checks what that left, with the header that it has then. That can be
-- checked, so a fault then is from outside. Or the repair was refused, before anything was printed
abbrev pub RepairsAndChecks : {O : Type 0} → HeaderRecord → Run Verdict O → Type 0
RepairsAndChecks header run = (repaired : Result HeaderRecord Fault) × (left : StorageState)
    × RepairsImage header repaired run.old left
    × OnImage run.old (λ bytes. RefusesAs (repair_within header run.old.len bytes) repaired) × MatchResult repaired
    (λ written. Checks written (record run { old = left }) × IfErr run.answer (λ fault. OnImage run.old (λ _. IsFromOutside fault)))
    (λ fault. (run.answer ≡ Err fault) × (run.new ≡ left) × (run.after ≡ run.before))

-- how a check of an image with this header ends, by its form: it prints the report, or the object in JSON at the end, or it
-- repairs the image and prints the report on what is left
abbrev pub EndsCheck : {O : Type 0} → CheckForm → HeaderRecord → Run Verdict O → Type 0
EndsCheck form.Text header run = Checks header run
EndsCheck (form.Json file_name) header run =
    Prints run (checked_object file_name header run.old.len) × HasVerdict run (checked_report header run.old.len)
EndsCheck form.Repair header run = RepairsAndChecks header run

-- whether a form of a check repairs the image
abbrev pub repairs : CheckForm → Bool
repairs form.Text = false
repairs (form.Json file_name) = false
repairs form.Repair = true

-- whether it prints before some faults
abbrev pub prints_early : CheckForm → Bool
prints_early form.Text = true
prints_early (form.Json file_name) = false
prints_early form.Repair = true

-- the facts of the command `check`
abbrev pub check_facts : CheckForm → CommandFacts
check_facts how = record (plain_facts (λ O header run. EndsCheck how header run)) {
  changes_image = repairs how;
  accepts = each_feature;
  prints_before_faults = prints_early how;
  has_verdict = true;
  reads_all_tables = true;
}
