use Rattle.std.proofs.lemmas.Bool.Decides.{nat_tests}
use Rattle.std.proofs.Common.{◌≡◌, ◌⊎◌, ℕ, List, [], ◌∷◌, ◌++◌, flat_map, length, take_all, None, Some, Result, Ok, Err, IsTrue, inl, inr, refl, sym, ap, subst, ◌∙◌, append-nil, arith}
use Rattle.std.specs.Result.{IfErr, IfOk, IsErrOf}
use Rattle.std.specs.Io.KnownBytes.{Appends}
use Rattle.std.proofs.KnownBytes.{Appends-nil, Appends-trans}
use Rattle.std.proofs.lemmas.Grind.{flat_map-append}
use Rattle.qcow2_base.specs.Storage.{Image, IsBytes, OnImage, OnlyReads, ReadsFor, StorageState}
use Rattle.qcow2_base.specs.declared.fault.Fault.{Fault}
use Rattle.qcow2_base.specs.declared.fault.Fault.TheVariants.{NoMemory, Storage}
use Rattle.qcow2_check.proofs.TotalsLemmas.{items-more, known-before}
use Rattle.qcow2_check.specs.FileEnd.{file_clusters}
use Rattle.qcow2_check.specs.Findings.{FindingsState, IsBegun, checked_tables, findings_left, image_findings, past_findings, tables_of}
use Rattle.qcow2_check.specs.Totals.{verdict_in, with_flags}
use Rattle.qcow2_check.specs.Uses.{ImageTables}
use Rattle.qcow2_check.specs.declared.flags.WrongFlag.{WrongFlag}
use Rattle.qcow2_repair.proofs.CheckableLemmas.{checkable-repaired}
use Rattle.qcow2_repair.specs.Repair.{IsRepaired, RepairsImage}
use Rattle.qcow2_session.proofs.OutputLemmas.{part-after, part-of_more, part_taken}
use Rattle.qcow2_metadata.specs.Header.{HeaderRecord, IsValidHeader}
use Rattle.qcow2_metadata.specs.Results.{IsFromOutside, result_map}
use Rattle.qcow2_session.proofs.PrintingLemmas.{run_between}
use Rattle.qcow2_session.specs.Commands.Check.{PrintsLines, PrintsReport, checked_report, lines_of, report_on}
use Rattle.qcow2_session.specs.Commands.Check.Runs.{RunsState, all_left, runs_left, runs_of}
use Rattle.qcow2_session.specs.Commands.Printing.{AppendsPart, OutputBytes, PrintsText}
use Rattle.qcow2_check.specs.declared.verdict.Verdict.{Verdict}
use Rattle.qcow2_check.specs.declared.totals.Totals.{Totals}

-- all of some bytes are a beginning of them
pub part-of_all : (a b : OutputBytes) (bytes : List ℕ) → Appends a b bytes → AppendsPart a b bytes
part-of_all a b bytes all = part_taken a b bytes (length bytes) (subst (λ xs. Appends a b xs) (sym (take_all (length bytes) bytes (omega arith))) all)

-- the line of one item more
pub lines-more : {T : Type 0} (line : T → List ℕ) (printed : List T) (item : T) (a b c : OutputBytes) → Appends a b (flat_map line printed) → Appends b c (line item)
    → Appends a c (flat_map line (printed ++ item ∷ []))
lines-more line printed item a b c before here =
    rw (flat_map-append line printed (item ∷ []), append-nil (line item)) (Appends-trans a b c (flat_map line printed) (line item) before here)

-- a print of items that ended before the ones that are left
pub lines-ended : {T : Type 0} (line : T → List ℕ) (all printed left : List T) (a b : OutputBytes) → all ≡ printed ++ left → Appends a b (flat_map line printed)
    → AppendsPart a b (flat_map line all)
lines-ended line all printed left a b are before =
    rw (are, flat_map-append line printed left) (part-of_more a b (flat_map line printed) (flat_map line left) (part-of_all a b (flat_map line printed) before))

-- a print of items that ended in the line of one of them
pub lines-failed : {T : Type 0} (line : T → List ℕ) (all printed left later : List T) (item : T) (a b c : OutputBytes) → all ≡ printed ++ left → left ≡ item ∷ later
    → Appends a b (flat_map line printed) → AppendsPart b c (line item) → AppendsPart a c (flat_map line all)
lines-failed line all printed left later item a b c are is before failed =
    rw (items-more all printed left later item are is, flat_map-append line (printed ++ item ∷ []) later, flat_map-append line printed (item ∷ []), append-nil (line item))
    (part-of_more a c (flat_map line printed ++ line item) (flat_map line later) (part-after a b c (flat_map line printed) (line item) before failed))

-- a print of items after the last
pub lines-all : {T : Type 0} (line : T → List ℕ) (all printed left : List T) (a b : OutputBytes) → all ≡ printed ++ left → left ≡ [] → Appends a b (flat_map line printed)
    → Appends a b (flat_map line all)
lines-all line all printed left a b are none before = rw (are, none, append-nil printed) before

-- a print of lines, and then of more
pub lines-then : {A B O : Type 0} (first : A) (answer : Result B Fault) (f g : Image → List ℕ) (contents : O → OutputBytes) (old mid new : StorageState) (a b c : O)
    → mid.tells ≡ old.tells → mid.byte_at ≡ old.byte_at
    → PrintsLines (run_between contents (Ok first) old mid a b) f → PrintsLines (run_between contents answer mid new b c) g
    → PrintsLines (run_between contents answer old new a c) (λ bytes. f bytes ++ g bytes)
lines-then first (Ok done) f g contents old mid new a b c tells bytes one other = record {
  all = λ told. Appends-trans (contents a) (contents b) (contents c) (f old.byte_at) (g old.byte_at) (one.all told)
      (known-before (λ image. Appends (contents b) (contents c) (g image)) old mid tells bytes other.all told);
  part = tt;
}
lines-then first (Err fault) f g contents old mid new a b c tells bytes one other = record {
  all = tt;
  part = λ told.
      let later = known-before (λ image. IsFromOutside fault × AppendsPart (contents b) (contents c) (g image)) old mid tells bytes other.part told in
      (later.0, part-after (contents a) (contents b) (contents c) (f old.byte_at) (g old.byte_at) (one.all told) later.1);
}

-- a print that failed, of lines that more would have followed
pub lines-no_more : {A B O : Type 0} (fault : Fault) (f g : Image → List ℕ) (contents : O → OutputBytes) (old new : StorageState) (a b : O)
    → PrintsLines {A = A} (run_between contents (Err fault) old new a b) f → PrintsLines {A = B} (run_between contents (Err fault) old new a b) (λ bytes. f bytes ++ g bytes)
lines-no_more fault f g contents old new a b failed = record {
  all = tt;
  part = λ told. let part = failed.part told in (part.0, part-of_more (contents a) (contents b) (f old.byte_at) (g old.byte_at) part.1);
}

-- a print of a text that is what the image's bytes mean
pub text-lines : {A O : Type 0} (answer : Result A Fault) (text : List ℕ) (f : Image → List ℕ) (contents : O → OutputBytes) (old new : StorageState) (a b : O)
    → OnImage old (λ bytes. text ≡ f bytes) → PrintsText answer (contents a) (contents b) text → PrintsLines (run_between contents answer old new a b) f
text-lines (Ok done) text f contents old new a b means prints = record { all = λ told. subst (λ bytes. Appends (contents a) (contents b) bytes) (means told) prints.text; part = tt }
text-lines (Err fault) text f contents old new a b means prints =
    record { all = tt; part = λ told. (inr prints.fault, subst (λ bytes. AppendsPart (contents a) (contents b) bytes) (means told) prints.part) }

-- a print of lines that are others
pub lines-as : {A O : Type 0} (answer : Result A Fault) (f g : Image → List ℕ) (contents : O → OutputBytes) (old new : StorageState) (a b : O)
    → OnImage old (λ bytes. f bytes ≡ g bytes) → PrintsLines (run_between contents answer old new a b) f → PrintsLines (run_between contents answer old new a b) g
lines-as (Ok done) f g contents old new a b same prints = record { all = λ told. subst (λ bytes. Appends (contents a) (contents b) bytes) (same told) (prints.all told); part = tt }
lines-as (Err fault) f g contents old new a b same prints = record {
  all = tt;
  part = λ told. let part = prints.part told in (part.0, subst (λ bytes. AppendsPart (contents a) (contents b) bytes) (same told) part.1);
}

-- a print after which something was read
pub lines-read : {A O : Type 0} (answer : Result A Fault) (f : Image → List ℕ) (contents : O → OutputBytes) (old mid new : StorageState) (a b : O)
    → PrintsLines (run_between contents answer old mid a b) f → PrintsLines (run_between contents answer old new a b) f
lines-read answer f contents old mid new a b prints = record { all = prints.all; part = prints.part }

-- nothing is a beginning of any bytes
nothing-printed : (a : OutputBytes) (bytes : List ℕ) → AppendsPart a a bytes
nothing-printed None bytes = tt
nothing-printed (Some xs) bytes = (0, sym (append-nil xs))

-- a fault of the storage before any line
pub no-lines : {A O : Type 0} (fault : Fault) (f : Image → List ℕ) (contents : O → OutputBytes) (old new : StorageState) (a : O) → fault ≡ Storage
    → PrintsLines {A = A} (run_between contents (Err fault) old new a a) f
no-lines fault f contents old new a failed = record { all = tt; part = λ told. (inr failed, nothing-printed (contents a) (f old.byte_at)) }

-- the findings and the runs that a reader of runs comes to from the image's begin
pub all-begin : (reader : RunsState) (findings : FindingsState) (image : Image) → reader ≡ record { findings = findings; ahead = None } → IsBegun findings
    → all_left reader image ≡ image_findings (tables_of findings) image
all-begin reader findings image is begun = rw (is, begun.0, begun.1) refl

pub runs-begin : (reader : RunsState) (findings : FindingsState) (image : Image) → reader ≡ record { findings = findings; ahead = None } → IsBegun findings
    → runs_left reader image ≡ runs_of (image_findings (tables_of findings) image)
runs-begin reader findings image is begun = ap runs_of (all-begin reader findings image is begun)

-- those that it comes to past the end of a file
pub past-begins : (reader : RunsState) (past : FindingsState) (tables others : ImageTables) (file clusters : ℕ) (old now : StorageState)
    → reader ≡ record { findings = past; ahead = None } → now.tells ≡ old.tells → now.byte_at ≡ old.byte_at
    → OnImage now (λ bytes. findings_left past bytes ≡ past_findings clusters others bytes) → others ≡ tables → clusters ≡ file
    → OnImage old (λ bytes. all_left reader bytes ≡ past_findings file tables bytes)
past-begins reader past tables others file clusters old now is tells bytes left same end = λ told.
    rw (is, ← same, ← end) (known-before (λ image. findings_left past image ≡ past_findings clusters others image) old now tells bytes left told)

-- what the totals of clusters and then of flags mean, after the reads
pub totals-mean : (first last : Totals) (meant : Image → Totals) (flags : Image → List WrongFlag) (old mid new : StorageState)
    → mid.tells ≡ old.tells → mid.byte_at ≡ old.byte_at → new.tells ≡ mid.tells → new.byte_at ≡ mid.byte_at
    → OnImage old (λ bytes. first ≡ meant bytes) → OnImage mid (λ bytes. last ≡ with_flags first (flags bytes))
    → OnImage new (λ bytes. last ≡ with_flags (meant bytes) (flags bytes))
totals-mean first last meant flags old mid new tells bytes later_tells later_bytes one other = λ told.
    let known : IsTrue old.tells = rw (later_tells, tells) at told in
    let both : last ≡ with_flags (meant old.byte_at) (flags old.byte_at) =
    known-before (λ image. last ≡ with_flags first (flags image)) old mid tells bytes other known
    ∙ ap (λ t. with_flags t (flags old.byte_at)) (one known) in
    subst (λ image. last ≡ with_flags (meant image) (flags image)) (sym (later_bytes ∙ bytes)) both

-- the verdict on totals is that on what they mean
pub verdict-means : (answer : Result Verdict Fault) (header other : HeaderRecord) (last : Totals) (meant : Image → Totals) (old new : StorageState)
    → other ≡ header → new.tells ≡ old.tells → new.byte_at ≡ old.byte_at
    → OnImage new (λ bytes. last ≡ meant bytes) → IfOk answer (λ verdict. verdict ≡ verdict_in header last)
    → IfOk answer (λ verdict. OnImage old (λ bytes. verdict ≡ verdict_in other (meant bytes)))
verdict-means (Ok verdict) header other last meant old new same tells bytes means is = λ told.
    is ∙ ap (λ h. verdict_in h last) (sym same)
    ∙ ap (verdict_in other) (means (tells ∙ told) ∙ ap meant bytes)
verdict-means (Err fault) header other last meant old new same tells bytes means is = tt

-- reads and prints that returned a value, and then others
pub reads_for-twice : {A told : Type 0} (value : A) (a b c : StorageState) → ReadsFor (IsErrOf {T = A} (Ok value) Storage) a b → ReadsFor told b c → ReadsFor told a c
reads_for-twice value a b c one other = grind (arith, nat_tests, one, other)

-- reads that returned a value, whatever else could have been
pub reads_for-any : {A told : Type 0} (value : A) (a b : StorageState) → ReadsFor (IsErrOf (Ok value) Storage) a b → ReadsFor told a b
reads_for-any value a b reads = grind (arith, nat_tests, reads)

-- a call that only reads
pub reads_only : {A : Type 0} (answer : Result A Fault) (a b : StorageState) → OnlyReads answer a b → ReadsFor (IsErrOf answer Storage) a b
reads_only answer a b reads = grind (arith, nat_tests, reads)

-- reads for which a fault is returned, whatever else could have been
pub reads_for-fault : {A B : Type 0} (fault : Fault) (a b : StorageState) → ReadsFor (IsErrOf {T = A} (Err fault) Storage) a b → ReadsFor (IsErrOf {T = B} (Err fault) Storage) a b
reads_for-fault fault a b reads = grind (arith, nat_tests, reads)

-- an image that can't be checked: nothing is printed
pub report-refused : {O : Type 0} (fault : Fault) (header : HeaderRecord) (len : ℕ) (contents : O → OutputBytes) (old new : StorageState) (a : O)
    → OnImage old (λ bytes. (fault ≡ Storage) ⊎ (fault ≡ NoMemory) ⊎ (checked_tables header bytes ≡ Err fault))
    → PrintsReport (run_between contents (Err fault) old new a a) (checked_report header len)
report-refused fault header len contents old new a why = record { lines = tt; refused = λ told. by_cause (why told) }
  where
    by_cause : (fault ≡ Storage) ⊎ (fault ≡ NoMemory) ⊎ (checked_tables header old.byte_at ≡ Err fault)
        → ((checked_report header len old.byte_at ≡ Err fault) × Appends (contents a) (contents a) [])
        ⊎ (IsFromOutside fault × AppendsPart (contents a) (contents a) (lines_of (checked_report header len old.byte_at)))
    by_cause (inl failed) = inr (inr failed, nothing-printed (contents a) (lines_of (checked_report header len old.byte_at)))
    by_cause (inr (inl full)) = inr (inl full, nothing-printed (contents a) (lines_of (checked_report header len old.byte_at)))
    by_cause (inr (inr refused)) = inl (ap (result_map (λ tables. report_on (file_clusters len header) tables old.byte_at)) refused, Appends-nil (contents a))

-- a report on the tables of an image with this header, after they were read
pub report-found : {O : Type 0} (answer : Result Verdict Fault) (header : HeaderRecord) (len file : ℕ) (tables : ImageTables) (contents : O → OutputBytes) (old mid new : StorageState) (a b : O)
    → mid.tells ≡ old.tells → mid.byte_at ≡ old.byte_at → OnImage old (λ bytes. checked_tables header bytes ≡ Ok tables)
    → file ≡ file_clusters len header → PrintsLines (run_between contents answer mid new a b) (λ bytes. (report_on file tables bytes).lines)
    → IfOk answer (λ verdict. OnImage mid (λ bytes. verdict ≡ (report_on file tables bytes).verdict))
    → PrintsReport (run_between contents answer old new a b) (checked_report header len)
report-found (Ok verdict) header len file tables contents old mid new a b tells bytes is end prints judged = record {
  lines = λ told. rw (is told, ← end) (
    sym (known-before (λ image. verdict ≡ (report_on file tables image).verdict) old mid tells bytes judged told),
    known-before (λ image. Appends (contents a) (contents b) (report_on file tables image).lines) old mid tells bytes prints.all told,
  );
  refused = tt;
}
report-found (Err fault) header len file tables contents old mid new a b tells bytes is end prints judged = record {
  lines = tt;
  refused = λ told. inr (rw (is told, ← end)
      (known-before (λ image. IsFromOutside fault × AppendsPart (contents a) (contents b) (report_on file tables image).lines) old mid tells bytes prints.part told));
}

-- a repaired image can be checked, so a check of it ends in no fault but one from outside
pub repaired-outside : {O : Type 0} (header written : HeaderRecord) (answer : Result Verdict Fault) (contents : O → OutputBytes) (old left new : StorageState) (a b : O)
    → IsValidHeader header → IsBytes old.byte_at → RepairsImage header (Ok written) old left
    → PrintsReport (run_between contents answer left new a b) (checked_report written left.len) → IfErr answer (λ fault. OnImage old (λ _. IsFromOutside fault))
repaired-outside header written (Ok verdict) contents old left new a b valid bytes repairs prints = tt
repaired-outside header written (Err fault) contents old left new a b valid bytes repairs prints = λ told.
    let is : IsRepaired (file_clusters old.len header) header written old.byte_at left.byte_at = repairs.repairs told in
    let found = checkable-repaired _ header is.0 written is.1 old.byte_at is.2 left.byte_at valid bytes is.3 is.4 in
    elim (prints.refused (rw repairs.storage.device.tells told)) [
      | inl meant ↦ absurd (grind (arith, found, meant.0))
      | inr outside ↦ outside.0
    ]
