use Rattle.std.proofs.Common.{◌≡◌, ◌≢◌, ◌⊎◌, ℕ, ◌+◌, ◌≤◌, List, [], ◌∷◌, ◌++◌, append-nil, flat_map, Result, Ok, Err, IsTrue, inl, inr, refl, subst, ◌∙◌, arith}
use Rattle.std.proofs.KnownBytes.{Appends-nil}
use Rattle.std.proofs.lemmas.Grind.{flat_map-append}
use Rattle.qcow2_base.specs.Storage.{Image, StorageState}
use Rattle.qcow2_base.specs.declared.fault.Fault.{Fault}
use Rattle.qcow2_base.specs.declared.fault.Fault.TheVariants.{NoMemory, Storage}
use Rattle.qcow2_check.specs.Findings.{checked_tables}
use Rattle.qcow2_check.specs.Uses.{ImageTables}
use Rattle.qcow2_layout.specs.Layout.{AreRunsTo, IsRun, LayoutState, Parts, layout_tables}
use Rattle.qcow2_layout.specs.Parts.{part_at, taken_end}
use Rattle.qcow2_layout.specs.declared.parts.Run.{Run}
use Rattle.qcow2_layout.proofs.ImageLemmas.{IsRunOf}
use Rattle.qcow2_metadata.specs.Header.{HeaderRecord}
use Rattle.qcow2_metadata.specs.Results.{IsFromOutside}
use Rattle.qcow2_session.proofs.PrintingLemmas.{read_fault-of, run_between}
use Rattle.qcow2_session.specs.Commands.Layout.{AreRunsOf, PrintsAllRuns, PrintsInLines, PrintsRunsFrom, PrintsSomeRuns, run_line}
use Rattle.qcow2_session.specs.Commands.Printing.{IsOutputFault, OutputBytes, OutputGets, OutputGetsPart, Run as Printed}

-- runs, and one more
runs-more : (cb : ℕ) (parts : Parts) (end from to : ℕ) (runs : List Run) (run : Run) → AreRunsTo cb parts end from runs to → IsRun cb parts end to run
    → AreRunsTo cb parts end from (runs ++ run ∷ []) (to + run.count)
runs-more cb parts end from to [] run same is = (rw same is, rw same refl)
runs-more cb parts end from to (x ∷ xs) run are is = (are.0, runs-more cb parts end (from + x.count) to xs run are.1 is)

pub runs_of-more : (tables : ImageTables) (image : Image) (from to : ℕ) (runs : List Run) (run : Run) → AreRunsOf tables image from runs to
    → IsRunOf tables image to run → AreRunsOf tables image from (runs ++ run ∷ []) (to + run.count)
runs_of-more tables image = runs-more tables.header.v2.cluster_bits (part_at tables image) (taken_end tables image)

-- the lines of runs, and of one more
pub run_lines-more : (runs : List Run) (run : Run) → flat_map run_line (runs ++ (run ∷ [])) ≡ flat_map run_line runs ++ run_line run
run_lines-more runs run = rw (flat_map-append run_line runs (run ∷ []), append-nil (run_line run)) refl

-- runs up to an image's end
pub runs-end : (tables : ImageTables) (image : Image) (from to : ℕ) (runs : List Run) → AreRunsOf tables image from runs to → to ≤ taken_end tables image
    → taken_end tables image ≤ to → AreRunsOf tables image from runs (taken_end tables image)
runs-end tables image from to runs are within past =
    let same : to ≡ taken_end tables image = omega (arith, within, past) in
    subst (λ (t : ℕ). AreRunsOf tables image from runs t) same are

-- the runs that are printed by what a reader has, which are those of the image that was there before it read
all-known : {A O : Type 0} (printed : Printed A O) (tables now : ImageTables) (image mid : Image) (at : ℕ) → now ≡ tables → at ≡ 0 → mid ≡ image
    → (runs : List Run) × AreRunsOf now mid at runs (taken_end now mid) × OutputGets printed (flat_map run_line runs) → PrintsAllRuns printed image tables
all-known printed tables now image mid at same begun bytes is =
    subst (λ (t : ImageTables). PrintsAllRuns printed image t) same (subst (λ (b : Image). PrintsAllRuns printed b now) bytes
    (subst (λ (n : ℕ). (runs : List Run) × AreRunsOf now mid n runs (taken_end now mid) × OutputGets printed (flat_map run_line runs)) begun is))

-- some runs from a cluster on are printed
abbrev SomeRunsFrom : {A O : Type 0} → ℕ → Fault → Printed A O → Image → ImageTables → Type 0
SomeRunsFrom at fault printed image tables = (runs : List Run) × (to : ℕ) × AreRunsOf tables image at runs to
    × ((IsFromOutside fault × OutputGets printed (flat_map run_line runs))
    ⊎ (IsOutputFault printed fault × OutputGetsPart printed (flat_map run_line runs)))

some-known : {A O : Type 0} (fault : Fault) (printed : Printed A O) (tables now : ImageTables) (image mid : Image) (at : ℕ) → now ≡ tables → at ≡ 0 → mid ≡ image
    → SomeRunsFrom at fault printed mid now → PrintsSomeRuns fault printed image tables
some-known fault printed tables now image mid at same begun bytes is =
    subst (λ (t : ImageTables). PrintsSomeRuns fault printed image t) same (subst (λ (b : Image). PrintsSomeRuns fault printed b now) bytes
    (subst (λ (n : ℕ). SomeRunsFrom n fault printed mid now) begun is))

-- how a print ends that didn't print all lines: it is the same over calls of the image before it, of which none failed
abbrev EndsEarly : {A O : Type 0} → Fault → Printed A O → List ℕ → Type 0
EndsEarly fault printed lines = (IsFromOutside fault × OutputGets printed lines) ⊎ (IsOutputFault printed fault × OutputGetsPart printed lines)

ends-over : (A : Type 0) {O : Type 0} (fault : Fault) (lines : List ℕ) (contents : O → OutputBytes) (old mid new : StorageState) (a c : O) → mid.failures ≡ old.failures
    → EndsEarly {A = A} fault (run_between contents (Err fault) mid new a c) lines → EndsEarly {A = A} fault (run_between contents (Err fault) old new a c) lines
ends-over A fault lines contents old mid new a c calm (inl outside) = inl outside
ends-over A fault lines contents old mid new a c calm (inr output) = inr ((output.0.0, output.0.1 ∙ calm), output.1)

-- what is printed of an image's runs is its layout, after its tables were read
pub layout-printed : {A O : Type 0} (answer : Result A Fault) (header : HeaderRecord) (tables : ImageTables) (reader : LayoutState) (contents : O → OutputBytes)
    (old mid new : StorageState) (a c : O) → layout_tables reader ≡ tables → (IsTrue old.tells → checked_tables header old.byte_at ≡ Ok tables) → reader.position ≡ 0
    → mid.byte_at ≡ old.byte_at → mid.tells ≡ old.tells → mid.failures ≡ old.failures → PrintsRunsFrom (run_between contents answer mid new a c) reader
    → PrintsInLines (run_between contents answer old new a c) header
layout-printed {A = A} (Ok done) header tables reader contents old mid new a c same read begun bytes tells calm printed = record {
  all = λ told.
      let here = all-known {A = A} (run_between contents (Ok done) old new a c) tables (layout_tables reader) old.byte_at mid.byte_at reader.position same begun bytes
      (printed.all (tells ∙ told)) in
      rw (read told) here;
  refused = tt;
}
layout-printed {A = A} (Err fault) header tables reader contents old mid new a c same read begun bytes tells calm printed = record {
  all = tt;
  refused = λ told.
      let part = printed.some (tells ∙ told) in
      let here = some-known {A = A} fault (run_between contents (Err fault) old new a c) tables (layout_tables reader) old.byte_at mid.byte_at reader.position same begun bytes
      (part.0, part.1, part.2, ends-over A fault (flat_map run_line part.0) contents old mid new a c calm part.3) in
      inr (rw (read told) here);
}

-- tables that can't be loaded: nothing is printed
pub layout-none : {A O : Type 0} (fault : Fault) (header : HeaderRecord) (contents : O → OutputBytes) (old new : StorageState) (a : O)
    → (IsTrue old.tells → (fault ≡ Storage) ⊎ (fault ≡ NoMemory) ⊎ (checked_tables header old.byte_at ≡ Err fault)) → (fault ≡ Storage → new.failures ≢ old.failures)
    → PrintsInLines {A = A} (run_between contents (Err fault) old new a a) header
layout-none {A = A} fault header contents old new a refused failed = record {
  all = tt;
  refused = λ told. inl (read_fault-of fault (checked_tables header old.byte_at) (run_between {A = A} contents (Err fault) old new a a) (refused told) failed, Appends-nil _);
}
