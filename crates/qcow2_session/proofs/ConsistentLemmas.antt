use Rattle.std.proofs.Common.{◌≡◌, ℕ, zero, suc, Bool, true, false, ◌+◌, List, [], ◌∷◌, length, ap, refl, arith}
use Rattle.std.proofs.lemmas.Bool.Decides.{nat_tests}
use Rattle.std.proofs.lemmas.List.Elements.{All-head}
use Rattle.std.specs.List.{sum_by}
use Rattle.qcow2_base.specs.Format.{max_file_length}
use Rattle.qcow2_base.specs.Storage.{Image}
use Rattle.qcow2_check.proofs.FindingsListLemmas.{none-just-where-right}
use Rattle.qcow2_check.proofs.TotalsLemmas.{none-counted}
use Rattle.qcow2_check.specs.Findings.{AreRight, finding_at, findings_from, image_findings, is_leaked, is_missing, is_wrong, past_findings, sought_from}
use Rattle.qcow2_check.specs.Flags.{image_flags}
use Rattle.qcow2_check.specs.Totals.{finding_totals, is_harmed, totals_within, verdict_in, verdict_of, with_flags, with_past}
use Rattle.qcow2_check.specs.Uses.{ImageTables}
use Rattle.qcow2_check.specs.declared.findings.Finding.{Finding}
use Rattle.qcow2_check.specs.declared.flags.WrongFlag.{WrongFlag}
use Rattle.qcow2_metadata.specs.Header.{HeaderRecord}
use Rattle.qcow2_metadata.specs.Table.L2Guards.{one_if}
use Rattle.qcow2_session.specs.Commands.Check.{report_on}
use Rattle.qcow2_check.specs.declared.totals.Totals.{Totals}
use Rattle.qcow2_check.specs.declared.verdict.Verdict.TheVariants.{Fine, Harmful}

-- the first of the findings is of a cluster that something is wrong with
first-wrong : (tables : ImageTables) (image : Image) (from count : ℕ) (found : Finding) (rest : List Finding)
    → findings_from tables image from count ≡ found ∷ rest → is_wrong found ≡ true
unfolding sought_from
first-wrong tables image from zero found rest is = absurd (omega (arith, ap length is))
first-wrong tables image from (suc count) found rest is = with_next (first-wrong tables image (from + 1) count found rest)
  where
    with_next : (findings_from tables image (from + 1) count ≡ found ∷ rest → is_wrong found ≡ true) → is_wrong found ≡ true
    with_next next = elim (is_wrong (finding_at tables image from)) as (λ test. is_wrong (finding_at tables image from) ≡ test → is_wrong found ≡ true) [
      | true ↦ λ wrong. grind (arith, wrong, is)
      | false ↦ λ right. next (grind (arith, right, is))
    ] refl

-- where the verdict on an image is that all is fine, there is no damage that isn't counted, and what was found is fine too
pub fine-in : (header : HeaderRecord) (totals : Totals) → verdict_in header totals ≡ Fine
    → (is_harmed header ≡ false) × (verdict_of totals ≡ Fine)
fine-in header totals fine = by_test (is_harmed header) refl
  where
    by_test : (harmed : Bool) → is_harmed header ≡ harmed → (is_harmed header ≡ false) × (verdict_of totals ≡ Fine)
    by_test true harmed = absurd (never (rw harmed at fine))
      where
        never : Harmful ≡ Fine → ⊥
        never is = grind (arith, is)
    by_test false unharmed = (unharmed, rw unharmed at fine)

-- where the verdict is that all is fine, nothing is counted
fine-zero : (totals : Totals) → verdict_of totals ≡ Fine → (totals.leaked ≡ 0) × (totals.missing ≡ 0) × (totals.shared ≡ 0)
fine-zero totals fine = grind (arith, nat_tests, fine)

pub fine-past : (totals : Totals) → verdict_of totals ≡ Fine → totals.past ≡ 0
fine-past totals fine = grind (arith, nat_tests, fine)

-- the first of findings is of no kind that none of them is counted as
first-not : (is_kind : Finding → Bool) (finding : Finding) (findings : List Finding) → sum_by (λ f. one_if (is_kind f)) (finding ∷ findings) ≡ 0 → is_kind finding ≡ false
first-not is_kind finding findings none = All-head (λ f. is_kind f ≡ false) finding findings (none-counted is_kind (finding ∷ findings) none)

-- nothing is wrong with a finding of such a verdict
fine-right : (finding : Finding) (findings : List Finding) (past : ℕ) (flags : List WrongFlag)
    → verdict_of (with_flags (with_past (finding_totals (finding ∷ findings)) past) flags) ≡ Fine → is_wrong finding ≡ false
fine-right finding findings past flags fine =
    let zeros = fine-zero (with_flags (with_past (finding_totals (finding ∷ findings)) past) flags) fine in
    let leaked = first-not is_leaked finding findings zeros.0 in
    let missing = first-not is_missing finding findings zeros.1 in
    let shared = first-not (λ (f : Finding). f.shared) finding findings zeros.2 in
    grind (arith, nat_tests, leaked, missing, shared)

-- so there is none
fine-none : (tables : ImageTables) (image : Image) (past : ℕ) (flags : List WrongFlag) (findings : List Finding) → image_findings tables image ≡ findings
    → verdict_of (with_flags (with_past (finding_totals findings) past) flags) ≡ Fine → findings ≡ []
fine-none tables image past flags [] are fine = refl
fine-none tables image past flags (finding ∷ findings) are fine =
    let wrong = first-wrong tables image 0 max_file_length finding findings are in
    let right = fine-right finding findings past flags fine in
    grind (arith, wrong, right)

-- and nothing is wrong with any cluster
pub right-where-fine : (file : ℕ) (tables : ImageTables) (image : Image) → (report_on file tables image).verdict ≡ Fine → AreRight tables image 0 max_file_length
right-where-fine file tables image fine =
    let found = (fine-in tables.header (totals_within file tables image) fine).1 in
    (none-just-where-right tables image).0
    (fine-none tables image (length (past_findings file tables image)) (image_flags tables image) (image_findings tables image) refl found)
