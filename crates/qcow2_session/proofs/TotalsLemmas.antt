use Rattle.std.proofs.Common.{◌≡◌, ℕ, Bool, true, false, not, ◌+◌, List, [], ◌∷◌, cond, refl, sym, ◌∙◌, arith}
use Rattle.std.proofs.lemmas.Bool.Decides.{nat_tests}
use Rattle.std.proofs.lemmas.List.Sums.{sum_by-cons}
use Rattle.std.specs.List.{sum_by}
use Rattle.qcow2_base.specs.Storage.{Image}
use Rattle.qcow2_check.proofs.FindingsListLemmas.{none-just-where-right, past-unused, unused-past}
use Rattle.qcow2_check.specs.Findings.{EndsWithin}
use Rattle.qcow2_check.specs.Flags.{image_flags}
use Rattle.qcow2_check.specs.Totals.{is_harmed, totals_within, verdict_of}
use Rattle.qcow2_check.specs.Uses.{ImageTables}
use Rattle.qcow2_check.specs.declared.flags.WrongFlag.{WrongFlag}
use Rattle.qcow2_metadata.specs.Table.L2Guards.{one_if}
use Rattle.qcow2_summary.specs.Consistency.{IsConsistent}
use Rattle.qcow2_session.proofs.ConsistentLemmas.{fine-in, fine-past, right-where-fine}
use Rattle.qcow2_session.specs.Commands.Check.{report_on}
use Rattle.qcow2_check.specs.declared.totals.Totals.{Totals}
use Rattle.qcow2_check.specs.declared.verdict.Verdict.TheVariants.{Fine}

-- where the verdict is that all is fine, no flag is counted
fine-flags : (totals : Totals) → verdict_of totals ≡ Fine → (totals.false_flags ≡ 0) × (totals.late_flags ≡ 0)
fine-flags totals fine = grind (arith, nat_tests, fine)

-- a flag that is set or not is counted
counts : (is_set : Bool) (m n : ℕ) → cond is_set 1 0 + m ≡ 0 → cond (not is_set) 1 0 + n ≡ 0 → ⊥
counts true m n set unset = omega (arith, set)
counts false m n set unset = omega (arith, unset)

-- so where none is counted, there is none
no-flags : (flags : List WrongFlag) → sum_by (λ (flag : WrongFlag). one_if flag.is_set) flags ≡ 0
    → sum_by (λ (flag : WrongFlag). one_if (not flag.is_set)) flags ≡ 0 → flags ≡ []
no-flags [] set unset = refl
no-flags (flag ∷ flags) set unset = absurd (counts flag.is_set _ _
    (sym (sum_by-cons (λ (flag : WrongFlag). one_if flag.is_set) flag flags) ∙ set)
    (sym (sum_by-cons (λ (flag : WrongFlag). one_if (not flag.is_set)) flag flags) ∙ unset))

pub consistent-where-fine : (file : ℕ) (tables : ImageTables) (image : Image) → (report_on file tables image).verdict ≡ Fine
    → IsConsistent tables image × EndsWithin file tables image × (is_harmed tables.header ≡ false)
consistent-where-fine file tables image fine =
    let both = fine-in tables.header (totals_within file tables image) fine in
    let none = fine-flags (totals_within file tables image) both.1 in
    let past = fine-past (totals_within file tables image) both.1 in (
      (
        (none-just-where-right tables image).1 (right-where-fine file tables image fine),
        no-flags (image_flags tables image) (omega (arith, none.0)) (omega (arith, none.1)),
      ),
      unused-past file tables image (omega (arith, past)),
      both.0,
    )

pub fine-where-consistent : (file : ℕ) (tables : ImageTables) (image : Image)
    → IsConsistent tables image × EndsWithin file tables image × (is_harmed tables.header ≡ false) → (report_on file tables image).verdict ≡ Fine
fine-where-consistent file tables image none = rw (none.2, none.0.0, none.0.1, past-unused file tables image none.1) refl
