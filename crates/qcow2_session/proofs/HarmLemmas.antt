use Rattle.std.proofs.Common.{◌≡◌, ◌≢◌, ℕ, Bool, true, false, List, Ok, ap, refl, subst, sym, arith}
use Rattle.std.proofs.lemmas.Bool.Decides.{nat_tests}
use Rattle.qcow2_base.specs.Storage.{Image}
use Rattle.qcow2_metadata.specs.Header.{HeaderRecord, IsValidHeader}
use Rattle.qcow2_metadata.specs.Header.Grammar.{header_of}
use Rattle.qcow2_metadata.specs.Header.Open.{without_autoclear}
use Rattle.qcow2_check.proofs.TotalsLemmas.{counts-none, none-counted}
use Rattle.qcow2_check.specs.Findings.{checked_tables, image_findings, is_missing}
use Rattle.qcow2_check.specs.Flags.{image_flags}
use Rattle.qcow2_check.specs.Totals.{finding_totals, harms_nobody, is_harmed, verdict_in, verdict_of, with_flags, with_past}
use Rattle.qcow2_check.specs.Uses.{ImageTables}
use Rattle.qcow2_check.specs.declared.findings.Finding.{Finding}
use Rattle.qcow2_apply.proofs.CheckedLemmas.{checked-planned, finds-none}
use Rattle.qcow2_apply.proofs.HeaderLeftLemmas.{header-left-by-check}
use Rattle.qcow2_apply.specs.Apply.{EditsDisk, FollowsPlan, LosesNoName, l2_tables_of}
use Rattle.qcow2_apply.specs.Errors.{HasNoErrors}
use Rattle.qcow2_apply.specs.Passes.{ArePlacesApart}
use Rattle.qcow2_apply.specs.Plan.{IsPlanFor, IsPlanOf}
use Rattle.qcow2_apply.specs.declared.changed_clusters.ChangedClusters.{ChangedClusters}
use Rattle.qcow2_apply.specs.declared.guest_edits.GuestEdit.{GuestEdit}
use Rattle.qcow2_apply.specs.declared.plan.Plan.{Plan}
use Rattle.qcow2_session.specs.Commands.Check.{FindsNoHarm}
use Rattle.qcow2_check.specs.declared.totals.Totals.{Totals}
use Rattle.qcow2_check.specs.declared.verdict.Verdict.{Verdict}
use Rattle.qcow2_check.specs.declared.verdict.Verdict.TheVariants.{Harmful}

-- where the verdict isn't `Harmful`, nothing is counted that does harm
harmless-zero : (totals : Totals) → verdict_of totals ≢ Harmful
    → (totals.missing ≡ 0) × (totals.shared ≡ 0) × (totals.false_flags ≡ 0) × (totals.past ≡ 0)
harmless-zero totals safe = by_test (harms_nobody totals) refl
  where
    by_test : (nobody : Bool) → harms_nobody totals ≡ nobody
        → (totals.missing ≡ 0) × (totals.shared ≡ 0) × (totals.false_flags ≡ 0) × (totals.past ≡ 0)
    by_test true nobody = grind (arith, nat_tests, nobody)
    by_test false harms = absurd (safe (rw harms refl))

-- and the other way around
zero-harmless : (totals : Totals) → totals.missing ≡ 0 → totals.shared ≡ 0 → totals.past ≡ 0 → totals.false_flags ≡ 0 → verdict_of totals ≢ Harmful
zero-harmless totals missing shared past false_flags = λ harmful. grind (arith, nat_tests, missing, shared, past, false_flags, harmful)

-- where the verdict on an image isn't `Harmful`, there is no damage that isn't counted, and what was found does no harm
harmless-in : (header : HeaderRecord) (totals : Totals) → verdict_in header totals ≢ Harmful
    → (is_harmed header ≡ false) × (verdict_of totals ≢ Harmful)
harmless-in header totals safe = by_test (is_harmed header) refl
  where
    by_test : (harmed : Bool) → is_harmed header ≡ harmed → (is_harmed header ≡ false) × (verdict_of totals ≢ Harmful)
    by_test true harmed = absurd (safe (rw harmed refl))
    by_test false unharmed = (unharmed, rw unharmed at safe)

-- the totals of an image with these tables, with that many used clusters past the end of its file
abbrev totals_past : ℕ → ImageTables → Image → Totals
totals_past past tables image = with_flags (with_past (finding_totals (image_findings tables image)) past) (image_flags tables image)

-- the verdict on these
abbrev pub verdict_past : ℕ → ImageTables → Image → Verdict
verdict_past past tables image = verdict_in tables.header (totals_past past tables image)

-- so an image has no errors where the verdict on it isn't `Harmful`
pub no-errors-of-verdict : (past : ℕ) (tables : ImageTables) (image : Image) → verdict_past past tables image ≢ Harmful → HasNoErrors tables image
no-errors-of-verdict past tables image safe =
    let zeros = harmless-zero (totals_past past tables image) (harmless-in tables.header (totals_past past tables image) safe).1 in
    let findings = image_findings tables image in
    let enough = none-counted is_missing findings zeros.0 in
    let apart = none-counted (λ (finding : Finding). finding.shared) findings zeros.1 in
    record {
      findings = λ k d below. (grind (arith, nat_tests, enough k d below), apart k d below);
      flags = none-counted (λ flag. flag.is_set) (image_flags tables image) (omega (arith, zeros.2));
    }

-- and no damage that isn't counted
pub unharmed-of-verdict : (past : ℕ) (tables : ImageTables) (image : Image) → verdict_past past tables image ≢ Harmful → is_harmed tables.header ≡ false
unharmed-of-verdict past tables image safe = (harmless-in tables.header (totals_past past tables image) safe).0

-- and none of its clusters lies past the end
pub within-of-verdict : (past : ℕ) (tables : ImageTables) (image : Image) → verdict_past past tables image ≢ Harmful → past ≡ 0
within-of-verdict past tables image safe =
    let zeros = harmless-zero (totals_past past tables image) (harmless-in tables.header (totals_past past tables image) safe).1 in
    omega (arith, zeros.3)

-- and only there
pub verdict-of-no-errors : (past : ℕ) (tables : ImageTables) (image : Image) → HasNoErrors tables image → is_harmed tables.header ≡ false → past ≡ 0
    → verdict_past past tables image ≢ Harmful
verdict-of-no-errors past tables image none unharmed within =
    let findings = image_findings tables image in
    let missing = counts-none is_missing findings (λ k d below. grind (arith, nat_tests, none.findings k d below)) in
    let shared = counts-none (λ (finding : Finding). finding.shared) findings (λ k d below. (none.findings k d below).1) in
    let flags = counts-none (λ flag. flag.is_set) (image_flags tables image) none.flags in
    rw unharmed (zero-harmless (totals_past past tables image) missing shared (omega (arith, within)) (omega (arith, flags)))

-- edits of a disk that were made by a plan leave no harm where there was none
no-harm-by-plan : (header : HeaderRecord) (edits : List GuestEdit) (plan : Plan) (old new : Image) (tables : ImageTables) → IsValidHeader header
    → IsPlanFor header edits plan → IsPlanOf header edits old plan → FollowsPlan header edits plan (Ok tt) old new → checked_tables header old ≡ Ok tables
    → ArePlacesApart (l2_tables_of tables) → FindsNoHarm header old → FindsNoHarm (without_autoclear header) new
no-harm-by-plan header edits plan old new tables valid for of follows checked apart safe =
    let before : verdict_past 0 tables old ≢ Harmful = rw checked at safe in
    let after = finds-none header edits plan old new tables valid for of follows checked apart (no-errors-of-verdict 0 tables old before) in
    let left : ImageTables = record tables { header = without_autoclear header } in
    let same : header ≡ tables.header = ap (λ (t : ImageTables). t.header) (checked-planned header edits plan old tables of checked) in
    let unharmed : is_harmed left.header ≡ false = subst (λ h. is_harmed h ≡ false) (sym same) (unharmed-of-verdict 0 tables old before) in
    rw after.0 (verdict-of-no-errors 0 left new after.1 unharmed refl)

-- and so do all that were made, with the header that they leave, which the image has then
pub no-harm-left : (header left : HeaderRecord) (edits : List GuestEdit) (clusters : ChangedClusters) (old new : Image) (tables : ImageTables)
    → IsValidHeader header → EditsDisk header left edits (Ok clusters) old new → checked_tables header old ≡ Ok tables
    → ArePlacesApart (l2_tables_of tables) → FindsNoHarm header old
    → FindsNoHarm left new × (header_of old ≡ Ok header → LosesNoName header → header_of new ≡ Ok left)
no-harm-left header left edits clusters old new tables valid (EditsDisk.Makes plan for of follows listed leaves) checked apart safe =
    let before : verdict_past 0 tables old ≢ Harmful = rw checked at safe in
    let none = no-errors-of-verdict 0 tables old before in
    subst (λ left. FindsNoHarm left new × (header_of old ≡ Ok header → LosesNoName header → header_of new ≡ Ok left)) (sym leaves) (
      no-harm-by-plan header edits plan old new tables valid for of follows checked apart safe,
      header-left-by-check header edits plan old new tables valid for of follows checked apart none,
    )
no-harm-left header left edits clusters old new tables valid (EditsDisk.Refuses why refused same unchanged) checked apart safe = absurd (grind (arith, refused))
