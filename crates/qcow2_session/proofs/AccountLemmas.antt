use Rattle.std.proofs.Common.{◌≡◌, Ok, Err, ℕ, ◌+◌, ◌≤◌, nat_lt, if◌then◌else◌, List, [], ◌∷◌, ◌++◌, sym, ap, ◌∙◌, append-nil, refl, arith}
use Rattle.std.proofs.lemmas.Bool.Decides.{nat_tests}
use Rattle.qcow2_base.specs.Storage.{Image, OnlyReads, StorageState}
use Rattle.qcow2_base.specs.declared.fault.Fault.{Fault}
use Rattle.qcow2_summary.proofs.ImageEndLemmas.{findings-end, last_below}
use Rattle.qcow2_check.specs.Counters.{CountersState}
use Rattle.qcow2_check.specs.FileEnd.{file_clusters}
use Rattle.qcow2_check.specs.Findings.{FindingsState, IsBegun, checked_tables, findings_left, image_findings, tables_of}
use Rattle.qcow2_check.specs.Flags.{FlagsState, flag_tables}
use Rattle.qcow2_check.specs.L1Length.{guest_clusters}
use Rattle.qcow2_check.specs.Totals.{corruptions_in, finding_totals, totals_within}
use Rattle.qcow2_check.specs.Uses.{ImageTables}
use Rattle.qcow2_check.specs.declared.findings.Finding.{Finding}
use Rattle.qcow2_check.specs.declared.totals.Totals.{Totals}
use Rattle.qcow2_metadata.specs.Header.{HeaderRecord, geometry_of, has_feature}
use Rattle.qcow2_metadata.specs.Results.{result_map}
use Rattle.qcow2_metadata.specs.declared.header.features.IncompatibleFeatures.TheVariants.{Corrupt, Dirty}
use Rattle.qcow2_summary.specs.EntryCounts.{counted_entries, entry_counts}
use Rattle.qcow2_summary.specs.ImageEnd.{findings_end, image_end, most_clusters}
use Rattle.qcow2_summary.specs.declared.entry_counts.EntryCounts.{EntryCounts}
use Rattle.qcow2_session.specs.Commands.Check.Account.{account_of, checked_account}
use Rattle.qcow2_session.specs.declared.commands.check.account.Account.{Account}

-- where one finding more is counted, the end is that of all still
pub found-end : (limit was is end : ℕ) (finding : Finding) (left later : List Finding)
    → is ≡ (if nat_lt finding.cluster.0 limit then finding.cluster.0 + 1 else was) → left ≡ finding ∷ later
    → last_below limit was left ≡ end → last_below limit is later ≡ end
found-end limit was is end finding left later same first before =
    ap (λ e. last_below limit e later) same ∙ sym (ap (last_below limit was) first) ∙ before

pub found-within : (limit was is cluster : ℕ) → is ≡ (if nat_lt cluster limit then cluster + 1 else was) → was ≤ limit → is ≤ limit
found-within limit was is cluster same before = grind (arith, nat_tests, same, before)

-- all are counted
pub found-all : (findings : FindingsState) (image : Image) (totals : Totals) (limit end : ℕ) (counted left : List Finding) → IsBegun findings
    → limit ≡ most_clusters findings.header → left ≡ []
    → findings_left findings image ≡ counted ++ left → totals ≡ finding_totals counted
    → last_below limit end left ≡ last_below limit 0 (findings_left findings image)
    → (totals ≡ finding_totals (image_findings (tables_of findings) image)) × (end ≡ findings_end (tables_of findings) image)
found-all findings image totals limit end counted left begun is_limit none are same ends =
    let tables = tables_of findings in
    let all : findings_left findings image ≡ image_findings tables image = rw (begun.0, begun.1) refl in
    let whole : counted ≡ image_findings tables image = sym (append-nil counted) ∙ sym (ap (λ rest. counted ++ rest) none) ∙ sym are ∙ all in (
      same ∙ ap finding_totals whole,
      sym (ap (last_below limit end) none) ∙ ends ∙ ap (last_below limit 0) all ∙ ap (λ n. last_below n 0 (image_findings tables image)) is_limit ∙ findings-end tables image,
    )

-- the counters that are read last are those of the same tables
pub tables-kept : (findings later : FindingsState) (flags last : FlagsState) (counters : CountersState) → tables_of later ≡ tables_of findings
    → flag_tables flags ≡ tables_of later → flag_tables last ≡ flag_tables flags → counters ≡ last.counters → last.counters.header ≡ last.header
    → (findings.header ≡ counters.header) × (findings.counters.reftable ≡ counters.reftable)
tables-kept findings later flags last counters same begun kept is of_header =
    let all : flag_tables last ≡ tables_of findings = kept ∙ begun ∙ same in (
      sym (ap (λ (t : ImageTables). t.header) all) ∙ sym of_header ∙ sym (ap (λ (c : CountersState). c.header) is),
      sym (ap (λ (t : ImageTables). t.reftable) all) ∙ sym (ap (λ (c : CountersState). c.reftable) is),
    )

-- the entries of tables that can be checked are counted
entries-checked : (header : HeaderRecord) (image : Image) (tables : ImageTables) (entries : EntryCounts) → checked_tables header image ≡ Ok tables
    → counted_entries header image ≡ Ok entries → (entries ≡ entry_counts (geometry_of tables.header) image tables.l1) × (tables.header ≡ header)
entries-checked header image tables entries found counted = grind (arith, found, counted)

-- what is counted of such tables is their account
pub account-is : (header : HeaderRecord) (len : ℕ) (image : Image) (tables : ImageTables) (account : Account) → checked_tables header image ≡ Ok tables
    → account.totals ≡ totals_within (file_clusters len header) tables image → account.corruptions ≡ corruptions_in header account.totals
    → account.image_end ≡ image_end tables image → account.guest_clusters ≡ guest_clusters header
    → account.is_dirty ≡ has_feature Dirty header.base → account.is_corrupt ≡ has_feature Corrupt header.base
    → counted_entries header image ≡ Ok account.entries → checked_account header len image ≡ Ok account
account-is header len image tables account found totals corruptions end guests dirty corrupt counted =
    let entries = entries-checked header image tables account.entries found counted in
    let same : account ≡ account_of (file_clusters len header) tables image = grind (arith, totals, rw (totals, ← entries.1) at corruptions, end, rw (← entries.1) at guests, rw (← entries.1) at dirty, rw (← entries.1) at corrupt, entries.0) in
    ap (λ checked. result_map (λ each. account_of (file_clusters len header) each image) checked) found ∙ ap Ok (sym same)

-- reads one after another, of which the last failed
pub reads-failed : {A B T : Type 0} (one : A) (fault : Fault) (a b c : StorageState) → OnlyReads (Ok one) a b → OnlyReads {T = B} (Err fault) b c
    → OnlyReads {T = T} (Err fault) a c
reads-failed one fault a b c first second = grind (arith, nat_tests, first, second)

-- and of which none did
pub reads-done : {A B T : Type 0} (one : A) (two : B) (value : T) (a b c : StorageState) → OnlyReads (Ok one) a b → OnlyReads (Ok two) b c
    → OnlyReads (Ok value) a c
reads-done one two value a b c first second = grind (arith, nat_tests, first, second)
