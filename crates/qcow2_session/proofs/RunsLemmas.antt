use Rattle.std.proofs.Common.{◌≡◌, ℕ, zero, suc, Bool, true, false, ◌+◌, if◌then◌else◌, List, [], ◌∷◌, ◌++◌, length, cond, refl, sym, ap, ◌∙◌, ◌<◌, append-nil, append_assoc, arith}
use Rattle.std.proofs.lemmas.Bool.Decides.{nat_tests}
use Rattle.std.proofs.lemmas.List.Sums.{sum_by-cons, sum_by_push}
use Rattle.std.specs.List.{sum_by}
use Rattle.qcow2_metadata.specs.Table.L2Guards.{one_if}
use Rattle.qcow2_check.specs.Findings.{is_leaked, is_missing}
use Rattle.qcow2_check.specs.Totals.{finding_totals, with_clusters, with_past}
use Rattle.qcow2_check.specs.declared.findings.Finding.{Finding}
use Rattle.qcow2_check.specs.declared.totals.Totals.{Totals}
use Rattle.qcow2_session.specs.Commands.Check.Runs.{goes_on, runs_of, joined_before, single}
use Rattle.qcow2_session.specs.declared.commands.check.runs.FindingRun.{FindingRun}

-- the finding that many clusters further on, and the same but for that
abbrev pub further : Finding → ℕ → Finding
further finding n = record finding { cluster = record { 0 = finding.cluster.0 + n } }

-- the findings of a run, by that of its first cluster
unfoldable pub members : Finding → ℕ → List Finding
members finding zero = []
members finding (suc n) = finding ∷ members (further finding 1) n

-- a finding that goes on from a run is the one after its last
pub goes-further : (finding next : Finding) (n : ℕ) → goes_on (record { first = finding; count = n }) next ≡ true → next ≡ further finding n
goes-further finding next n on = by_flags next.shared finding.shared refl refl
  where
    by_flags : (one other : Bool) → next.shared ≡ one → finding.shared ≡ other → next ≡ further finding n
    by_flags true true is was = grind (arith, nat_tests, on, is, was)
    by_flags true false is was = grind (arith, nat_tests, on, is, was)
    by_flags false true is was = grind (arith, nat_tests, on, is, was)
    by_flags false false is was = grind (arith, nat_tests, on, is, was)

-- a run that begins with a finding, before others
pub record BeginsWith (finding : Finding) (runs : List FindingRun) : Type 0 where
  pub run : FindingRun
  pub others : List FindingRun
  pub are : runs ≡ run ∷ others
  pub first : run.first ≡ finding

-- the first of joined runs begins with the first finding
joined-first : (finding : Finding) (runs : List FindingRun) → BeginsWith finding (joined_before finding runs)
joined-first finding [] = record { run = single finding; others = []; are = refl; first = refl }
joined-first finding (run ∷ runs) = by_test (goes_on (single finding) run.first) refl
  where
    by_test : (on : Bool) → goes_on (single finding) run.first ≡ on → BeginsWith finding (joined_before finding (run ∷ runs))
    by_test true on = record { run = record { first = finding; count = run.count + 1 }; others = runs; are = rw on refl; first = refl }
    by_test false off = record { run = single finding; others = run ∷ runs; are = rw off refl; first = refl }

-- a finding goes on to the one after it
goes-on-further : (finding : Finding) → goes_on (single finding) (further finding 1) ≡ true
goes-on-further finding = by_flag finding.shared refl
  where
    by_flag : (shared : Bool) → finding.shared ≡ shared → goes_on (single finding) (further finding 1) ≡ true
    by_flag true is = grind (arith, nat_tests, is)
    by_flag false is = grind (arith, nat_tests, is)

-- and to the run that begins there
joins : (finding : Finding) (n m : ℕ) (runs : List FindingRun) → m ≡ n + 1
    → joined_before finding (record { first = further finding 1; count = n } ∷ runs) ≡ record { first = finding; count = m } ∷ runs
joins finding n m runs is = rw (goes-on-further finding, is) refl

-- findings of one run are joined to it
pub joined-one : (finding : Finding) (n : ℕ) → runs_of (members finding (suc n)) ≡ record { first = finding; count = suc n } ∷ []
unfolding members
joined-one finding zero = refl
joined-one finding (suc n) = ap (joined_before finding) (joined-one (further finding 1) n) ∙ joins finding (suc n) (suc (suc n)) [] (omega arith)

-- and so are they before a finding that doesn't go on from them
pub joined-more : (finding : Finding) (n : ℕ) (next : Finding) (rest : List Finding) → goes_on (record { first = finding; count = suc n }) next ≡ false
    → runs_of (members finding (suc n) ++ next ∷ rest) ≡ record { first = finding; count = suc n } ∷ runs_of (next ∷ rest)
unfolding members
joined-more finding zero next rest ends =
    let begins = joined-first next (runs_of rest) in
    rw (begins.are, begins.first, ends) refl
joined-more finding (suc n) next rest ends =
    let sum : finding.cluster.0 + 1 + suc n ≡ finding.cluster.0 + suc (suc n) = omega arith in
    let later : goes_on (record { first = further finding 1; count = suc n }) next ≡ false = rw sum ends in
    ap (joined_before finding) (joined-more (further finding 1) n next rest later) ∙ joins finding (suc n) (suc (suc n)) (runs_of (next ∷ rest)) (omega arith)

-- a finding many clusters further on than one that is further on itself
further-twice : (finding : Finding) (n : ℕ) → further (further finding 1) n ≡ further finding (suc n)
further-twice finding n = ap (λ c. record finding { cluster = record { 0 = c } }) (omega arith)

-- one finding more in a run
pub members-more : (finding : Finding) (n : ℕ) → members finding (suc n) ≡ members finding n ++ further finding n ∷ []
unfolding members
members-more finding zero = ap (λ c. record finding { cluster = record { 0 = c } } ∷ []) (omega arith)
members-more finding (suc n) = ap (λ rest. finding ∷ rest) (members-more (further finding 1) n ∙ ap (λ last. members (further finding 1) n ++ last ∷ []) (further-twice finding n))

-- a run of its first finding alone
pub run-begins : (finding : Finding) (rest : List Finding) → finding ∷ rest ≡ members finding 1 ++ rest
unfolding members
run-begins finding rest = refl

-- a run that a finding goes on from
pub run-goes_on : (run : FindingRun) (next : Finding) (all left later : List Finding) → goes_on run next ≡ true
    → all ≡ members run.first run.count ++ left → left ≡ next ∷ later → all ≡ members run.first (run.count + 1) ++ later
run-goes_on run next all left later on are is =
    let one_more : run.count + 1 ≡ suc run.count = omega arith in
    rw (one_more, members-more run.first run.count, append_assoc (members run.first run.count) (further run.first run.count ∷ []) later)
    (are ∙ ap (λ rest. members run.first run.count ++ rest) (is ∙ ap (λ f. f ∷ later) (goes-further run.first next run.count on)))

-- a run that nothing is found after
pub run-ends : (run : FindingRun) (all : List Finding) → 0 < run.count → all ≡ members run.first run.count ++ [] → runs_of all ≡ run ∷ []
run-ends run all some are = by_count run.count refl
  where
    by_count : (n : ℕ) → run.count ≡ n → runs_of all ≡ run ∷ []
    by_count zero is = absurd (omega (arith, some, is))
    by_count (suc n) is = ap runs_of (are ∙ append-nil (members run.first run.count) ∙ ap (members run.first) is) ∙ joined-one run.first n
        ∙ ap (λ k. record run { count = k } ∷ []) (sym is)

-- a run before a finding that doesn't go on from it
pub run-stops : (run : FindingRun) (next : Finding) (all left later : List Finding) → 0 < run.count → goes_on run next ≡ false
    → all ≡ members run.first run.count ++ left → left ≡ next ∷ later → runs_of all ≡ run ∷ runs_of (next ∷ later)
run-stops run next all left later some off are is = by_count run.count refl
  where
    by_count : (n : ℕ) → run.count ≡ n → runs_of all ≡ run ∷ runs_of (next ∷ later)
    by_count zero none = absurd (omega (arith, some, none))
    by_count (suc n) count = ap runs_of (are ∙ ap (λ rest. members run.first run.count ++ rest) is ∙ ap (λ k. members run.first k ++ next ∷ later) count)
        ∙ joined-more run.first n next later (rw count at off) ∙ ap (λ k. record run { count = k } ∷ runs_of (next ∷ later)) (sym count)

-- how many clusters of a run are of a kind: all or none
abbrev pub clusters_of : (Finding → Bool) → FindingRun → ℕ
clusters_of is_kind run = if is_kind run.first then run.count else 0

-- how many clusters of runs are of each kind
abbrev pub run_totals : List FindingRun → Totals
run_totals runs = record {
  leaked = sum_by (clusters_of is_leaked) runs;
  missing = sum_by (clusters_of is_missing) runs;
  shared = sum_by (clusters_of (λ (finding : Finding). finding.shared)) runs;
  past = 0;
  false_flags = 0;
  late_flags = 0;
}

-- how many clusters of runs are of a kind, with a finding in front
kind-joined : (is_kind : Finding → Bool) → ((finding : Finding) → is_kind (further finding 1) ≡ is_kind finding)
    → (finding : Finding) (runs : List FindingRun)
    → sum_by (clusters_of is_kind) (joined_before finding runs) ≡ clusters_of is_kind (single finding) + sum_by (clusters_of is_kind) runs
kind-joined is_kind same finding [] = sum_by-cons (clusters_of is_kind) (single finding) []
kind-joined is_kind same finding (run ∷ runs) = by_test (goes_on (single finding) run.first) refl
  where
    by_kind : (of_kind : Bool) (count rest : ℕ) → cond of_kind (count + 1) 0 + rest ≡ cond of_kind 1 0 + (cond of_kind count 0 + rest)
    by_kind true count rest = omega arith
    by_kind false count rest = omega arith

    by_test : (on : Bool) → goes_on (single finding) run.first ≡ on
        → sum_by (clusters_of is_kind) (joined_before finding (run ∷ runs)) ≡ clusters_of is_kind (single finding) + sum_by (clusters_of is_kind) (run ∷ runs)
    by_test true on =
        let kind : is_kind run.first ≡ is_kind finding = ap is_kind (goes-further finding run.first 1 on) ∙ same finding in
        let longer : FindingRun = record { first = finding; count = run.count + 1 } in
        rw on (sum_by-cons (clusters_of is_kind) longer runs ∙ by_kind (is_kind finding) run.count (sum_by (clusters_of is_kind) runs)
        ∙ ap (λ k. cond (is_kind finding) 1 0 + (cond k run.count 0 + sum_by (clusters_of is_kind) runs)) (sym kind)
        ∙ ap (λ n. cond (is_kind finding) 1 0 + n) (sym (sum_by-cons (clusters_of is_kind) run runs)))
    by_test false off = rw off (sum_by-cons (clusters_of is_kind) (single finding) (run ∷ runs))

-- the clusters of a kind, of all runs, are the findings of the kind
found-in-runs : (is_kind : Finding → Bool) → ((finding : Finding) → is_kind (further finding 1) ≡ is_kind finding) → (findings : List Finding)
    → sum_by (clusters_of is_kind) (runs_of findings) ≡ sum_by (λ finding. one_if (is_kind finding)) findings
found-in-runs is_kind same [] = refl
found-in-runs is_kind same (finding ∷ findings) =
    kind-joined is_kind same finding (runs_of findings)
    ∙ ap (λ n. clusters_of is_kind (single finding) + n) (found-in-runs is_kind same findings)
    ∙ sym (sum_by-cons (λ finding. one_if (is_kind finding)) finding findings)

-- so their totals are those of the findings
totals-of-runs : (findings : List Finding) → run_totals (runs_of findings) ≡ finding_totals findings
totals-of-runs findings = rw (
  found-in-runs is_leaked (λ f. refl) findings,
  found-in-runs is_missing (λ f. refl) findings,
  found-in-runs (λ (f : Finding). f.shared) (λ f. refl) findings,
) refl

-- the totals of one run more
pub totals-run : (printed : List FindingRun) (run : FindingRun) → with_clusters (run_totals printed) run.first run.count ≡ run_totals (printed ++ run ∷ [])
totals-run printed run =
    rw (sum_by_push (clusters_of is_leaked) printed run, sum_by_push (clusters_of is_missing) printed run, sum_by_push (clusters_of (λ (f : Finding). f.shared)) printed run) refl

-- all runs are counted
pub totals-all : (findings : List Finding) (printed left : List FindingRun) (totals : Totals) → runs_of findings ≡ printed ++ left → left ≡ [] → totals ≡ run_totals printed
    → totals ≡ finding_totals findings
totals-all findings printed left totals are none same =
    same ∙ ap run_totals (sym (are ∙ ap (λ rest. printed ++ rest) none ∙ append-nil printed)) ∙ totals-of-runs findings

-- how many clusters there are in runs
abbrev pub run_lengths : List FindingRun → ℕ
run_lengths [] = 0
run_lengths (run ∷ runs) = run.count + run_lengths runs

-- with a finding in front there is one more
length-joined : (finding : Finding) (runs : List FindingRun) → run_lengths (joined_before finding runs) ≡ run_lengths runs + 1
length-joined finding [] = refl
length-joined finding (run ∷ runs) = by_test (goes_on (single finding) run.first) refl
  where
    by_test : (on : Bool) → goes_on (single finding) run.first ≡ on → run_lengths (joined_before finding (run ∷ runs)) ≡ run_lengths (run ∷ runs) + 1
    by_test true on = rw on (omega arith)
    by_test false off = rw off (omega arith)

-- so all runs have as many clusters as there are findings
lengths-of-runs : (findings : List Finding) → run_lengths (runs_of findings) ≡ length findings
lengths-of-runs [] = refl
lengths-of-runs (finding ∷ findings) =
    let rest = lengths-of-runs findings in
    length-joined finding (runs_of findings) ∙ omega (arith, rest)

-- the clusters of one run more
pub lengths-run : (printed : List FindingRun) (run : FindingRun) → run_lengths (printed ++ run ∷ []) ≡ run_lengths printed + run.count
lengths-run [] run = omega arith
lengths-run (one ∷ printed) run = let rest = lengths-run printed run in omega (arith, rest)

-- all runs are counted
pub lengths-all : (findings : List Finding) (printed left : List FindingRun) → runs_of findings ≡ printed ++ left → left ≡ []
    → run_lengths printed ≡ length findings
lengths-all findings printed left are none =
    ap run_lengths (sym (are ∙ ap (λ rest. printed ++ rest) none ∙ append-nil printed)) ∙ lengths-of-runs findings

-- no clusters past the end add nothing
pub totals-past-none : (totals : Totals) → with_past totals 0 ≡ totals
totals-past-none totals = ap (λ past. record totals { past = past }) (omega arith)
