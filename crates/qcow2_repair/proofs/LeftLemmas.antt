use Rattle.std.proofs.Common.{◌≡◌, ◌⊎◌, ℕ, zero, suc, Bool, true, false, ◌==◌, ◌+◌, ◌<◌, ◌≤◌, List, [], ◌∷◌, slice_index, Option, Some, None, unwrap_or, ap, refl, sym, subst, ◌∙◌, inl, inr, arith}
use Rattle.std.proofs.lemmas.Bool.{cases_Bool}
use Rattle.std.proofs.lemmas.Bool.Decides.{nat_tests}
use Rattle.std.proofs.lemmas.List.Elements.{All-cons, All-head, All-nil, All-same, All-weaker}
use Rattle.std.proofs.lemmas.Option.{none-some}
use Rattle.std.specs.List.{All}
use Rattle.qcow2_base.specs.Format.{max_file_length}
use Rattle.qcow2_base.specs.Storage.{Image}
use Rattle.qcow2_base.specs.declared.types.HostCluster.{HostCluster}
use Rattle.qcow2_metadata.specs.Entries.{is_copied}
use Rattle.qcow2_metadata.specs.Header.{HeaderRecord, geometry_of}
use Rattle.qcow2_summary.proofs.ApartLemmas.{named-below, named-used}
use Rattle.qcow2_summary.proofs.ReportedLemmas.{unshared-reported}
use Rattle.qcow2_check.proofs.FindingsLemmas.{uses_by_kind}
use Rattle.qcow2_check.proofs.FindingsListLemmas.{no-more, none-just-where-right, pass-one, take-one}
use Rattle.qcow2_summary.specs.Consistency.{IsConsistent}
use Rattle.qcow2_check.specs.Counters.{block_of_cluster, counter_of}
use Rattle.qcow2_check.specs.Findings.{finding_at, findings_from, image_findings, is_shared, is_wrong}
use Rattle.qcow2_check.specs.Flags.{flagged_cluster, image_flags, l1_flag, l2_flag, wrong_flag}
use Rattle.qcow2_check.specs.NamedTables.{named_cluster}
use Rattle.qcow2_check.specs.Uses.{ImageTables, image_uses, uses_of}
use Rattle.qcow2_check.specs.declared.findings.Finding.{Finding}
use Rattle.qcow2_check.specs.declared.flags.FlagPlace.{FlagPlace}
use Rattle.qcow2_check.specs.declared.flags.WrongFlag.{WrongFlag}
use Rattle.qcow2_repair.proofs.FlaggedLemmas.{flagged-used, image-flags-all}
use Rattle.qcow2_repair.proofs.PassesLemmas.{flagged-below}
use Rattle.qcow2_repair.proofs.StagesLemmas.{counters-right, stages, uncounted-none, uses-repaired}
use Rattle.qcow2_repair.proofs.TrueFlagsLemmas.{HasRightFlags, flags-repaired}
use Rattle.qcow2_repair.specs.Repair.{IsRepairable, Repairs, image_uses_of, tables_in}
use Rattle.qcow2_repair.specs.Counters.{counter_in}
use Rattle.qcow2_repair.specs.Flags.{NamesTable, l2_in}
use Rattle.qcow2_repair.specs.Left.{CountsUsed, IsCounted, IsLeftFinding, IsLeftFlag, IsRightWhereCounted}

-- what holds of each finding holds of all
findings-all : (P : Finding → Type 0) (tables : ImageTables) (image : Image) (from count : ℕ)
    → ((c : ℕ) → from ≤ c → c < from + count → is_wrong (finding_at tables image c) ≡ true → P (finding_at tables image c))
    → All P (findings_from tables image from count)
findings-all P tables image from zero each = All-same P (findings_from tables image from zero) [] (no-more tables image from) (All-nil P)
findings-all P tables image from (suc count) each =
    with_rest (findings-all P tables image (from + 1) count (λ c after before. each c (omega (arith, after)) (omega (arith, before))))
  where
    with_rest : All P (findings_from tables image (from + 1) count) → All P (findings_from tables image from (suc count))
    with_rest rest = elim (is_wrong (finding_at tables image from)) as (λ test. is_wrong (finding_at tables image from) ≡ test
        → All P (findings_from tables image from (suc count))) [
          | true ↦ λ wrong. All-same P (findings_from tables image from (suc count)) (finding_at tables image from ∷ findings_from tables image (from + 1) count) (take-one tables image from count wrong)
              (All-cons P (finding_at tables image from) (findings_from tables image (from + 1) count) (each from (omega arith) (omega arith) wrong) rest)
          | false ↦ λ right. All-same P (findings_from tables image from (suc count)) (findings_from tables image (from + 1) count) (pass-one tables image from count right) rest
        ] refl

-- an image whose uses don't exclude each other, where each counted cluster has the right counter
pub record HasRightCounters (tables : ImageTables) (image : Image) : Type 0 where
  pub apart : (c : ℕ) → c < max_file_length → is_shared (image_uses tables image) c ≡ false
  pub counters : (c : ℕ) → c < max_file_length → IsCounted tables c → counter_in tables image c ≡ image_uses_of tables image c

right-finding : (finding : Finding) → finding.counter ≡ finding.uses → finding.shared ≡ false → is_wrong finding ≡ false
right-finding finding same apart = grind (arith, nat_tests, same, apart)

some-used : (finding : Finding) → finding.counter ≡ 0 → finding.shared ≡ false → is_wrong finding ≡ true → 0 < finding.uses
some-used finding none apart wrong = grind (arith, nat_tests, none, apart, wrong)

-- nothing is wrong with a cluster of it, or a repair leaves that
finding-left : (tables : ImageTables) (image : Image) (c : ℕ) → HasRightCounters tables image → c < max_file_length
    → (is_wrong (finding_at tables image c) ≡ false) ⊎ IsLeftFinding tables (finding_at tables image c)
finding-left tables image c right below = by_block (block_of_cluster tables.header tables.reftable c) refl
  where
    finding : Finding
    finding = finding_at tables image c

    reported : finding.counter ≡ counter_in tables image c
    reported = unshared-reported tables image c right.apart

    by_block : (found : Option HostCluster) → block_of_cluster tables.header tables.reftable c ≡ found
        → (is_wrong (finding_at tables image c) ≡ false) ⊎ IsLeftFinding tables (finding_at tables image c)
    by_block None none = elim (cases_Bool (is_wrong finding)) [
      | inl wrong ↦ inr (record {
        uncounted = none;
        counter = reported ∙ uncounted-none tables image c none;
        used = some-used finding (reported ∙ uncounted-none tables image c none) (right.apart c below) wrong;
        apart = right.apart c below;
      })
      | inr fine ↦ inl fine
    ]
    by_block (Some block) there = inl (right-finding finding (reported ∙ right.counters c below (grind (arith, there))) (right.apart c below))

left-wrong : (P : Type 0) (test : Bool) → (test ≡ false) ⊎ P → test ≡ true → P
left-wrong P test (inl right) wrong = absurd (grind (arith, right, wrong))
left-wrong P test (inr left) wrong = left

pub findings-left : (tables : ImageTables) (image : Image) → HasRightCounters tables image → All (IsLeftFinding tables) (image_findings tables image)
findings-left tables image right = findings-all (IsLeftFinding tables) tables image 0 max_file_length
    (λ c after before wrong. left-wrong _ _ (finding-left tables image c right (omega (arith, before))) wrong)

-- a wrong flag that a repair leaves, and its cluster lies below the greatest end
pub record IsLeftBelow (tables : ImageTables) (image : Image) (flag : WrongFlag) : Type 0 where
  pub left : IsLeftFlag tables image flag
  pub below : flag.cluster.0 < max_file_length

-- the flag of an entry that names a cluster, where it says just whether the cluster has one use, if that is counted
flag-left : (tables : ImageTables) (image : Image) (place : FlagPlace) (cluster : HostCluster) (v : ℕ) (flag : WrongFlag) → HasRightCounters tables image
    → cluster.0 < max_file_length → 0 < image_uses_of tables image cluster.0
    → (IsCounted tables cluster.0 → is_copied v ≡ (image_uses_of tables image cluster.0 == 1))
    → wrong_flag place cluster (Some (counter_in tables image cluster.0)) (is_copied v) ≡ Some flag → IsLeftBelow tables image flag
flag-left tables image place cluster v flag right below used says is = by_block (block_of_cluster tables.header tables.reftable cluster.0) refl
  where
    never : (n : ℕ) → wrong_flag place cluster (Some n) (n == 1) ≡ None
    never n = elim (cases_Bool (n == 1)) [
      | inl one ↦ grind (arith, one)
      | inr other ↦ grind (arith, other)
    ]

    zero_set : (copied : Bool) → block_of_cluster tables.header tables.reftable cluster.0 ≡ None → wrong_flag place cluster (Some 0) copied ≡ Some flag → IsLeftBelow tables image flag
    zero_set true none wrong =
        let told : WrongFlag = record { place = place; cluster = cluster; counter = Some 0; is_set = true } in
        let same : told ≡ flag = ap (λ found. unwrap_or found told) wrong in
        subst (IsLeftBelow tables image) same (record { left = record { uncounted = none; counter = refl; is_set = refl; used = used }; below = below })
    zero_set false none wrong = absurd (none-some flag wrong)

    by_block : (found : Option HostCluster) → block_of_cluster tables.header tables.reftable cluster.0 ≡ found → IsLeftBelow tables image flag
    by_block None none = zero_set (is_copied v) none
        (ap (λ n. wrong_flag place cluster (Some n) (is_copied v)) (sym (uncounted-none tables image cluster.0 none)) ∙ is)
    by_block (Some block) there =
        let some : IsCounted tables cluster.0 = grind (arith, there) in
        let n = image_uses_of tables image cluster.0 in
        absurd (none-some flag (sym (never n) ∙ ap (λ copied. wrong_flag place cluster (Some n) copied) (sym (says some))
        ∙ ap (λ m. wrong_flag place cluster (Some m) (is_copied v)) (sym (right.counters cluster.0 below some)) ∙ is))

-- that of an L1 entry
l1-left : (tables : ImageTables) (image : Image) (k at : ℕ) (flag : WrongFlag) → HasRightCounters tables image → HasRightFlags tables image
    → l1_flag tables.header tables.reftable image at (slice_index tables.l1 k) ≡ Some flag → IsLeftBelow tables image flag
l1-left tables image k at flag right flags is = by_name (named_cluster tables.header.v2.cluster_bits v) refl
  where
    v : ℕ
    v = slice_index tables.l1 k

    by_name : (found : Option HostCluster) → named_cluster tables.header.v2.cluster_bits (slice_index tables.l1 k) ≡ found → IsLeftBelow tables image flag
    by_name None none = absurd (none-some flag (rw (none, l1_flag) at is))
    by_name (Some cluster) names =
        let used : 0 < image_uses_of tables image cluster.0
        = omega (arith, named-used tables image k cluster names, uses_by_kind (image_uses tables image) cluster.0) in
        flag-left tables image _ cluster v flag right (named-below _ v cluster names) used (flags.l1_entries k cluster names) (rw (names, l1_flag) at is)

-- and that of an L2 entry
l2-left : (tables : ImageTables) (image : Image) (table : HostCluster) (k at : ℕ) (flag : WrongFlag) → HasRightCounters tables image → HasRightFlags tables image
    → NamesTable tables.header tables.l1 table → l2_flag (geometry_of tables.header) (counter_of tables.header tables.reftable image) at (slice_index (l2_in tables.header table image) k) ≡ Some flag
    → IsLeftBelow tables image flag
l2-left tables image table k at flag right flags names_table is = by_name (flagged_cluster (geometry_of tables.header) (slice_index (l2_in tables.header table image) k)) refl
  where
    v : ℕ
    v = slice_index (l2_in tables.header table image) k

    by_name : (found : Option HostCluster) → flagged_cluster (geometry_of tables.header) (slice_index (l2_in tables.header table image) k) ≡ found → IsLeftBelow tables image flag
    by_name None none = absurd (none-some flag (rw (none, l2_flag) at is))
    by_name (Some cluster) names = elim (cases_Bool (geometry_of tables.header).external_data_file) [
      | inl external ↦
          let copied = flags.external table k cluster names_table external names in
          absurd (none-some flag (rw (names, external, copied, l2_flag) at is))
      | inr inside ↦ flag-left tables image _ cluster v flag right (flagged-below _ v cluster names) (flagged-used tables image table k cluster inside names_table names)
          (flags.l2_entries table k cluster names_table inside names) (rw (names, inside, l2_flag) at is)
    ]

pub flags-left : (tables : ImageTables) (image : Image) → HasRightCounters tables image → HasRightFlags tables image → All (IsLeftBelow tables image) (image_flags tables image)
flags-left tables image right flags = image-flags-all (IsLeftBelow tables image) tables image
    (λ k at flag is. l1-left tables image k at flag right flags is)
    (λ table k at flag names is. l2-left tables image table k at flag right flags names is)

-- a repair makes all counters right
pub counters-repaired : (header : HeaderRecord) (reftable : List ℕ) (old new : Image) → IsRepairable (tables_in header reftable old) old
    → Repairs header reftable old new → HasRightCounters (tables_in header reftable new) new
counters-repaired header reftable old new is repair = record {
  apart = (stages header reftable old new repair is).four.is.apart;
  counters = λ c below some. counters-right header reftable old new is repair c below some;
}

-- and so all is right where blocks count
pub right-repaired : (header : HeaderRecord) (reftable : List ℕ) (old new : Image) → IsRepairable (tables_in header reftable old) old
    → Repairs header reftable old new → IsRightWhereCounted (tables_in header reftable new) new
right-repaired header reftable old new is repair =
    let tables = tables_in header reftable new in
    let right = counters-repaired header reftable old new is repair in
    let flags = (flags-repaired header reftable old new is repair).new_right in
    record {
      counters = right.counters;
      findings = findings-left tables new right;
      flags = All-weaker (IsLeftBelow tables new) (IsLeftFlag tables new) (λ flag left. left.left) (image_flags tables new) (flags-left tables new right flags);
    }

-- a list of what can't be is empty
none-of : {X : Type 0} (P : X → Type 0) (xs : List X) → ((x : X) → P x → ⊥) → All P xs → xs ≡ []
none-of P [] never all = refl
none-of P (x ∷ xs) never all = absurd (never x (All-head P x xs all))

never-uncounted : (tables : ImageTables) (c : ℕ) → block_of_cluster tables.header tables.reftable c ≡ None → IsCounted tables c → ⊥
never-uncounted tables c none some = grind (arith, nat_tests, none, some)

-- nothing is left where all used clusters are counted
consistent-where_counted : (tables : ImageTables) (image : Image) → HasRightCounters tables image → HasRightFlags tables image → CountsUsed tables image
    → IsConsistent tables image
consistent-where_counted tables image right flags counted = (
  (none-just-where-right tables image).1 (λ c after below. at c below (finding-left tables image c right below)),
  none-of (IsLeftBelow tables image) (image_flags tables image) (λ flag left.
      never-uncounted tables flag.cluster.0 left.left.uncounted (counted flag.cluster.0 left.below left.left.used))
      (flags-left tables image right flags),
)
  where
    at : (c : ℕ) → c < max_file_length → (is_wrong (finding_at tables image c) ≡ false) ⊎ IsLeftFinding tables (finding_at tables image c)
        → is_wrong (finding_at tables image c) ≡ false
    at c below (inl fine) = fine
    at c below (inr left) = absurd (never-uncounted tables c left.uncounted (counted c below left.used))

pub consistent-repaired : (header : HeaderRecord) (reftable : List ℕ) (old new : Image) → IsRepairable (tables_in header reftable old) old
    → Repairs header reftable old new → CountsUsed (tables_in header reftable old) old → IsConsistent (tables_in header reftable new) new
consistent-repaired header reftable old new is repair counted =
    let kept = uses-repaired header reftable old new is repair in
    let counted_now : CountsUsed (tables_in header reftable new) new = λ c below used. counted c below (subst (λ uses. 0 < uses_of uses c) kept used) in
    consistent-where_counted (tables_in header reftable new) new (counters-repaired header reftable old new is repair)
    (flags-repaired header reftable old new is repair).new_right counted_now
