use Rattle.std.proofs.Common.{◌≡◌, ◌⊎◌, ℕ, zero, suc, Bool, true, false, ◌&&◌, ◌==◌, ◌+◌, ◌-◌, ◌*◌, ◌%◌, ◌^◌, ◌<◌, ◌≤◌, nat_lt, if◌then◌else◌, List, [], ◌∷◌, None, Result, Ok, IsTrue, inl, inr, refl, sym, ap, subst, ◌∙◌, arith}
use Rattle.std.proofs.lemmas.Bool.{cases_lt, false≢true, true_from_ne_false, true≢false}
use Rattle.std.proofs.lemmas.Bool.Decides.{nat_tests}
use Rattle.std.proofs.Math.Nat.{div-le_self, le-div_iff_mul-le, mod-eq_of_lt}
use Rattle.std.proofs.lemmas.Nat.{pow_pos}
use Rattle.std.proofs.lemmas.List.Sums.{sum_by-cons}
use Rattle.qcow2_base.specs.Format.{max_file_length}
use Rattle.qcow2_base.specs.Storage.{Image, OnImage, OnlyReads, StorageState}
use Rattle.qcow2_base.specs.declared.fault.Fault.{Fault}
use Rattle.qcow2_check.proofs.FindingsLemmas.{reported_right}
use Rattle.qcow2_check.proofs.FindingsListLemmas.{no-more, pass-one, take-one}
use Rattle.qcow2_metadata.specs.Entries.{is_among}
use Rattle.qcow2_metadata.specs.Header.{HeaderRecord}
use Rattle.qcow2_metadata.specs.Table.L2Guards.{one_if}
use Rattle.qcow2_check.specs.Counters.{CountersState, IsSameButBlock, block_of_cluster, counter_of}
use Rattle.qcow2_check.specs.Findings.{finding_at, findings_from, image_findings, is_wrong, reported_counter, uses_of_kind}
use Rattle.qcow2_summary.specs.ImageEnd.{end_of, findings_end, image_end, is_counted, is_in_use, most_clusters}
use Rattle.qcow2_check.specs.Tally.{ClusterUse, mark_of}
use Rattle.qcow2_check.specs.Uses.{ImageTables, image_uses, uses_of}
use Rattle.qcow2_check.specs.declared.findings.Finding.{Finding}
use Rattle.qcow2_check.specs.declared.tally.TallyKind.{TallyKind}
use Rattle.qcow2_check.specs.declared.tally.TallyKind.TheVariants.{Fixed, L2Table}

-- a number is the one after the last below a limit that a test holds of, or 0
pub record IsEnd (test : ℕ → Bool) (limit end : ℕ) : Type 0 where
  pub within : end ≤ limit
  pub last : (k : ℕ) → end ≡ suc k → test k ≡ true
  pub rest : (c : ℕ) → end ≤ c → c < limit → test c ≡ false

not-both : (test : Bool) → test ≡ true → test ≡ false → ⊥
not-both true on off = true≢false off
not-both false on off = false≢true on

-- there is only one
pub end_of-unique : (test : ℕ → Bool) (limit end : ℕ) → IsEnd test limit end → end_of test limit ≡ end
unfolding end_of
end_of-unique test zero end is = omega (arith, is.within)
end_of-unique test (suc n) end is = by_test (test n) refl (end_of-unique test n end)
  where
    by_test : (holds : Bool) → test n ≡ holds → (IsEnd test n end → end_of test n ≡ end) → end_of test (suc n) ≡ end
    by_test true on before = elim (cases_lt n end) [
      | inl above ↦
          let here : suc n ≡ end = omega (arith, above, is.within) in
          rw on here
      | inr below ↦ absurd (not-both (test n) on (is.rest n below (omega arith)))
    ]
    by_test false off before = elim (cases_lt n end) [
      | inl above ↦ absurd (not-both (test n) (is.last n (omega (arith, above, is.within))) off)
      | inr below ↦ rw off (before (record { within = below; last = is.last; rest = λ c from to. is.rest c from (omega (arith, to)) }))
    ]

-- and it is one
pub end_of-is : (test : ℕ → Bool) (limit : ℕ) → IsEnd test limit (end_of test limit)
unfolding end_of
end_of-is test zero = record {
  within = omega arith;
  last = λ k is. absurd (omega (arith, is));
  rest = λ c from to. absurd (omega (arith, to));
}
end_of-is test (suc n) = by_test (test n) refl (end_of-is test n)
  where
    by_test : (holds : Bool) → test n ≡ holds → IsEnd test n (end_of test n) → IsEnd test (suc n) (end_of test (suc n))
    by_test true on before = rw on (record {
      within = omega arith;
      last = λ k is. let same : n ≡ k = omega (arith, is) in rw same at on;
      rest = λ c from to. absurd (omega (arith, from, to));
    })
    by_test false off before = rw off (record {
      within = omega (arith, before.within);
      last = before.last;
      rest = λ c from to. elim (cases_lt c n) [
        | inl less ↦ before.rest c from less
        | inr more ↦ let same : n ≡ c = omega (arith, more, to) in rw same at off
      ];
    })

-- of a cluster's uses those of one kind are some
kind-within : (kind : TallyKind) (uses : List ClusterUse) (c : ℕ) → uses_of_kind kind uses c ≤ uses_of uses c
kind-within kind [] c = omega arith
kind-within kind (used ∷ uses) c =
    let rest = kind-within kind uses c in
    let here = one-within (mark_of used.kind == mark_of kind) (is_among used.clusters c) in
    let kinds = sum_by-cons (λ (u : ClusterUse). one_if (mark_of u.kind == mark_of kind && is_among u.clusters c)) used uses in
    let all = sum_by-cons (λ (u : ClusterUse). one_if (is_among u.clusters c)) used uses in
    omega (arith, rest, here, kinds, all)
  where
    one-within : (one other : Bool) → one_if (one && other) ≤ one_if other
    one-within true other = omega arith
    one-within false true = omega arith
    one-within false false = omega arith

-- a cluster that has no counter and no use is right
unused-right : (tables : ImageTables) (image : Image) (c : ℕ) → is_in_use tables image c ≡ false → is_wrong (finding_at tables image c) ≡ false
unused-right tables image c free =
    let uses = image_uses tables image in
    let fixed = kind-within Fixed uses c in
    let l2 = kind-within L2Table uses c in
    let none : uses_of uses c ≡ 0 = grind (arith, nat_tests, free) in
    let counter : counter_of tables.header tables.reftable image c ≡ 0 = grind (arith, nat_tests, free) in
    let reported : reported_counter tables image c ≡ uses_of uses c = reported_right tables image c (counter ∙ sym none) in
    grind (arith, nat_tests, reported, none, fixed, l2)

-- and one that is right has uses only where it has a counter
right-free : (tables : ImageTables) (image : Image) (c : ℕ) → is_counted tables.header tables.reftable image c ≡ false → is_wrong (finding_at tables image c) ≡ false
    → is_in_use tables image c ≡ false
right-free tables image c none right = grind (arith, nat_tests, none, right)

counted-used : (tables : ImageTables) (image : Image) (c : ℕ) → is_counted tables.header tables.reftable image c ≡ true → is_in_use tables image c ≡ true
counted-used tables image c counted = rw counted refl

wrong-used : (tables : ImageTables) (image : Image) (c : ℕ) → is_wrong (finding_at tables image c) ≡ true → is_in_use tables image c ≡ true
wrong-used tables image c wrong =
    true_from_ne_false (is_in_use tables image c) (λ free. not-both (is_wrong (finding_at tables image c)) wrong (unused-right tables image c free))

-- a number is the greater of two
abbrev pub IsGreater : ℕ → ℕ → ℕ → Type 0
IsGreater a b end = (a ≤ end) × (b ≤ end) × ((end ≡ a) ⊎ (end ≡ b))

-- so the image ends with the last cluster that has a counter, or that something is found of
in_use-end : (tables : ImageTables) (image : Image) (limit counted found end : ℕ) → IsEnd (is_counted tables.header tables.reftable image) limit counted
    → IsEnd (λ c. is_wrong (finding_at tables image c)) limit found → IsGreater counted found end → IsEnd (is_in_use tables image) limit end
in_use-end tables image limit counted found end counts finds greater = record {
  within = within greater.2;
  last = λ k is. used k is greater.2;
  rest = λ c from to. right-free tables image c (counts.rest c (omega (arith, greater.0, from)) to) (finds.rest c (omega (arith, greater.1, from)) to);
}
  where
    within : (end ≡ counted) ⊎ (end ≡ found) → end ≤ limit
    within (inl is) = omega (arith, is, counts.within)
    within (inr is) = omega (arith, is, finds.within)

    used : (k : ℕ) → end ≡ suc k → (end ≡ counted) ⊎ (end ≡ found) → is_in_use tables image k ≡ true
    used k is (inl one) = counted-used tables image k (counts.last k (sym one ∙ is))
    used k is (inr other) = wrong-used tables image k (finds.last k (sym other ∙ is))

pub image-end : (tables : ImageTables) (image : Image) (counted found end : ℕ)
    → counted ≡ end_of (is_counted tables.header tables.reftable image) (most_clusters tables.header)
    → found ≡ findings_end tables image → IsGreater counted found end
    → image_end tables image ≡ end * 2 ^ tables.header.v2.cluster_bits
image-end tables image counted found end is_count is_found greater =
    let limit = most_clusters tables.header in
    let counts = subst (λ n. IsEnd (is_counted tables.header tables.reftable image) limit n) (sym is_count) (end_of-is (is_counted tables.header tables.reftable image) limit) in
    let finds = subst (λ n. IsEnd (λ c. is_wrong (finding_at tables image c)) limit n) (sym is_found) (end_of-is (λ c. is_wrong (finding_at tables image c)) limit) in
    ap (λ n. n * 2 ^ tables.header.v2.cluster_bits)
    (end_of-unique (is_in_use tables image) limit end (in_use-end tables image limit counted found end counts finds greater))

greater-within : (one other end most : ℕ) → IsGreater one other end → one ≤ most → other ≤ most → end ≤ most
greater-within one other end most greater first second = by_choice greater.2
  where
    by_choice : (end ≡ one) ⊎ (end ≡ other) → end ≤ most
    by_choice (inl is) = omega (arith, is, first)
    by_choice (inr is) = omega (arith, is, second)

-- the same in bytes, which fit
-- a number is the one that was returned
abbrev pub IsAnswer : ℕ → ℕ → Type 0
IsAnswer meant number = ◌≡◌ {A = Result ℕ Fault} (Ok meant) (Ok number)

ok-same : (one other : ℕ) → IsAnswer one other → one ≡ other
ok-same one other is = grind (arith, is)

pub image-end-shifted : (tables : ImageTables) (header : HeaderRecord) (reftable : List ℕ) (image : Image) (limit counted found end bits : ℕ)
    → tables.header ≡ header → tables.reftable ≡ reftable → limit ≡ most_clusters header
    → IsAnswer (end_of (is_counted header reftable image) limit) counted → found ≡ findings_end tables image
    → IsGreater counted found end → bits ≡ header.v2.cluster_bits → end * 2 ^ bits % 2 ^ 64 ≡ image_end tables image
image-end-shifted tables header reftable image limit counted found end bits is_header is_reftable is_limit counts finds greater is_bits =
    let most = most_clusters tables.header in
    let test = is_counted tables.header tables.reftable image in
    let same_limit : most ≡ limit = ap most_clusters is_header ∙ sym is_limit in
    let is_counted_end : end_of test most ≡ counted = ap (end_of test) same_limit ∙ ap (λ h. end_of (is_counted h tables.reftable image) limit) is_header
    ∙ ap (λ r. end_of (is_counted header r image) limit) is_reftable ∙ ok-same (end_of (is_counted header reftable image) limit) counted counts in
    let one : counted ≤ most = subst (λ n. n ≤ most) is_counted_end (end_of-is test most).within in
    let other : found ≤ most = subst (λ n. n ≤ most) (sym finds) (end_of-is (λ c. is_wrong (finding_at tables image c)) most).within in
    let within : end ≤ most = greater-within counted found end most greater one other in
    let same_bits : bits ≡ tables.header.v2.cluster_bits = is_bits ∙ ap (λ (h : HeaderRecord). h.v2.cluster_bits) (sym is_header) in
    let ends : image_end tables image ≡ end * 2 ^ tables.header.v2.cluster_bits = image-end tables image counted found end (sym is_counted_end) finds greater in
    let fits : end * 2 ^ tables.header.v2.cluster_bits ≤ max_file_length = (le-div_iff_mul-le (pow_pos _)).0 within in
    ap (λ b. end * 2 ^ b % 2 ^ 64) same_bits ∙ mod-eq_of_lt (omega (arith, fits)) ∙ sym ends

-- clusters without a block have no counter
pub no-block : (header : HeaderRecord) (reftable : List ℕ) (image : Image) (c : ℕ) → block_of_cluster header reftable c ≡ None
    → is_counted header reftable image c ≡ false
no-block header reftable image c none = grind (arith, nat_tests, none)

-- a cluster whose counter was read
pub last-counted : (header : HeaderRecord) (reftable : List ℕ) (image : Image) (end value k : ℕ) → counter_of header reftable image (end - 1) ≡ value
    → (value ≡ 0 → ⊥) → end ≡ suc k → is_counted header reftable image k ≡ true
last-counted header reftable image end value k is some here =
    let same : k ≡ end - 1 = omega (arith, here) in
    rw (same, is) (positive value some)
  where
    positive : (n : ℕ) → (n ≡ 0 → ⊥) → nat_lt 0 n ≡ true
    positive zero none = absurd (none refl)
    positive (suc n) none = grind (arith, nat_tests)

-- the number after the last of some findings' clusters that lies below a limit, or another where none does
abbrev pub last_below : ℕ → ℕ → List Finding → ℕ
last_below limit end [] = end
last_below limit end (finding ∷ findings) =
    last_below limit (if nat_lt finding.cluster.0 limit then finding.cluster.0 + 1 else end) findings

-- whether something is found of a cluster below a limit
abbrev pub is_found_below : ImageTables → Image → ℕ → ℕ → Bool
is_found_below tables image limit c = is_wrong (finding_at tables image c) && nat_lt c limit

-- one number more that the test holds of, or doesn't
end-here : (test : ℕ → Bool) (n end : ℕ) → test n ≡ true → IsEnd test (n + 1) (n + 1)
end-here test n end holds = record {
  within = omega arith;
  last = λ k is. let same : n ≡ k = omega (arith, is) in rw same at holds;
  rest = λ c from to. absurd (omega (arith, from, to));
}

end-before : (test : ℕ → Bool) (n end : ℕ) → test n ≡ false → IsEnd test n end → IsEnd test (n + 1) end
end-before test n end fails before = record {
  within = omega (arith, before.within);
  last = before.last;
  rest = λ c from to. elim (cases_lt c n) [
    | inl less ↦ before.rest c from less
    | inr more ↦ let same : n ≡ c = omega (arith, more, to) in rw same at fails
  ];
}

both-hold : (one other : Bool) → one ≡ true → other ≡ true → one && other ≡ true
both-hold one other is holds = rw (is, holds) refl

first-fails : (one other : Bool) → one ≡ false → one && other ≡ false
first-fails one other fails = rw fails refl

second-fails : (one other : Bool) → other ≡ false → one && other ≡ false
second-fails true other fails = fails
second-fails false other fails = refl

-- the end of what is found of some clusters more
after-findings : (tables : ImageTables) (image : Image) (limit from count end : ℕ) → IsEnd (is_found_below tables image limit) from end
    → IsEnd (is_found_below tables image limit) (from + count) (last_below limit end (findings_from tables image from count))
after-findings tables image limit from zero end before =
    let same : from ≡ from + 0 = omega arith in
    rw (no-more tables image from) (subst (λ n. IsEnd (is_found_below tables image limit) n end) same before)
after-findings tables image limit from (suc count) end before =
    let same : from + 1 + count ≡ from + suc count = omega arith in
    subst (λ n. IsEnd (is_found_below tables image limit) n (last_below limit end (findings_from tables image from (suc count)))) same
    (by_test (is_wrong (finding_at tables image from)) refl (nat_lt from limit) refl
    (λ next. after-findings tables image limit (from + 1) count next))
  where
    by_test : (wrong : Bool) → is_wrong (finding_at tables image from) ≡ wrong → (below : Bool) → nat_lt from limit ≡ below
        → ((next : ℕ) → IsEnd (is_found_below tables image limit) (from + 1) next
        → IsEnd (is_found_below tables image limit) (from + 1 + count) (last_below limit next (findings_from tables image (from + 1) count)))
        → IsEnd (is_found_below tables image limit) (from + 1 + count) (last_below limit end (findings_from tables image from (suc count)))
    by_test true wrong true below later =
        let step : last_below limit end (findings_from tables image from (suc count)) ≡ last_below limit (from + 1) (findings_from tables image (from + 1) count)
        = ap (last_below limit end) (take-one tables image from count wrong)
        ∙ ap (λ (b : Bool). last_below limit (if b then from + 1 else end) (findings_from tables image (from + 1) count)) below in
        subst (λ n. IsEnd (is_found_below tables image limit) (from + 1 + count) n) (sym step)
        (later (from + 1) (end-here (is_found_below tables image limit) from end (both-hold (is_wrong (finding_at tables image from)) (nat_lt from limit) wrong below)))
    by_test true wrong false below later =
        let step : last_below limit end (findings_from tables image from (suc count)) ≡ last_below limit end (findings_from tables image (from + 1) count)
        = ap (last_below limit end) (take-one tables image from count wrong)
        ∙ ap (λ (b : Bool). last_below limit (if b then from + 1 else end) (findings_from tables image (from + 1) count)) below in
        subst (λ n. IsEnd (is_found_below tables image limit) (from + 1 + count) n) (sym step)
        (later end (end-before (is_found_below tables image limit) from end (second-fails (is_wrong (finding_at tables image from)) (nat_lt from limit) below) before))
    by_test false right below is later =
        subst (λ n. IsEnd (is_found_below tables image limit) (from + 1 + count) n) (sym (ap (last_below limit end) (pass-one tables image from count right)))
        (later end (end-before (is_found_below tables image limit) from end (first-fails (is_wrong (finding_at tables image from)) (nat_lt from limit) right) before))

found-below : (tables : ImageTables) (image : Image) (limit c : ℕ) → is_found_below tables image limit c ≡ true
    → (is_wrong (finding_at tables image c) ≡ true) × (c < limit)
found-below tables image limit c found = by_test (is_wrong (finding_at tables image c)) refl
  where
    by_test : (wrong : Bool) → is_wrong (finding_at tables image c) ≡ wrong → (is_wrong (finding_at tables image c) ≡ true) × (c < limit)
    by_test true wrong = (wrong, grind (arith, nat_tests, rw wrong at found))
    by_test false right = absurd (true≢false (sym (rw right at found)))

not-found : (tables : ImageTables) (image : Image) (limit c : ℕ) → c < limit → is_found_below tables image limit c ≡ false
    → is_wrong (finding_at tables image c) ≡ false
not-found tables image limit c less none = by_test (is_wrong (finding_at tables image c)) refl
  where
    by_test : (wrong : Bool) → is_wrong (finding_at tables image c) ≡ wrong → is_wrong (finding_at tables image c) ≡ false
    by_test true wrong = absurd (grind (arith, nat_tests, less, rw wrong at none))
    by_test false right = right

-- which is below the limit
below-end : (tables : ImageTables) (image : Image) (limit end : ℕ) → limit ≤ max_file_length
    → IsEnd (is_found_below tables image limit) (0 + max_file_length) end → IsEnd (λ c. is_wrong (finding_at tables image c)) limit end
below-end tables image limit end less all = record {
  within = within end refl;
  last = λ k is. (found-below tables image limit k (all.last k is)).0;
  rest = λ c from to. not-found tables image limit c to (all.rest c from (omega (arith, to, less)));
}
  where
    within : (n : ℕ) → end ≡ n → end ≤ limit
    within zero is = omega (arith, is)
    within (suc k) is = omega (arith, is, (found-below tables image limit k (all.last k is)).1)

-- the end of what is found of an image
pub findings-end : (tables : ImageTables) (image : Image)
    → last_below (most_clusters tables.header) 0 (image_findings tables image) ≡ findings_end tables image
findings-end tables image =
    let limit = most_clusters tables.header in
    let all = after-findings tables image limit 0 max_file_length 0 (record {
      within = omega arith;
      last = λ k is. absurd (omega (arith, is));
      rest = λ c from to. absurd (omega (arith, to));
    }) in
    sym (end_of-unique (λ c. is_wrong (finding_at tables image c)) limit (last_below limit 0 (image_findings tables image))
    (below-end tables image limit (last_below limit 0 (image_findings tables image)) (div-le_self max_file_length (2 ^ tables.header.v2.cluster_bits)) all))

-- a counter that was read after other reads, by what the reader was before
read-by : (F : HeaderRecord → List ℕ → Image → ℕ) (old now : CountersState) (image mid : Image) (value : ℕ) → now.header ≡ old.header → now.reftable ≡ old.reftable
    → mid ≡ image → IsAnswer (F now.header now.reftable mid) value → F old.header old.reftable image ≡ value
read-by F old now image mid value headers tables bytes is =
    ap (λ h. F h old.reftable image) (sym headers) ∙ ap (λ t. F now.header t image) (sym tables) ∙ ap (F now.header now.reftable) (sym bytes)
    ∙ ok-same (F now.header now.reftable mid) value is

pub counter-read : {T : Type 0} (x : T) (image mid : StorageState) (old now : CountersState) (cluster value : ℕ) → IsTrue image.tells → OnlyReads (Ok x) image mid
    → IsSameButBlock image old now → OnImage mid (λ bytes. IsAnswer (counter_of now.header now.reftable bytes cluster) value)
    → counter_of old.header old.reftable image.byte_at cluster ≡ value
counter-read x image mid old now cluster value told reads kept exact =
    read-by (λ header reftable bytes. counter_of header reftable bytes cluster) old now image.byte_at mid.byte_at value
    (ap (λ (c : CountersState). c.header) kept.same) (ap (λ (c : CountersState). c.reftable) kept.same) reads.bytes (exact (rw reads.device.tells told))
