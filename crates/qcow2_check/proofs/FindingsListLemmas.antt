use Rattle.std.proofs.Common.{◌≡◌, ◌↔◌, ℕ, if◌then◌else◌, length, inl, inr, zero, suc, true, false, ◌+◌, ◌-◌, ◌<◌, ◌≤◌, List, [], ◌∷◌, Result, Ok, Err, Some, None, Option, IsTrue, refl, sym, ap, subst, ◌∙◌, arith}
use Rattle.std.proofs.lemmas.Bool.{cases_lt}
use Rattle.std.proofs.lemmas.Bool.Decides.{nat_tests}
use Rattle.std.specs.Prelude.{is_some, nat_le}
use Rattle.qcow2_base.specs.Format.{max_file_length}
use Rattle.qcow2_base.specs.Storage.{Image, OnImage, OnlyReads, StorageState}
use Rattle.qcow2_base.specs.declared.fault.Fault.{Fault}
use Rattle.qcow2_check.specs.Findings.{AreRight, EndsWithin, FindingsState, NoneSought, PassesFinding, TakesFinding, finding_at, findings_from, findings_left, image_findings, is_sought, is_wrong, past_findings, sought_from, tables_of}
use Rattle.qcow2_check.specs.Uses.{ImageTables, image_uses, uses_of}
use Rattle.qcow2_check.specs.declared.findings.Finding.{Finding}
use Rattle.qcow2_check.specs.declared.findings.Sought.{Sought}
use Rattle.qcow2_check.specs.declared.findings.Sought.TheVariants.{Used, Wrong}

-- what is sought from a cluster on that isn't is what is from the next on
pass-other : (sought : Sought) (tables : ImageTables) (image : Image) (from count : ℕ) → is_sought sought (finding_at tables image from) ≡ false
    → sought_from sought tables image from (suc count) ≡ sought_from sought tables image (from + 1) count
unfolding sought_from
pass-other sought tables image from count other = rw other refl

-- what is sought from a cluster on that is begins with it
take-sought : (sought : Sought) (tables : ImageTables) (image : Image) (from count : ℕ) → is_sought sought (finding_at tables image from) ≡ true
    → sought_from sought tables image from (suc count) ≡ finding_at tables image from ∷ sought_from sought tables image (from + 1) count
unfolding sought_from
take-sought sought tables image from count is = rw is refl

sought-none : (sought : Sought) (tables : ImageTables) (image : Image) (from : ℕ) → sought_from sought tables image from zero ≡ []
unfolding sought_from
sought-none sought tables image from = refl

-- the findings from a cluster that nothing is wrong with are those from the next on
pub pass-one : (tables : ImageTables) (image : Image) (from count : ℕ) → is_wrong (finding_at tables image from) ≡ false
    → findings_from tables image from (suc count) ≡ findings_from tables image (from + 1) count
pass-one tables image from count right = pass-other Wrong tables image from count right

-- those from a cluster that something is wrong with begin with it
pub take-one : (tables : ImageTables) (image : Image) (from count : ℕ) → is_wrong (finding_at tables image from) ≡ true
    → findings_from tables image from (suc count) ≡ finding_at tables image from ∷ findings_from tables image (from + 1) count
take-one tables image from count wrong = take-sought Wrong tables image from count wrong

pub no-more : (tables : ImageTables) (image : Image) (from : ℕ) → findings_from tables image from zero ≡ []
no-more tables image from = sought-none Wrong tables image from

-- what is sought after clusters of which none is
pass-others : (sought : Sought) (tables : ImageTables) (image : Image) (from passed count n to : ℕ) → n ≡ passed + count → to ≡ from + passed
    → NoneSought sought tables image from to → sought_from sought tables image from n ≡ sought_from sought tables image to count
pass-others sought tables image from zero count n to is goes none =
    let here : to ≡ from = omega (arith, goes) in
    let all : n ≡ count = omega (arith, is) in
    rw (here, all) refl
pass-others sought tables image from (suc passed) count n to is goes none =
    let all : n ≡ suc (passed + count) = omega (arith, is) in
    rw all (pass-other sought tables image from (passed + count) (none from (omega arith) (omega (arith, goes)))
    ∙ pass-others sought tables image (from + 1) passed count (passed + count) to refl (omega (arith, goes)) (λ c after before. none c (omega (arith, after)) before))

-- nothing is found where none is sought up to the end
pub none-found : (sought : Sought) (tables : ImageTables) (image : Image) (from : ℕ) → from ≤ max_file_length → NoneSought sought tables image from max_file_length
    → sought_from sought tables image from (max_file_length - from) ≡ []
none-found sought tables image from within none =
    pass-others sought tables image from (max_file_length - from) zero (max_file_length - from) max_file_length (omega arith) (omega (arith, within)) none
    ∙ sought-none sought tables image max_file_length

-- and where a cluster after those is sought, it is found first
one-found : (sought : Sought) (tables : ImageTables) (image : Image) (from c : ℕ) → from ≤ c → c < max_file_length → NoneSought sought tables image from c
    → is_sought sought (finding_at tables image c) ≡ true
    → sought_from sought tables image from (max_file_length - from)
    ≡ finding_at tables image c ∷ sought_from sought tables image (c + 1) (max_file_length - (c + 1))
one-found sought tables image from c above below none is =
    pass-others sought tables image from (c - from) (suc (max_file_length - (c + 1))) (max_file_length - from) c (omega (arith, above, below)) (omega (arith, above)) none
    ∙ take-sought sought tables image c (max_file_length - (c + 1)) is

-- a reader of used clusters finds those past the end of a file of that many clusters, if it is before them or at the greatest end
pub past_left : (tables : ImageTables) (image : Image) (file position : ℕ) → position ≡ (if nat_le file max_file_length then file else max_file_length)
    → sought_from Used tables image position (max_file_length - position) ≡ past_findings file tables image
past_left tables image file position is = elim (cases_lt max_file_length file) [
  | inl past ↦
      let here : position ≡ max_file_length = grind (arith, nat_tests, is, past) in
      let left : max_file_length - position ≡ 0 = omega (arith, here) in
      let none : max_file_length - file ≡ 0 = omega (arith, past) in
      rw (left, none) (sought-none Used tables image position ∙ sym (sought-none Used tables image file))
  | inr within ↦
      let here : position ≡ file = grind (arith, nat_tests, is, within) in
      rw here refl
]

-- what a reader returns is the first of what it finds yet, and what is after that is left
pub takes-finding : (image : StorageState) (reader later : FindingsState) (answer : Result (Option Finding) Fault) → IsTrue image.tells
    → tables_of later ≡ tables_of reader → later.sought ≡ reader.sought → reader.position ≤ max_file_length → later.position ≤ max_file_length → (answer ≡ Ok None → later.position ≡ max_file_length)
    → PassesFinding image reader answer later.position
    → TakesFinding (findings_left reader image.byte_at) (findings_left later image.byte_at) answer
takes-finding image reader later (Ok (Some finding)) told same seeks low high end passes =
    let here = passes.2 told in
    let tables = tables_of reader in
    let sought = reader.sought in
    let cluster = finding.cluster.0 in
    rw (same, seeks, passes.1) (one-found sought tables image.byte_at reader.position cluster passes.0 (omega (arith, passes.1, high)) here.2 (sym (ap (is_sought sought) here.0) ∙ here.1)
    ∙ ap (λ found. found ∷ sought_from sought tables image.byte_at (cluster + 1) (max_file_length - (cluster + 1))) (sym here.0))
takes-finding image reader later (Ok None) told same seeks low high end passes =
    none-found reader.sought (tables_of reader) image.byte_at reader.position low (rw (end refl) at (passes.1 told))
takes-finding image reader later (Err fault) told same seeks low high end passes =
    rw (same, seeks) (pass-others reader.sought (tables_of reader) image.byte_at reader.position (later.position - reader.position) (max_file_length - later.position) (max_file_length - reader.position) later.position
    (omega (arith, passes.0, high)) (omega (arith, passes.0)) (passes.1 told))

-- what a reader returns is one of what it finds yet
pub one-left : (before after : List Finding) (found : Option Finding) → is_some found ≡ true → TakesFinding before after (Ok found)
    → length before ≡ length after + 1
one-left before after (Some finding) some takes = ap length takes ∙ omega arith
one-left before after None some takes = absurd (grind (arith, some))

-- a reader at the end comes to no finding
pub none-at-end : (image : Image) (reader : FindingsState) → reader.position ≡ max_file_length → findings_left reader image ≡ []
none-at-end image reader end = rw end (sought-none reader.sought (tables_of reader) image max_file_length)

-- what a reader returns of an image after it was read, and what it returns of it before
pub takes-later : {T : Type 0} (value : T) (old now : StorageState) (a b : FindingsState) (answer : Result (Option Finding) Fault) → OnlyReads (Ok value) old now
    → OnImage now (λ bytes. TakesFinding (findings_left a bytes) (findings_left b bytes) answer)
    → OnImage old (λ bytes. TakesFinding (findings_left a bytes) (findings_left b bytes) answer)
takes-later value old now a b answer reads takes = λ told.
    subst (λ image. TakesFinding (findings_left a image) (findings_left b image) answer) reads.bytes (takes (rw reads.device.tells told))

-- none of the clusters is sought of which nothing is found
none-sought : (sought : Sought) (tables : ImageTables) (image : Image) (from count : ℕ) → sought_from sought tables image from count ≡ []
    → NoneSought sought tables image from (from + count)
none-sought sought tables image from zero none = λ c after before. absurd (omega (arith, after, before))
none-sought sought tables image from (suc count) none = with_next (none-sought sought tables image (from + 1) count)
  where
    with_next : (sought_from sought tables image (from + 1) count ≡ [] → NoneSought sought tables image (from + 1) (from + 1 + count))
        → NoneSought sought tables image from (from + suc count)
    with_next next c after before = elim (is_sought sought (finding_at tables image from)) as (λ test. is_sought sought (finding_at tables image from) ≡ test
        → is_sought sought (finding_at tables image c) ≡ false) [
          | true ↦ λ is. absurd (omega (arith, ap length (sym (take-sought sought tables image from count is) ∙ none)))
          | false ↦ λ other. elim (cases_lt from c) [
            | inl later ↦ next (sym (pass-other sought tables image from count other) ∙ none) c (omega (arith, later)) (omega (arith, before))
            | inr here ↦
                let same : from ≡ c = omega (arith, after, here) in
                rw same at other
          ]
        ] refl

-- a list of no items is empty
no-items : {T : Type 0} (items : List T) → length items ≡ 0 → items ≡ []
no-items [] none = refl
no-items (item ∷ items) none = absurd (omega (arith, none))

-- where nothing is found past the end of a file, no cluster there is used
pub unused-past : (file : ℕ) (tables : ImageTables) (image : Image) → length (past_findings file tables image) ≡ 0 → EndsWithin file tables image
unused-past file tables image none c after before =
    let unused = none-sought Used tables image file (max_file_length - file) (no-items _ none) c after (omega (arith, after, before)) in
    grind (arith, nat_tests, unused)

-- and the other way around
pub past-unused : (file : ℕ) (tables : ImageTables) (image : Image) → EndsWithin file tables image → length (past_findings file tables image) ≡ 0
past-unused file tables image unused = elim (cases_lt max_file_length file) [
  | inl past ↦
      let none : max_file_length - file ≡ 0 = omega (arith, past) in
      rw none (ap length (sought-none Used tables image file))
  | inr within ↦ ap length (none-found Used tables image file within (λ c after before. let none = unused c after before in grind (arith, nat_tests, none)))
]

-- just where nothing is wrong with any cluster nothing is found
pub none-just-where-right : (tables : ImageTables) (image : Image) → (image_findings tables image ≡ []) ↔ AreRight tables image 0 max_file_length
none-just-where-right tables image = (none-sought Wrong tables image 0 max_file_length, none-found Wrong tables image 0 (omega arith))
