use Rattle.std.proofs.Common.{◌≡◌, ◌≢◌, ◌⊎◌, ◌&&◌, ◌==◌, ℕ, Bool, zero, suc, false, true, length, sym, ap, ◌+◌, ◌-◌, ◌*◌, ◌/◌, ◌%◌, ◌^◌, ◌<◌, ◌≤◌, List, Option, Result, Some, None, IsSome, Ok, Err, refl, ◌∙◌, subst, inl, inr, arith}
use Rattle.std.proofs.lemmas.Bool.{cases_lt}
use Rattle.std.specs.Prelude.{is_some, not}
use Rattle.std.proofs.lemmas.Bool.Decides.{nat_tests}
use Rattle.qcow2_base.specs.Format.{max_file_length}
use Rattle.qcow2_base.specs.Storage.{Image, IsBytes, OnImage, OnlyReads, StorageState}
use Rattle.qcow2_base.specs.Types.{IsClusterBits}
use Rattle.qcow2_base.specs.declared.fault.Fault.{Fault}
use Rattle.qcow2_base.specs.declared.fault.Fault.TheVariants.{L1Short, Storage, Uncounted}
use Rattle.qcow2_base.specs.declared.fault.UncountedPart.{UncountedPart}
use Rattle.qcow2_base.specs.declared.types.HostCluster.{HostCluster}
use Rattle.qcow2_metadata.specs.Header.{HeaderRecord, geometry_of, uncounted_part}
use Rattle.qcow2_metadata.specs.Refblock.{greatest_counter}
use Rattle.qcow2_metadata.specs.Results.{Reads, unless_refused}
use Rattle.qcow2_check.proofs.CountersLemmas.{counter-fits}
use Rattle.qcow2_summary.proofs.ReportedLemmas.{reported-within}
use Rattle.qcow2_check.proofs.FindingsListLemmas.{pass-one, take-one, unused-past}
use Rattle.qcow2_check.specs.Counters.{block_of_cluster, blocks_fault, counter_of}
use Rattle.qcow2_check.specs.FileEnd.{file_clusters}
use Rattle.qcow2_check.specs.Findings.{EndsWithin, FindingsState, IsBegun, IsFindingsOf, IsLaterFault, TakesFinding, checked_tables, finding_at, findings_from, findings_left, image_findings, is_shared, is_wrong, past_findings, tables_of}
use Rattle.qcow2_check.specs.L1Length.{is_l1_short}
use Rattle.qcow2_check.specs.NamedTables.{loaded_l1_table}
use Rattle.qcow2_check.specs.Uses.{ImageTables, all_load, image_tables, image_uses}
use Rattle.qcow2_check.specs.declared.findings.Finding.{Finding}
use Rattle.qcow2_repair.specs.Repair.{IsRepairable, image_uses_of}
use Rattle.qcow2_repair.specs.Flags.{l1_in}
use Rattle.qcow2_repair.specs.Left.{CountsUsed}
use Rattle.qcow2_repair.specs.Refusals.{IsFindingRefusal, IsRepairRefusal, are_counted, findings_refusal, header_refusal, leaves_nothing, refusal_of, unrefused_tables}

-- a fact of each refcount order
order-cases : (P : ℕ → Type 0) → P 0 → P 1 → P 2 → P 3 → P 4 → P 5 → P 6 → (order : ℕ) → order ≤ 6 → P order
order-cases P a b c d e f g order low = grind (arith)

-- the greatest counter is the greatest number, shifted
pub greatest_shifted : (order : ℕ) → order ≤ 6
    → (0 < 2 ^ order) × (2 ^ order ≤ 64) × ((2 ^ 64 - 1) / 2 ^ (64 - 1 * 2 ^ order % 2 ^ 32) ≡ greatest_counter order)
greatest_shifted = order-cases (λ order. (0 < 2 ^ order) × (2 ^ order ≤ 64) × ((2 ^ 64 - 1) / 2 ^ (64 - 1 * 2 ^ order % 2 ^ 32) ≡ greatest_counter order))
    (omega arith, omega arith, refl) (omega arith, omega arith, refl) (omega arith, omega arith, refl) (omega arith, omega arith, refl)
    (omega arith, omega arith, refl) (omega arith, omega arith, refl) (omega arith, omega arith, refl)

-- where no finding is refused, nothing is wrong with a cluster, or what is found at it isn't refused
none-refused : (tables : ImageTables) (image : Image) (from count c : ℕ) → from ≤ c → c < from + count
    → findings_refusal tables.header tables.reftable (findings_from tables image from count) ≡ None
    → (is_wrong (finding_at tables image c) ≡ false) ⊎ (refusal_of tables.header tables.reftable (finding_at tables image c) ≡ None)
none-refused tables image from zero c after before none = absurd (omega (arith, after, before))
none-refused tables image from (suc count) c after before none =
    with_next (none-refused tables image (from + 1) count c)
  where
    header : HeaderRecord
    header = tables.header

    Fine : Type 0
    Fine = (is_wrong (finding_at tables image c) ≡ false) ⊎ (refusal_of tables.header tables.reftable (finding_at tables image c) ≡ None)

    with_next : (from + 1 ≤ c → c < from + 1 + count → findings_refusal tables.header tables.reftable (findings_from tables image (from + 1) count) ≡ None → Fine) → Fine
    with_next next = elim (is_wrong (finding_at tables image from)) as (λ test. is_wrong (finding_at tables image from) ≡ test → Fine) [
      | true ↦ λ wrong.
          let both = rw (take-one tables image from count wrong) at none in
          elim (cases_lt from c) [
            | inl later ↦ next (omega (arith, later)) (omega (arith, before)) (grind (arith, both))
            | inr here ↦
                let same : from ≡ c = omega (arith, after, here) in
                let fine : refusal_of tables.header tables.reftable (finding_at tables image from) ≡ None = grind (arith, both) in
                inr (rw same at fine)
          ]
      | false ↦ λ right. elim (cases_lt from c) [
        | inl later ↦ next (omega (arith, later)) (omega (arith, before)) (rw (pass-one tables image from count right) at none)
        | inr here ↦
            let same : from ≡ c = omega (arith, after, here) in
            inl (rw same at right)
      ]
    ] refl

wrong-parts : (finding : Finding) → is_wrong finding ≡ false → (finding.counter ≡ finding.uses) × (finding.shared ≡ false)
wrong-parts finding right = grind (arith, nat_tests, right)

fine-shared : (header : HeaderRecord) (reftable : List ℕ) (finding : Finding) → refusal_of header reftable finding ≡ None → finding.shared ≡ false
fine-shared header reftable finding fine = grind (arith, nat_tests, fine)

fine-fits : (header : HeaderRecord) (reftable : List ℕ) (finding : Finding) → IsSome (block_of_cluster header reftable finding.cluster.0)
    → refusal_of header reftable finding ≡ None → finding.uses ≤ greatest_counter header.base.refcount_order
fine-fits header reftable finding some fine = grind (arith, nat_tests, fine, some)

-- no uses exclude each other where nothing is wrong or what is found isn't refused
right-apart : (tables : ImageTables) (image : Image) (c : ℕ)
    → (is_wrong (finding_at tables image c) ≡ false) ⊎ (refusal_of tables.header tables.reftable (finding_at tables image c) ≡ None)
    → is_shared (image_uses tables image) c ≡ false
right-apart tables image c (inl right) = (wrong-parts (finding_at tables image c) right).1
right-apart tables image c (inr fine) = fine-shared tables.header tables.reftable (finding_at tables image c) fine

-- and a counter can hold them
right-fits : (tables : ImageTables) (image : Image) (c : ℕ) → tables.header.base.refcount_order ≤ 6 → IsBytes image
    → IsSome (block_of_cluster tables.header tables.reftable c)
    → (is_wrong (finding_at tables image c) ≡ false) ⊎ (refusal_of tables.header tables.reftable (finding_at tables image c) ≡ None)
    → image_uses_of tables image c ≤ greatest_counter tables.header.base.refcount_order
right-fits tables image c orders bytes some (inl right) =
    omega (
      arith,
      (wrong-parts (finding_at tables image c) right).0,
      reported-within tables image c,
      counter-fits tables.header tables.reftable image c orders bytes,
    )
right-fits tables image c orders bytes some (inr fine) =
    fine-fits tables.header tables.reftable (finding_at tables image c) some fine

-- an image whose tables load, and none of whose findings is refused, can be repaired
pub repairable-unless_refused : (tables : ImageTables) (image : Image) → IsClusterBits tables.header.v2.cluster_bits → tables.header.base.refcount_order ≤ 6
    → blocks_fault tables.header tables.reftable ≡ None → all_load (geometry_of tables.header) tables.l1 image ≡ Ok tt → IsBytes image
    → findings_refusal tables.header tables.reftable (image_findings tables image) ≡ None → IsRepairable tables image
repairable-unless_refused tables image bits orders placed loads bytes none = record {
  bits = bits;
  orders = orders;
  placed = placed;
  loads = loads;
  apart = λ c below. right-apart tables image c (none-refused tables image 0 max_file_length c (omega arith) (omega (arith, below)) none);
  fits = λ c below some. right-fits tables image c orders bytes some (none-refused tables image 0 max_file_length c (omega arith) (omega (arith, below)) none);
}

-- what is refused, and what isn't, whatever comes else
not-refused : {T : Type 0} (refusal : Option Fault) (value answer : T) → unless_refused refusal (Ok value) ≡ Ok answer → refusal ≡ None
not-refused None value answer is = refl
not-refused (Some fault) value answer is = grind (arith, is)

still-refused : {A B : Type 0} (refusal : Option Fault) (a : A) (b : B) (fault : Fault) → unless_refused refusal (Ok a) ≡ Err fault
    → unless_refused refusal (Ok b) ≡ Err fault
still-refused None a b fault is = grind (arith, is)
still-refused (Some refused) a b fault is = grind (arith, is)

-- the findings that a reader at the begin comes to are all of the image
pub all-left : (reader : FindingsState) (image : Image) → IsBegun reader → findings_left reader image ≡ image_findings (tables_of reader) image
all-left reader image begun = rw (begun.0, begun.1) refl

-- a test by what its negation is
fails : (test : Bool) → false ≡ not test → true ≡ test
fails true is = refl
fails false is = absurd (grind (arith, is))

holds : (test : Bool) → true ≡ not test → false ≡ test
holds true is = absurd (grind (arith, is))
holds false is = refl

-- a repair leaves nothing wrong where blocks count what a reader at the begin finds, and one past the end of a file finds nothing
pub leaves-nothing : (reader past : FindingsState) (file : ℕ) (image : Image) (counted within : Bool) (found : Option Finding) (after : List Finding)
    → IsBegun reader → counted ≡ are_counted reader.header reader.counters.reftable (findings_left reader image)
    → findings_left past image ≡ past_findings file (tables_of reader) image → TakesFinding (findings_left past image) after (Ok found)
    → is_some found ≡ not within → (counted && within) ≡ leaves_nothing file (tables_of reader) image
leaves-nothing reader past file image counted within found after begun all left takes none = by_found found takes none
  where
    lists : List Finding
    lists = past_findings file (tables_of reader) image

    both : (length lists == 0) ≡ within → (counted && within) ≡ leaves_nothing file (tables_of reader) image
    both same = ap (λ a. a && within) (all ∙ ap (are_counted reader.header reader.counters.reftable) (all-left reader image begun))
        ∙ ap (λ b. are_counted reader.header reader.counters.reftable (image_findings (tables_of reader) image) && b) (sym same)

    by_found : (found : Option Finding) → TakesFinding (findings_left past image) after (Ok found) → is_some found ≡ not within
        → (counted && within) ≡ leaves_nothing file (tables_of reader) image
    by_found None takes none =
        let zero : length lists ≡ 0 = ap length (sym left ∙ takes) in
        both (rw zero (fails within none))
    by_found (Some finding) takes none =
        let more : length lists ≡ suc (length after) = ap length (sym left ∙ takes) in
        let some : (length lists == 0) ≡ false = grind (arith, nat_tests, more) in
        both (some ∙ holds within none)

-- a fault after what is found was looked at is from outside
pub later-reads : {A B C T V : Type 0} (x : A) (y : B) (fault : Fault) (view : T → V) (meaning : Image → Result V Fault) (a b c d : StorageState)
    → OnlyReads (Ok x) a b → OnlyReads (Ok y) b c → OnlyReads {T = C} (Err fault) c d → IsLaterFault c fault
    → Reads {T = T} view (Err fault) meaning IsFindingRefusal a d
later-reads x y fault view meaning a b c d one two three later = record {
  exact = λ told. elim (later.1 (rw (two.device.tells, one.device.tells) told)) [ inl memory ↦ inr (inl memory) | inr failed ↦ inl failed ];
  faults = elim later.0 [ inl entry ↦ inl (inl entry) | inr outside ↦ inr outside ];
  storage = grind (arith, nat_tests, one, two, three);
}

-- what is told of a reader's tables is told of the image's
pub nothing-found : (header : HeaderRecord) (reader : FindingsState) (l1 reftable : List ℕ) (len : ℕ) (image : Image) (told : Bool)
    → reader.header ≡ header → l1 ≡ reader.l1 → reftable ≡ reader.counters.reftable
    → told ≡ leaves_nothing (file_clusters len reader.header) (tables_of reader) image
    → told ≡ leaves_nothing (file_clusters len header) (image_tables header l1 reftable) image
nothing-found header reader l1 reftable len image told is l1_is reftable_is counted =
    rw (l1_is, reftable_is, ← is) counted

-- where blocks count what is found, nothing is wrong with a cluster, or a block counts it
counted-each : (tables : ImageTables) (image : Image) (from count c : ℕ) → from ≤ c → c < from + count
    → are_counted tables.header tables.reftable (findings_from tables image from count) ≡ true
    → (is_wrong (finding_at tables image c) ≡ false) ⊎ IsSome (block_of_cluster tables.header tables.reftable c)
counted-each tables image from zero c after before all = absurd (omega (arith, after, before))
counted-each tables image from (suc count) c after before all =
    with_next (counted-each tables image (from + 1) count c)
  where
    Fine : Type 0
    Fine = (is_wrong (finding_at tables image c) ≡ false) ⊎ IsSome (block_of_cluster tables.header tables.reftable c)

    with_next : (from + 1 ≤ c → c < from + 1 + count → are_counted tables.header tables.reftable (findings_from tables image (from + 1) count) ≡ true → Fine) → Fine
    with_next next = elim (is_wrong (finding_at tables image from)) as (λ test. is_wrong (finding_at tables image from) ≡ test → Fine) [
      | true ↦ λ wrong.
          let both = rw (take-one tables image from count wrong) at all in
          elim (cases_lt from c) [
            | inl later ↦ next (omega (arith, later)) (omega (arith, before)) (grind (arith, both))
            | inr here ↦
                let same : from ≡ c = omega (arith, after, here) in
                let some : IsSome (block_of_cluster tables.header tables.reftable from) = grind (arith, both) in
                inr (rw same at some)
          ]
      | false ↦ λ right. elim (cases_lt from c) [
        | inl later ↦ next (omega (arith, later)) (omega (arith, before)) (rw (pass-one tables image from count right) at all)
        | inr here ↦
            let same : from ≡ c = omega (arith, after, here) in
            inl (rw same at right)
      ]
    ] refl

-- two tests that both pass
and_parts : (a b : Bool) → (a && b) ≡ true → (a ≡ true) × (b ≡ true)
and_parts true true both = (refl, refl)
and_parts true false both = absurd (grind (arith, both))
and_parts false b both = absurd (grind (arith, both))

-- so they count each cluster that is used
counted-used : (tables : ImageTables) (image : Image) (c : ℕ) → 0 < image_uses_of tables image c
    → (is_wrong (finding_at tables image c) ≡ false) ⊎ IsSome (block_of_cluster tables.header tables.reftable c)
    → IsSome (block_of_cluster tables.header tables.reftable c)
counted-used tables image c used (inr counted) = counted
counted-used tables image c used (inl right) = by_block (block_of_cluster tables.header tables.reftable c) refl
  where
    by_block : (found : Option HostCluster) → block_of_cluster tables.header tables.reftable c ≡ found
        → IsSome (block_of_cluster tables.header tables.reftable c)
    by_block (Some block) there = rw there refl
    by_block None none =
        let zero : counter_of tables.header tables.reftable image c ≡ 0 = grind (arith, none) in
        absurd (omega (arith, used, zero, (wrong-parts (finding_at tables image c) right).0, reported-within tables image c))

pub nothing-counts : (file : ℕ) (tables : ImageTables) (image : Image) → leaves_nothing file tables image ≡ true → CountsUsed tables image
nothing-counts file tables image all = λ c below used.
    counted-used tables image c used (counted-each tables image 0 max_file_length c (omega arith) (omega (arith, below)) (and_parts _ _ all).0)

-- and uses none past the end of the file
pub nothing-past : (file : ℕ) (tables : ImageTables) (image : Image) → leaves_nothing file tables image ≡ true → EndsWithin file tables image
nothing-past file tables image all =
    let none = (and_parts (are_counted tables.header tables.reftable (image_findings tables image)) (length (past_findings file tables image) == 0) all).1 in
    unused-past file tables image (grind (arith, nat_tests, none))

-- the L1 table of an image that can be checked is the one in the image
pub checked-l1 : (header : HeaderRecord) (tables : ImageTables) (image : Image) → checked_tables header image ≡ Ok tables → tables.l1 ≡ l1_in header image
checked-l1 header tables image is = by_l1 (loaded_l1_table header image) refl
  where
    by_l1 : (answer : Result (List ℕ) Fault) → loaded_l1_table header image ≡ answer → tables.l1 ≡ l1_in header image
    by_l1 (Err fault) refused = absurd (grind (arith, nat_tests, refused, is))
    by_l1 (Ok l1) there =
        let numbers : l1 ≡ l1_in header image = grind (arith, nat_tests, there) in
        let same : tables.l1 ≡ l1 = grind (arith, nat_tests, there, is) in
        same ∙ numbers

-- the tables that a reader has, where none of the findings that it came to was refused
pub repairable-found : {T : Type 0} (header : HeaderRecord) (reader : FindingsState) (l1 reftable : List ℕ) (value : T) (old now : StorageState)
    → IsClusterBits header.v2.cluster_bits → header.base.refcount_order ≤ 6 → reader.header ≡ header
    → l1 ≡ reader.l1 → reftable ≡ reader.counters.reftable → blocks_fault reader.header reader.counters.reftable ≡ None → IsBytes old.byte_at
    → OnlyReads (Ok value) old now → OnImage old (λ bytes. IsFindingsOf bytes reader)
    → OnImage now (λ bytes. unless_refused (findings_refusal reader.header reader.counters.reftable (image_findings (tables_of reader) bytes)) (Ok (tt {0})) ≡ Ok (tt {0}))
    → OnImage old (IsRepairable (image_tables header l1 reftable))
repairable-found header reader l1 reftable value old now bits orders is l1_is reftable_is placed bytes reads kept fine = λ told.
    let fine_now = fine (rw reads.device.tells told) in
    let fine_old = rw reads.bytes at fine_now in
    let none = not-refused _ _ _ fine_old in
    rw (l1_is, reftable_is, ← is) (repairable-unless_refused (tables_of reader) old.byte_at (rw (← is) at bits) (rw (← is) at orders) placed (kept told).loads bytes none)

only-reads : {A B T : Type 0} (value : A) (fault : Fault) (a b c : StorageState) → OnlyReads (Ok value) a b → OnlyReads {T = B} (Err fault) b c → OnlyReads {T = T} (Err fault) a c
only-reads value fault a b c one other = grind (arith, nat_tests, one, other)

-- a fault after a reader's begin is that of the tables of an image that can't be repaired
pub refused-reads : {A T : Type 0} (view : T → ImageTables) (header : HeaderRecord) (reader : FindingsState) (value : A) (fault : Fault) (old now later : StorageState)
    → reader.header ≡ header → OnImage old (λ bytes. checked_tables header bytes ≡ Ok (tables_of reader)) → OnlyReads (Ok value) old now
    → Reads {T = FindingsState × Bool} (λ _. tt {0}) (Err fault) (λ bytes. unless_refused (findings_refusal reader.header reader.counters.reftable (image_findings (tables_of reader) bytes)) (Ok (tt {0})))
    IsFindingRefusal now later
    → Reads {T = T} view (Err fault) (unrefused_tables header) (IsRepairRefusal header) old later
refused-reads view header reader value fault old now later is checked one reads = record {
  exact = λ told. elim (reads.exact (rw one.device.tells told)) [
    | inl failed ↦ inl failed
    | inr rest ↦ elim rest [
      | inl memory ↦ inr (inl memory)
      | inr refused ↦
          let refused_old = rw one.bytes at refused in
          let here : checked_tables reader.header old.byte_at ≡ Ok (tables_of reader) = rw (← is) at (checked told) in
          let whole : unrefused_tables reader.header old.byte_at ≡ Err fault = rw here (still-refused _ _ _ _ refused_old) in
          inr (inr (rw is at whole))
    ]
  ];
  faults = elim reads.faults [
    | inl refusal ↦ elim refusal [
      | inl entry ↦ inl (inl (inr (inl (inr entry))))
      | inr (inl overlap) ↦ inl (inr (inl overlap))
      | inr (inr range) ↦ inl (inr (inr (inl range)))
    ]
    | inr outside ↦ inr outside
  ];
  storage = only-reads _ _ old now later one reads.storage;
}

-- what refuses is a fault
pub refused-is : (found : Option Fault) (fault : Fault) → unless_refused found (Ok (tt {0})) ≡ Err fault → found ≡ Some fault
refused-is None fault is = absurd (grind (arith, is))
refused-is (Some other) fault is = grind (arith, is)

-- a header by which an image can't be repaired is refused by one of the refusals of a repair, which isn't the storage's fault
pub header-cause : (header : HeaderRecord) (fault : Fault) → header_refusal header ≡ Some fault → IsRepairRefusal header fault × (fault ≢ Storage)
header-cause header fault is = by_part (uncounted_part header) refl
  where
    by_length : (short : Bool) → uncounted_part header ≡ None → is_l1_short header ≡ short → IsRepairRefusal header fault × (fault ≢ Storage)
    by_length true none short =
        let same : L1Short ≡ fault = grind (arith, none, short, is) in
        (inr (inr (inr (rw short (ap Some same)))), λ storage. grind (arith, same, storage))
    by_length false none long = absurd (grind (arith, none, long, is))

    by_part : (part : Option UncountedPart) → uncounted_part header ≡ part → IsRepairRefusal header fault × (fault ≢ Storage)
    by_part None none = by_length (is_l1_short header) none refl
    by_part (Some part) there =
        let same : Uncounted part ≡ fault = grind (arith, there, is) in
        (inl (inl (rw there (ap Some same))), λ storage. grind (arith, same, storage))

-- so nothing is read of an image with such a header
pub refused-by-header : {T V : Type 0} (view : T → V) (header : HeaderRecord) (fault : Fault) (meaning : Image → Result V Fault) (state : StorageState)
    → (header_refusal header ≡ Some fault → (image : Image) → meaning image ≡ Err fault)
    → unless_refused (header_refusal header) (Ok (tt {0})) ≡ Err fault
    → Reads {T = T} view (Err fault) meaning (IsRepairRefusal header) state state
refused-by-header view header fault meaning state refuses refused =
    let is = refused-is (header_refusal header) fault refused in
    let cause = header-cause header fault is in
    record {
      exact = λ told. inr (inr (refuses is state.byte_at));
      faults = inl cause.0;
      storage = record {
        told = grind (arith, cause.1);
        bytes = refl;
        len = refl;
        device = record { tells = refl; mem_align = refl; req_align = refl };
      };
    }
