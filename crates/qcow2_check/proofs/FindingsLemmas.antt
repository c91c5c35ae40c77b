use Rattle.std.proofs.Common.{◌≡◌, ◌↔◌, ℕ, true, false, ◌==◌, ◌+◌, ◌/◌, ◌%◌, ◌<◌, ◌≤◌, ◌&&◌, List, [], ◌∷◌, fold, Some, None, Result, Ok, Err, refl, sym, ap, subst, inl, inr, ◌∙◌, length, slice_index, slice_set, ◌-◌, div-add-mod', IsSomeAnd, IfSome, Option, if◌then◌else◌, arith}
use Rattle.std.proofs.lemmas.Bool.{cases_eq, cases_lt}
use Rattle.std.proofs.lemmas.Bool.Decides.{nat_tests}
use Rattle.std.proofs.lemmas.Grind.{get_or-set_at}
use Rattle.std.proofs.lemmas.List.{get_or-set_other}
use Rattle.std.proofs.lemmas.List.Sums.{sum_by-cons}
use Rattle.qcow2_base.specs.Storage.{Image, OnImage, OnlyReads, StorageState}
use Rattle.qcow2_base.specs.declared.fault.Fault.{Fault}
use Rattle.qcow2_base.specs.declared.fault.Fault.TheVariants.{Uncounted}
use Rattle.qcow2_base.specs.declared.fault.UncountedPart.{UncountedPart}
use Rattle.qcow2_metadata.specs.Header.{HeaderRecord, geometry_of}
use Rattle.qcow2_metadata.specs.Results.{Reads}
use Rattle.qcow2_metadata.specs.Table.{IsEntryFault}
use Rattle.qcow2_check.specs.ImageTables.{opened_tables}
use Rattle.qcow2_check.proofs.CountersLemmas.{free_unused, kept_counter, same_block, same_remainder}
use Rattle.qcow2_check.specs.Counters.{IsKeptBlockOf, block_of_cluster, counter_of, counters_each, unused_counter}
use Rattle.qcow2_base.specs.declared.types.HostCluster.{HostCluster}
use Rattle.qcow2_metadata.specs.Refblock.{BlockState}
use Rattle.std.proofs.lemmas.Nat.{pow_pos}
use Rattle.qcow2_metadata.specs.Entries.{is_among}
use Rattle.qcow2_metadata.specs.Table.L2Guards.{one_if}
use Rattle.qcow2_check.specs.Findings.{AreRight, CountsAll, FindingsState, IsCheckFault, MovesFindings, NoneSought, PassesFinding, checked_tables, IsFindingsOf, finding_at, is_shared, is_sought, reported_counter, tables_of, uses_of_kind}
use Rattle.qcow2_check.specs.Tally.{CountsMore, IsPlain, TallyState, ClusterUse, cell_at, cell_with, is_shared_cell, mark_of, with_use}
use Rattle.qcow2_check.specs.Uses.{ImageTables, all_load, image_uses, uses_of}
use Rattle.qcow2_check.specs.declared.findings.Finding.{Finding}
use Rattle.qcow2_check.specs.declared.findings.Sought.{Sought}
use Rattle.qcow2_check.specs.declared.findings.Sought.TheVariants.{Used}
use Rattle.qcow2_check.specs.declared.tally.TallyKind.{TallyKind}
use Rattle.qcow2_check.specs.declared.tally.TallyKind.TheVariants.{Fixed, Guest, L2Table}

-- a cell tells how many uses of each kind there are
pub record Tells (cell f t g : ℕ) : Type 0 where
  pub count : cell / 8 ≡ f + t + g
  pub fixed : (cell % 2 ≡ 1) ↔ (0 < f)
  pub tables : (cell / 2 % 2 ≡ 1) ↔ (0 < t)
  pub guest : (cell / 4 % 2 ≡ 1) ↔ (0 < g)

tells-fixed : (cell f t g : ℕ) → Tells cell f t g → Tells (with_use Fixed cell) (f + 1) t g
tells-fixed cell f t g is = grind (arith, nat_tests, is)

tells-table : (cell f t g : ℕ) → Tells cell f t g → Tells (with_use L2Table cell) f (t + 1) g
tells-table cell f t g is = grind (arith, nat_tests, is)

tells-guest : (cell f t g : ℕ) → Tells cell f t g → Tells (with_use Guest cell) f t (g + 1)
tells-guest cell f t g is = grind (arith, nat_tests, is)

-- uses of a cluster, with one in front of others
pub kind-cons : (kind : TallyKind) (used : ClusterUse) (uses : List ClusterUse) (c : ℕ) → uses_of_kind kind (used ∷ uses) c
    ≡ one_if (mark_of used.kind == mark_of kind && is_among used.clusters c) + uses_of_kind kind uses c
kind-cons kind used uses c = sum_by-cons _ used uses

pub all-cons : (used : ClusterUse) (uses : List ClusterUse) (c : ℕ) → uses_of (used ∷ uses) c ≡ one_if (is_among used.clusters c) + uses_of uses c
all-cons used uses c = sum_by-cons _ used uses

-- and so does one that more uses are counted in
tells-all : (uses : List ClusterUse) (c cell f t g : ℕ) → Tells cell f t g → Tells (fold (cell_with c) cell uses)
    (f + uses_of_kind Fixed uses c) (t + uses_of_kind L2Table uses c) (g + uses_of_kind Guest uses c)
tells-all [] c cell f t g is = grind (arith, is)
tells-all (used ∷ uses) c cell f t g is = elim used.kind as (λ kind. used.kind ≡ kind → Tells (fold (cell_with c) cell (used ∷ uses))
    (f + uses_of_kind Fixed (used ∷ uses) c) (t + uses_of_kind L2Table (used ∷ uses) c) (g + uses_of_kind Guest (used ∷ uses) c)) [
      | Fixed ↦ λ kind. grind (arith, nat_tests, kind, kind-cons Fixed used uses c, kind-cons L2Table used uses c, kind-cons Guest used uses c, tells-all uses c cell f t g is, tells-all uses c (with_use Fixed cell) (f + 1) t g (tells-fixed cell f t g is))
      | L2Table ↦ λ kind. grind (arith, nat_tests, kind, kind-cons Fixed used uses c, kind-cons L2Table used uses c, kind-cons Guest used uses c, tells-all uses c cell f t g is, tells-all uses c (with_use L2Table cell) f (t + 1) g (tells-table cell f t g is))
      | Guest ↦ λ kind. grind (arith, nat_tests, kind, kind-cons Fixed used uses c, kind-cons L2Table used uses c, kind-cons Guest used uses c, tells-all uses c cell f t g is, tells-all uses c (with_use Guest cell) f t (g + 1) (tells-guest cell f t g is))
    ] refl

-- all uses of a cluster are of these kinds
pub uses_by_kind : (uses : List ClusterUse) (c : ℕ) → uses_of uses c ≡ uses_of_kind Fixed uses c + uses_of_kind L2Table uses c + uses_of_kind Guest uses c
uses_by_kind [] c = refl
uses_by_kind (used ∷ uses) c = elim used.kind as (λ kind. used.kind ≡ kind → uses_of (used ∷ uses) c
    ≡ uses_of_kind Fixed (used ∷ uses) c + uses_of_kind L2Table (used ∷ uses) c + uses_of_kind Guest (used ∷ uses) c) [
      | Fixed ↦ λ kind. grind (arith, nat_tests, kind, all-cons used uses c, kind-cons Fixed used uses c, kind-cons L2Table used uses c, kind-cons Guest used uses c, uses_by_kind uses c)
      | L2Table ↦ λ kind. grind (arith, nat_tests, kind, all-cons used uses c, kind-cons Fixed used uses c, kind-cons L2Table used uses c, kind-cons Guest used uses c, uses_by_kind uses c)
      | Guest ↦ λ kind. grind (arith, nat_tests, kind, all-cons used uses c, kind-cons Fixed used uses c, kind-cons L2Table used uses c, kind-cons Guest used uses c, uses_by_kind uses c)
    ] refl

-- what the cell of all uses tells
pub cell_counts : (uses : List ClusterUse) (c cell : ℕ) → cell ≡ fold (cell_with c) 0 uses → cell / 8 ≡ uses_of uses c
cell_counts uses c cell is = grind (arith, nat_tests, is, tells-all uses c 0 0 0 0 (grind (arith, nat_tests)), uses_by_kind uses c)

pub cell_shares : (uses : List ClusterUse) (c cell : ℕ) → cell ≡ fold (cell_with c) 0 uses → is_shared_cell cell ≡ is_shared uses c
cell_shares uses c cell is = grind (arith, nat_tests, is, tells-all uses c 0 0 0 0 (grind (arith, nat_tests)), uses_by_kind uses c)

-- a counter that is the number of uses is reported so
pub reported_right : (tables : ImageTables) (image : Image) (c : ℕ)
    → counter_of tables.header tables.reftable image c ≡ uses_of (image_uses tables image) c
    → reported_counter tables image c ≡ uses_of (image_uses tables image) c
reported_right tables image c right = elim (cases_eq (uses_of (image_uses tables image) c) 0) [
  | inl none ↦ grind (arith, nat_tests, none, free_unused tables.header tables.reftable image c (right ∙ none))
  | inr some ↦ grind (arith, nat_tests, some, right)
]

-- what is found at a cluster, by its counter and its cell
pub found_is : (reader : FindingsState) (tally : TallyState) (image : Image) (c counter cell : ℕ) → reader.tally ≡ Some tally
    → IsFindingsOf image reader → tally.first ≤ c → c < tally.end
    → counter ≡ (if cell / 8 == 0 then unused_counter reader.header reader.counters.reftable image c
    else counter_of reader.header reader.counters.reftable image c) → cell ≡ cell_at tally c
    → record { cluster = record { 0 = c }; counter = counter; uses = cell / 8; shared = is_shared_cell cell } ≡ finding_at (tables_of reader) image c
found_is reader tally image c counter cell has is from before counts says =
    let uses = image_uses (tables_of reader) image in
    let all : cell_at tally c ≡ fold (cell_with c) 0 uses = (rw has at is.counted) c from before in
    grind (arith, counts, cell_counts uses c cell (says ∙ all), cell_shares uses c cell (says ∙ all))

-- nothing is wrong with clusters that have no use and whose counters are reported as 0
pub right_before : (reader : FindingsState) (tally : TallyState) (image : Image) (from to : ℕ) → reader.tally ≡ Some tally
    → IsFindingsOf image reader → tally.first ≤ from → to ≤ tally.end
    → ((c : ℕ) → from ≤ c → c < to → cell_at tally c ≡ 0)
    → ((c : ℕ) → from ≤ c → c < to → unused_counter reader.header reader.counters.reftable image c ≡ 0)
    → AreRight (tables_of reader) image from to
right_before reader tally image from to has is first end unused free = λ c after before.
    let uses = image_uses (tables_of reader) image in
    let all : cell_at tally c ≡ fold (cell_with c) 0 uses = (rw has at is.counted) c (omega (arith, first, after)) (omega (arith, before, end)) in
    let none : 0 ≡ fold (cell_with c) 0 uses = sym (unused c after before) ∙ all in
    let unused : 0 ≡ uses_of uses c = cell_counts uses c 0 none in
    let apart : is_shared uses c ≡ false = sym (cell_shares uses c 0 none) in
    grind (arith, nat_tests, free c after before, unused, apart)

-- clusters that have no use aren't used
pub unused_before : (reader : FindingsState) (tally : TallyState) (image : Image) (from to : ℕ) → reader.tally ≡ Some tally
    → IsFindingsOf image reader → tally.first ≤ from → to ≤ tally.end
    → ((c : ℕ) → from ≤ c → c < to → cell_at tally c ≡ 0)
    → NoneSought Used (tables_of reader) image from to
unused_before reader tally image from to has is first end unused = λ c after before.
    let uses = image_uses (tables_of reader) image in
    let all : cell_at tally c ≡ fold (cell_with c) 0 uses = (rw has at is.counted) c (omega (arith, first, after)) (omega (arith, before, end)) in
    let none : 0 ≡ uses_of uses c = cell_counts uses c 0 (sym (unused c after before) ∙ all) in
    grind (arith, nat_tests, none)

-- nor is a cluster sought after those
pub none_more : (sought : Sought) (tables : ImageTables) (image : Image) (from c : ℕ) (finding : Finding) → NoneSought sought tables image from c
    → finding ≡ finding_at tables image c → is_sought sought finding ≡ false → NoneSought sought tables image from (c + 1)
none_more sought tables image from c finding none is other = λ k after before.
    elim (cases_lt k c) [
      | inl below ↦ none k after below
      | inr above ↦
          let same : k ≡ c = omega (arith, before, above) in
          ap (λ j. is_sought sought (finding_at tables image j)) same ∙ sym (ap (is_sought sought) is) ∙ other
    ]

-- a tally that counted all uses, and no others
pub counts_all : (tables : ImageTables) (image : Image) (old new : TallyState) → ((c : ℕ) → cell_at old c ≡ 0)
    → CountsMore (image_uses tables image) old new → CountsAll tables image new
counts_all tables image old new none more = λ c from before.
    more.cells c (rw more.first at from) before ∙ ap (λ cell. fold (cell_with c) cell (image_uses tables image)) (none c)

-- an answer is a refusal for a part that isn't read here, if there is one
abbrev pub IsRefusedFor : {T : Type 0} → Option UncountedPart → Result T Fault → Type 0
IsRefusedFor part answer = IfSome part (λ it. answer ≡ Err (Uncounted it))

-- that doesn't depend on what is refused
pub refused_for : (T U : Type 0) (part : Option UncountedPart) (fault : Fault) → IsRefusedFor {T = T} part (Err fault) → IsRefusedFor {T = U} part (Err fault)
refused_for T U None fault refused = tt
refused_for T U (Some it) fault refused = grind (arith, refused)

-- tables that can't be opened
pub refused_opening : {T U : Type 0} {seen : U → ImageTables} (view : T → ImageTables) (header : HeaderRecord) (fault : Fault) (a b : StorageState)
    → Reads seen (Err fault) (opened_tables header) (IsCheckFault header) a b → Reads view (Err fault) (checked_tables header) (IsCheckFault header) a b
refused_opening view header fault a b refuses = record {
  exact = λ told. grind (arith, told, refuses.exact);
  faults = grind (arith, refuses.faults);
  storage = grind (arith, nat_tests, refuses.storage);
}

-- reads one after another that returned values
pub reads_twice : {A B C : Type 0} (x : A) (y : B) (z : C) (a b c : StorageState) → OnlyReads (Ok x) a b → OnlyReads (Ok y) b c → OnlyReads (Ok z) a c
reads_twice x y z a b c one other = grind (arith, nat_tests, one, other)

-- tables that are opened before more is read
pub opened_before : {T U : Type 0} {seen : U → ImageTables} (opened : U) (more : T) (header : HeaderRecord) (a b c : StorageState)
    → Reads seen (Ok opened) (opened_tables header) (IsCheckFault header) a b → OnlyReads (Ok more) b c
    → Reads seen (Ok opened) (opened_tables header) (IsCheckFault header) a c
opened_before opened more header a b c opens reads = record {
  exact = opens.exact;
  faults = opens.faults;
  storage = reads_twice opened more opened a b c opens.storage reads;
}

-- L2 tables that can't all be loaded, after the L1 table and the refcount table
pub refused_tables : {A T U : Type 0} {seen : U → ImageTables} {opened : U} (view : T → ImageTables) (header : HeaderRecord) (fault : Fault) (a b c : StorageState)
    → Reads seen (Ok opened) (opened_tables header) (IsCheckFault header) a b
    → Reads {T = A} (λ _. tt {0}) (Err fault) (all_load (geometry_of header) (seen opened).l1) IsEntryFault b c
    → Reads view (Err fault) (checked_tables header) (IsCheckFault header) a c
refused_tables view header fault a b c opens reads = record {
  exact = λ told. grind (arith, told, opens, reads.exact);
  faults = grind (arith, reads.faults);
  storage = grind (arith, nat_tests, opens.storage, reads.storage);
}

-- clusters of which none is sought, one after another
none_joins : (sought : Sought) (tables : ImageTables) (image : Image) (a b c : ℕ) → NoneSought sought tables image a b → NoneSought sought tables image b c
    → NoneSought sought tables image a c
none_joins sought tables image a b c one other = λ k after before.
    elim (cases_lt k b) [
      | inl below ↦ one k after below
      | inr above ↦ other k above before
    ]

-- what holds of the image, the tables and what is sought that a reader has later holds of those that it had first
same_reader : (Fact : Sought → ImageTables → Image → Type 0) (old now : StorageState) (first later : FindingsState) → OnlyReads (Ok later.position) old now
    → MovesFindings old first later → Fact later.sought (tables_of later) now.byte_at → Fact first.sought (tables_of first) old.byte_at
same_reader Fact old now first later reads moves fact =
    let tables : tables_of later ≡ tables_of first = ap tables_of moves.same in
    let sought : later.sought ≡ first.sought = ap (λ (reader : FindingsState). reader.sought) moves.same in
    subst (λ s. Fact s (tables_of first) old.byte_at) sought
    (subst (λ t. Fact later.sought t old.byte_at) tables (subst (λ image. Fact later.sought (tables_of later) image) reads.bytes fact))

-- no number is below itself
below_all : ⊥ → ⊥
below_all never = never

-- what a reader passes after it has passed clusters that it doesn't seek
pub passes_on : (old now : StorageState) (first later : FindingsState) (finding : Finding) (to : ℕ) → OnlyReads (Ok later.position) old now
    → MovesFindings old first later → first.position ≤ later.position
    → OnImage old (λ bytes. NoneSought first.sought (tables_of first) bytes first.position later.position)
    → PassesFinding now later (Ok (Some finding)) to → PassesFinding old first (Ok (Some finding)) to
passes_on old now first later finding to reads moves from right passes = (
  omega (arith, from, passes.0),
  passes.1,
  λ told.
      let found = passes.2 (rw reads.device.tells told) in (
        same_reader (λ _ t image. finding ≡ finding_at t image finding.cluster.0) old now first later reads moves found.0,
        same_reader (λ s _ _. is_sought s finding ≡ true) old now first later reads moves found.1,
        none_joins first.sought (tables_of first) old.byte_at first.position later.position finding.cluster.0 (right told)
            (same_reader (λ s t image. NoneSought s t image later.position finding.cluster.0) old now first later reads moves found.2),
      ),
)

pub passes_none : (old now : StorageState) (first later : FindingsState) (to : ℕ) → OnlyReads (Ok later.position) old now
    → MovesFindings old first later
    → OnImage old (λ bytes. NoneSought first.sought (tables_of first) bytes first.position later.position)
    → PassesFinding now later (Ok None) to → OnImage old (λ bytes. NoneSought first.sought (tables_of first) bytes first.position to)
passes_none old now first later to reads moves right passes = λ told.
    none_joins first.sought (tables_of first) old.byte_at first.position later.position to (right told)
    (same_reader (λ s t image. NoneSought s t image later.position to) old now first later reads moves (passes.1 (rw reads.device.tells told)))

-- what a reader passes after it has stayed at its cluster
pub passes_same : (old now : StorageState) (first later : FindingsState) (answer : Result (Option Finding) Fault) (to : ℕ) → OnlyReads (Ok later.position) old now
    → MovesFindings old first later → later.position ≡ first.position → PassesFinding now later answer to → PassesFinding old first answer to
passes_same old now first later (Ok (Some finding)) to reads moves same passes =
    passes_on old now first later finding to reads moves (omega (arith, same)) (λ told c from before. elim (below_all (omega (arith, same, from, before))) [ ]) passes
passes_same old now first later (Ok None) to reads moves same passes = (
  omega (arith, same, passes.0),
  passes_none old now first later to reads moves (λ told c from before. elim (below_all (omega (arith, same, from, before))) [ ]) passes,
)
passes_same old now first later (Err fault) to reads moves same passes = (
  omega (arith, same, passes.0),
  passes_none old now first later to reads moves (λ told c from before. elim (below_all (omega (arith, same, from, before))) [ ]) passes,
)

-- a reader that moves twice
pub moves_twice : (old now : StorageState) (a b c : FindingsState) → OnlyReads (Ok b.position) old now → MovesFindings old a b → MovesFindings now b c
    → MovesFindings old a c
moves_twice old now a b c reads one other = record {
  same = rw (other.same, one.same) refl;
  kept = λ told. rw reads.bytes at (other.kept (rw reads.device.tells told));
}

-- uses that don't exclude each other
pub excludes : (uses : List ClusterUse) (c : ℕ) → is_shared uses c ≡ false
    → (0 < uses_of_kind Fixed uses c → uses_of uses c ≡ 1) × (0 < uses_of_kind L2Table uses c → uses_of uses c ≡ uses_of_kind L2Table uses c)
excludes uses c apart = grind (arith, nat_tests, apart, uses_by_kind uses c)

-- what holds of each number below one and of that one holds of each number below the next
pub below_next : (P : ℕ → Type 0) (n k : ℕ) → ((j : ℕ) → j < n → P j) → P n → k < n + 1 → P k
below_next P n k before here below = elim (cases_lt k n) [
  | inl less ↦ before k less
  | inr more ↦
      let same : n ≡ k = omega (arith, below, more) in
      subst P same here
]

-- nothing is wrong with clusters of one block whose counters are the numbers of their uses
pub right_in_block : (reader : FindingsState) (tally : TallyState) (block : BlockState) (b : HostCluster) (image : Image) (from count : ℕ)
    → reader.tally ≡ Some tally → reader.counters.block ≡ Some block → block.cluster ≡ Some b
    → block_of_cluster reader.header reader.counters.reftable from ≡ Some b
    → IsFindingsOf image reader → tally.first ≤ from → from + count ≤ tally.end
    → from % counters_each reader.header + count ≤ counters_each reader.header
    → ((k : ℕ) → k < count → (slice_index block.numbers (from % counters_each reader.header + k) ≡ cell_at tally (from + k) / 8)
    × (is_shared_cell (cell_at tally (from + k)) ≡ false))
    → AreRight (tables_of reader) image from (from + count)
right_in_block reader tally block b image from count has kept named place is first end fits right = λ c after before.
    let n = counters_each reader.header in
    let uses = image_uses (tables_of reader) image in
    let within : c < tally.end = omega (arith, before, end) in
    let all : cell_at tally c ≡ fold (cell_with c) 0 uses = (rw has at is.counted) c (omega (arith, first, after)) within in
    let here : from + (c - from) ≡ c = omega (arith, after) in
    let fine = rw here at (right (c - from) (omega (arith, after, before))) in
    let room : c < from - from % n + n = omega (arith, fits, before, div-add-mod' from n) in
    let index : from % n + (c - from) ≡ c % n = same_remainder n from c (pow_pos _) after room in
    let place_c : block_of_cluster reader.header reader.counters.reftable c ≡ Some b =
    same_block reader.header reader.counters.reftable from c after room ∙ place in
    let kept_is : IsKeptBlockOf reader.header image (Some block) = rw kept at is.kept in
    let counter : counter_of reader.header reader.counters.reftable image c ≡ uses_of uses c =
    kept_counter reader.header reader.counters.reftable image block b c named place_c kept_is
    ∙ sym (rw index at (sym fine.0)) ∙ cell_counts uses c (cell_at tally c) all in
    let apart : is_shared uses c ≡ false = sym (cell_shares uses c (cell_at tally c) all) ∙ fine.1 in
    grind (arith, nat_tests, reported_right (tables_of reader) image c counter, apart)

pub right_in_kept : (reader : FindingsState) (tally : TallyState) (block : BlockState) (image : Image) (from count : ℕ)
    → reader.tally ≡ Some tally → reader.counters.block ≡ Some block
    → IsSomeAnd block.cluster (λ place. block_of_cluster reader.header reader.counters.reftable from ≡ Some place)
    → IsFindingsOf image reader → tally.first ≤ from → from + count ≤ tally.end
    → from % counters_each reader.header + count ≤ counters_each reader.header
    → ((k : ℕ) → k < count → (slice_index block.numbers (from % counters_each reader.header + k) ≡ cell_at tally (from + k) / 8)
    × (is_shared_cell (cell_at tally (from + k)) ≡ false))
    → AreRight (tables_of reader) image from (from + count)
right_in_kept reader tally block image from count has kept place is first end fits right = by_place block.cluster refl place
  where
    by_place : (found : Option HostCluster) → block.cluster ≡ found
        → IsSomeAnd found (λ place. block_of_cluster reader.header reader.counters.reftable from ≡ Some place)
        → AreRight (tables_of reader) image from (from + count)
    by_place None same place = elim place [ ]
    by_place (Some b) same place = right_in_block reader tally block b image from count has kept same place is first end fits right

-- nothing is wrong with a cluster whose uses are all by guest data, and as many as its counter says
pub plain_is_right : (cell counter : ℕ) → IsPlain cell counter → (counter ≡ cell / 8) × (is_shared_cell cell ≡ false)
plain_is_right cell counter plain = (sym plain.0, grind (arith, nat_tests, plain.1))

-- nothing is wrong with the cluster that lies k after a first, by its counter, which lies k after an index, and by its cell
abbrev pub IsRightAt : List ℕ → TallyState → ℕ → ℕ → ℕ → Type 0
IsRightAt numbers tally index first k =
    (slice_index numbers (index + k) ≡ cell_at tally (first + k) / 8) × (is_shared_cell (cell_at tally (first + k)) ≡ false)

-- that holds of all before one and of those of a chunk from it on, so it does of all before the chunk's end
pub right_chunk : (numbers counters : List ℕ) (tally : TallyState) (index first start count : ℕ)
    → ((k : ℕ) → k < start → IsRightAt numbers tally index first k)
    → ((j : ℕ) → j < count → IsPlain (cell_at tally (first + start + j)) (slice_index counters j))
    → ((j : ℕ) → j < count → slice_index counters j ≡ slice_index numbers (index + start + j))
    → (k : ℕ) → k < start + count → IsRightAt numbers tally index first k
right_chunk numbers counters tally index first start count before plain copied k below = elim (cases_lt k start) [
  | inl less ↦ before k less
  | inr more ↦
      let j = k - start in
      let within : j < count = omega (arith, below, more) in
      let cluster : first + start + j ≡ first + k = omega (arith, more) in
      let place : index + start + j ≡ index + k = omega (arith, more) in
      let here : IsPlain (cell_at tally (first + k)) (slice_index counters j) = rw cluster at (plain j within) in
      let same : slice_index counters j ≡ slice_index numbers (index + k) = rw place at (copied j within) in
      let right = plain_is_right _ _ here in
      (sym same ∙ right.0, right.1)
]

-- numbers that are copied one by one
pub copied_next : (f : ℕ → ℕ) (xs : List ℕ) (n v : ℕ) → n < length xs → ((k : ℕ) → k < n → slice_index xs k ≡ f k) → v ≡ f n
    → (k : ℕ) → k < n + 1 → slice_index (slice_set xs n v) k ≡ f k
copied_next f xs n v within before here k below = elim (cases_lt k n) [
  | inl less ↦ get_or-set_other xs n k v 0 (λ same. omega (arith, less, same)) ∙ before k less
  | inr more ↦
      let same : k ≡ n = omega (arith, below, more) in
      get_or-set_at xs n k v 0 same within ∙ here ∙ ap f (sym same)
]

-- a counter that is chosen by a number of uses
pub where_unused : (uses unused other counter : ℕ) → uses ≡ 0 → counter ≡ unused → counter ≡ (if uses == 0 then unused else other)
where_unused uses unused other counter none is = grind (arith, nat_tests, none, is)

pub where_used : (uses unused other counter : ℕ) → (uses ≡ 0 → ⊥) → counter ≡ other → counter ≡ (if uses == 0 then unused else other)
where_used uses unused other counter some is = elim (cases_eq uses 0) [
  | inl none ↦ absurd (some none)
  | inr differs ↦ grind (arith, nat_tests, differs, is)
]
