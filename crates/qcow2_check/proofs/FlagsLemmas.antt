use Rattle.std.proofs.lemmas.Bool.{cases_eq, cases_lt, false_from_ne_true}
use Rattle.std.proofs.lemmas.List.{append_assoc, get_or-map, length-map}
use Rattle.std.proofs.lemmas.Bool.Decides.{nat_tests}
use Rattle.std.specs.Prelude.{◌&&◌, ◌==◌}
use Rattle.std.proofs.Common.{◌≡◌, ℕ, zero, suc, if◌then◌else◌, Bool, true, false, None, ap, subst, drop, add-zero, drop-cons, refl, ◌∙◌, ◌++◌, option_to_list, ◌+◌, ◌-◌, ◌*◌, ◌/◌, ◌^◌, ◌<◌, ◌≤◌, List, [], ◌∷◌, length, slice_index, Some, Ok, Err, IsTrue, sym, inl, inr, arith}
use Rattle.std.proofs.Math.Pow.{pow_mono}
use Rattle.std.proofs.lemmas.Nat.{mul-add-lt, mul-lt}
use Rattle.qcow2_base.specs.Storage.{Image, OnImage, StorageState}
use Rattle.qcow2_base.specs.declared.fault.Fault.{Fault}
use Rattle.qcow2_base.specs.declared.types.HostCluster.{HostCluster}
use Rattle.qcow2_metadata.specs.Header.{Geometry, HeaderRecord, geometry, geometry_of}
use Rattle.qcow2_metadata.specs.Placed.{numbers_at}
use Rattle.qcow2_metadata.specs.Results.{Answers}
use Rattle.qcow2_metadata.specs.Table.{IsContentFault, TableState, l2_entries, l2_layout, loaded_l2_table}
use Rattle.qcow2_check.specs.Findings.{IsLaterFault}
use Rattle.qcow2_check.specs.Counters.{CountersState, counter_of}
use Rattle.qcow2_check.specs.Flags.{AreMarksOf, FlagsState, HasNoFlag, IsClean, IsFlagsOf, flag_tables, flags_left, MarksState, first_flags, flagged_cluster, l1_flag, l1_flags, table_flags, l2_flag, l2_flags, l2_flags_from, wrong_flag}
use Rattle.qcow2_check.specs.declared.flags.FlagPlace.TheVariants.{L1Index}
use Rattle.qcow2_metadata.specs.Entries.{is_copied, offset_field}
use Rattle.qcow2_check.specs.NamedTables.{named_cluster}
use Rattle.qcow2_check.specs.Repeats.{AreTimesOf, is_again, table_names, times_at}
use Rattle.qcow2_check.specs.Soles.{AreSoles, IsMarked}
use Rattle.qcow2_check.specs.Uses.{ImageTables, all_load, l1_entry_loads}

-- the offset of each guest cluster that an L1 table of the most entries leads to fits 64 bits
pub guest_offset_fits : (cb index l2_index : ℕ) → cb ≤ 21 → index < 4194304 → l2_index < 2 ^ (cb - 3) → (index * 2 ^ (cb - 3) + l2_index) * 2 ^ cb < 2 ^ 64
guest_offset_fits cb index l2_index low l1 l2 =
    let few : cb - 3 ≤ 18 = omega (arith, low) in
    let entries : 2 ^ (cb - 3) ≤ 2 ^ 18 = pow_mono few in
    let size : 2 ^ cb ≤ 2 ^ 21 = pow_mono low in
    let below = mul-add-lt index (2 ^ (cb - 3)) l2_index 4194304 l1 l2 in
    let cluster : index * 2 ^ (cb - 3) + l2_index < 2 ^ 40 = omega (arith, below, entries) in
    let all = mul-lt (index * 2 ^ (cb - 3) + l2_index) (2 ^ cb) (2 ^ 40) (2 ^ 21 + 1) cluster (omega (arith, size)) in
    omega (arith, all)

-- where all L2 tables can be loaded, that of each L1 entry can
pub loads_each : (g : Geometry) (image : Image) (vs : List ℕ) (i : ℕ) → i < length vs → all_load g vs image ≡ Ok tt
    → l1_entry_loads g image (slice_index vs i) ≡ Ok tt
loads_each g image [] i below loads = let never : ⊥ = omega (arith, below) in elim never [ ]
loads_each g image (v ∷ vs) zero below loads = grind (arith, loads)
loads_each g image (v ∷ vs) (suc i) below loads = grind (arith, loads, loads_each g image vs i (omega (arith, below)))

-- so the fault of a load is from outside where the image's bytes are known
pub later_fault : (header : HeaderRecord) (l1 : List ℕ) (index : ℕ) (cluster : HostCluster) (fault : Fault) (old now : StorageState)
    → index < length l1 → named_cluster header.v2.cluster_bits (slice_index l1 index) ≡ Some cluster → IsContentFault fault
    → OnImage old (λ bytes. all_load (geometry_of header) l1 bytes ≡ Ok (tt {0})) → (IsTrue old.tells → (now.tells ≡ old.tells) × (now.byte_at ≡ old.byte_at))
    → OnImage now (λ bytes. Answers (λ (table : TableState). table.numbers) (Err fault) (loaded_l2_table (geometry_of header) cluster bytes))
    → IsLaterFault old fault
later_fault header l1 index cluster fault old now below named content loads same refused = (
  content,
  λ told. grind (arith, nat_tests, named, same told, refused, loads_each (geometry_of header) old.byte_at l1 index below (loads told)),
)

-- the wrong flags from an entry of a table on: that of the entry, and those from the next
flags_here : (g : Geometry) (counter : ℕ → ℕ) (index : ℕ) (numbers : List ℕ) (i : ℕ) → i < length numbers
    → l2_flags_from g counter index numbers i
    ≡ option_to_list (l2_flag g counter (index * l2_entries g.cluster_bits + i) (slice_index numbers i)) ++ l2_flags_from g counter index numbers (i + 1)
flags_here g counter index numbers i below =
    let guest = index * l2_entries g.cluster_bits in
    let one_more : suc i ≡ i + 1 = omega arith in
    let next : guest + i + 1 ≡ guest + (i + 1) = omega arith in
    ap (λ vs. l2_flags g counter (guest + i) vs) (drop-cons numbers i 0 below)
    ∙ ap (λ from. option_to_list (l2_flag g counter (guest + i) (slice_index numbers i)) ++ l2_flags g counter from (drop (suc i) numbers)) next
    ∙ ap (λ n. option_to_list (l2_flag g counter (guest + i) (slice_index numbers i)) ++ l2_flags g counter (guest + (i + 1)) (drop n numbers)) one_more

-- the geometry of tables without an external data file has no more than its cluster bits
pub inside_only : (g : Geometry) → g.external_data_file ≡ false → geometry g.cluster_bits false ≡ g
inside_only g inside = rw (← inside) refl

-- an entry 0 has no flag
no_flag : (g : Geometry) (counter : ℕ → ℕ) (guest : ℕ) → l2_flag g counter guest 0 ≡ None
no_flag g counter guest = by_file g.external_data_file refl
  where
    by_file : (external : Bool) → g.external_data_file ≡ external → l2_flag g counter guest 0 ≡ None
    by_file true is = grind (arith, nat_tests, is)
    by_file false is = grind (arith, nat_tests, is)

-- an entry 0 has none by whatever counters
pub nothing_has_no_flag : (g : Geometry) (marks : List ℕ) → HasNoFlag g marks 0
nothing_has_no_flag g marks = λ counter guest soles. no_flag g counter guest

-- a standard entry has none whose cluster is marked, if it says so
pub sole_is_right : (g : Geometry) (marks : List ℕ) (v : ℕ) → g.external_data_file ≡ false → is_copied v ≡ true
    → IsMarked marks (offset_field v / 2 ^ g.cluster_bits) → HasNoFlag g marks v
sole_is_right g marks v inside copied marked = λ counter guest soles. grind (arith, nat_tests, inside, copied, soles _ marked)

-- an entry without a cluster has none either
pub other_is_right : (g : Geometry) (marks : List ℕ) (v : ℕ) → flagged_cluster g v ≡ None → HasNoFlag g marks v
other_is_right g marks v none = λ counter guest soles. grind (arith, nat_tests, none)

-- where several entries have none, the same are left after them
pub no_flags : (g : Geometry) (marks : List ℕ) (counter : ℕ → ℕ) (index : ℕ) (numbers : List ℕ) (i k : ℕ) → i + k ≤ length numbers
    → AreSoles counter marks → ((j : ℕ) → j < k → HasNoFlag g marks (slice_index numbers (i + j)))
    → l2_flags_from g counter index numbers i ≡ l2_flags_from g counter index numbers (i + k)
no_flags g marks counter index numbers i zero within soles none = rw (add-zero i) refl
no_flags g marks counter index numbers i (suc k) within soles none =
    let guest = index * l2_entries g.cluster_bits + (i + k) in
    let sum : i + suc k ≡ i + k + 1 = omega arith in
    let last : l2_flag g counter guest (slice_index numbers (i + k)) ≡ None = none k (omega arith) counter guest soles in
    no_flags g marks counter index numbers i k (omega (arith, within)) soles (λ j below. none j (omega (arith, below)))
    ∙ flags_here g counter index numbers (i + k) (omega (arith, within)) ∙ rw (last, sum) refl

-- the same by the counters of an image
pub group_has_no_flags : (g : Geometry) (state : StorageState) (counters : CountersState) (marks : List ℕ) (index : ℕ) (numbers : List ℕ) (i k : ℕ)
    → OnImage state (λ bytes. AreSoles (counter_of counters.header counters.reftable bytes) marks) → i + k ≤ length numbers
    → ((j : ℕ) → j < k → HasNoFlag g marks (slice_index numbers (i + j)))
    → OnImage state (λ bytes. l2_flags_from g (counter_of counters.header counters.reftable bytes) index numbers i
    ≡ l2_flags_from g (counter_of counters.header counters.reftable bytes) index numbers (i + k))
group_has_no_flags g state counters marks index numbers i k soles within none = λ told.
    no_flags g marks (counter_of counters.header counters.reftable state.byte_at) index numbers i k within (soles told) none

-- the entry of a table after some that are copied ones of clusters that follow one another, if it is the next of them
pub copied_more : (numbers : List ℕ) (first cb start k cluster : ℕ) (before copied : Bool)
    → (IsTrue before → (j : ℕ) → j < k → (is_copied (slice_index numbers (first + j)) ≡ true) × (offset_field (slice_index numbers (first + j)) / 2 ^ cb ≡ start + j))
    → copied ≡ is_copied (slice_index numbers (first + k)) → cluster ≡ offset_field (slice_index numbers (first + k)) / 2 ^ cb
    → IsTrue (before && (copied && (cluster == start + k)))
    → (j : ℕ) → j < k + 1 → (is_copied (slice_index numbers (first + j)) ≡ true) × (offset_field (slice_index numbers (first + j)) / 2 ^ cb ≡ start + j)
copied_more numbers first cb start k cluster before copied so_far is at all j below =
    let one : before ≡ true = grind (arith, nat_tests, all) in
    let two : copied ≡ true = grind (arith, nat_tests, all) in
    let three : cluster ≡ start + k = grind (arith, nat_tests, all) in
    elim (cases_lt j k) [
      | inl sooner ↦ so_far one j sooner
      | inr later ↦
          let same : j ≡ k = omega (arith, below, later) in
          rw same (sym is ∙ two, sym at ∙ three)
    ]

-- an L1 entry that names no L2 table is clean
pub unnamed_is_clean : (tables : ImageTables) (image : Image) (index : ℕ)
    → named_cluster tables.header.v2.cluster_bits (slice_index tables.l1 index) ≡ None → IsClean tables image index
unnamed_is_clean tables image index none = (rw (none, l1_flag) refl, rw (none, table_flags) refl)

-- and so is one that says so of a cluster whose counter is 1, where the L2 table there has no wrong flag
pub table_is_clean : (tables : ImageTables) (image : Image) (index : ℕ) (cluster : HostCluster)
    → named_cluster tables.header.v2.cluster_bits (slice_index tables.l1 index) ≡ Some cluster
    → is_copied (slice_index tables.l1 index) ≡ true → counter_of tables.header tables.reftable image cluster.0 ≡ 1
    → l2_flags_from (geometry_of tables.header) (counter_of tables.header tables.reftable image) index
    (numbers_at (l2_layout (geometry_of tables.header)) cluster image) 0 ≡ []
    → IsClean tables image index
table_is_clean tables image index cluster names copied sole none = (rw (names, l1_flag, copied, sole) refl, rw (names, table_flags) none)

-- marks that go on by a clean entry
pub marks_more : (tables : ImageTables) (image : Image) (marks : MarksState) → AreMarksOf tables image marks → IsClean tables image marks.clean
    → AreMarksOf tables image (record marks { clean = marks.clean + 1 })
marks_more tables image marks are clean = record {
  soles = are.soles;
  clean = λ index below. elim (cases_lt index marks.clean) [
    | inl sooner ↦ are.clean index sooner
    | inr later ↦
        let same : marks.clean ≡ index = omega (arith, below, later) in
        subst (λ i. IsClean tables image i) same clean
  ];
}

-- a table without wrong flags has none, whatever L1 entry names it
none_first : (tables : ImageTables) (image : Image) (index v : ℕ) → table_flags tables.header tables.reftable image index v ≡ []
    → first_flags tables image index v ≡ []
none_first tables image index v none = elim (is_again (table_names tables.l1) index) as (λ again. (if again then [] else table_flags tables.header tables.reftable image index v) ≡ []) [
  | true ↦ refl
  | false ↦ none
]

-- the flags that are left at a clean entry are those from the next one on
pub clean_leaves : (tables : ImageTables) (image : Image) (index : ℕ) → index < length tables.l1 → IsClean tables image index
    → l1_flags tables image index (drop index tables.l1) ≡ l1_flags tables image (index + 1) (drop (index + 1) tables.l1)
clean_leaves tables image index below clean =
    let v = slice_index tables.l1 index in
    let one_more : suc index ≡ index + 1 = omega arith in
    let rest = l1_flags tables image (index + 1) (drop (suc index) tables.l1) in
    ap (λ vs. l1_flags tables image index vs) (drop-cons tables.l1 index 0 below)
    ∙ ap (λ flag. option_to_list flag ++ first_flags tables image index v ++ rest) clean.0
    ∙ ap (λ flags. flags ++ rest) (none_first tables image index v clean.1)
    ∙ ap (λ n. l1_flags tables image (index + 1) (drop n tables.l1)) one_more

pub clean_step : (reader : FlagsState) (image : Image) → IsFlagsOf image reader → reader.table ≡ None → reader.index < length reader.l1
    → reader.index < reader.marks.clean → flags_left reader image ≡ flags_left (record reader { index = reader.index + 1 }) image
clean_step reader image is none below clean =
    rw (none, flags_left) (clean_leaves (flag_tables reader) image reader.index below (is.marks.clean reader.index clean))

-- a table counts where no entry before names it too
not_again : (tables : ImageTables) (times : List ℕ) (index : ℕ) (cluster : HostCluster) → index < length tables.l1
    → named_cluster tables.header.v2.cluster_bits (slice_index tables.l1 index) ≡ Some cluster → AreTimesOf (table_names tables.l1) times
    → 0 < times_at times index → is_again (table_names tables.l1) index ≡ false
not_again tables times index cluster below named are counts =
    let inside : index < length (table_names tables.l1) = omega (arith, below, length-map tables.l1 offset_field) in
    let name : slice_index (table_names tables.l1) index ≡ offset_field (slice_index tables.l1 index) = get_or-map offset_field tables.l1 index 0 0 below in
    let some : 0 < slice_index (table_names tables.l1) index = elim (cases_eq (offset_field (slice_index tables.l1 index)) 0) [
      | inl none ↦ absurd (grind (arith, nat_tests, named, none))
      | inr other ↦ omega (arith, name, other)
    ] in
    false_from_ne_true (is_again (table_names tables.l1) index) (λ again. omega (arith, counts, (are.again index inside some).1 again))

-- the flags that are left at an entry whose table counts: its own, those of the table, and those from the next entry on
pub table_leaves : (tables : ImageTables) (image : Image) (times : List ℕ) (index : ℕ) (cluster : HostCluster) → index < length tables.l1
    → named_cluster tables.header.v2.cluster_bits (slice_index tables.l1 index) ≡ Some cluster → AreTimesOf (table_names tables.l1) times
    → 0 < times_at times index
    → l1_flags tables image index (drop index tables.l1)
    ≡ option_to_list (wrong_flag (L1Index index) cluster (Some (counter_of tables.header tables.reftable image cluster.0)) (is_copied (slice_index tables.l1 index)))
    ++ (l2_flags_from (geometry_of tables.header) (counter_of tables.header tables.reftable image) index
    (numbers_at (l2_layout (geometry_of tables.header)) cluster image) 0
    ++ l1_flags tables image (index + 1) (drop (index + 1) tables.l1))
table_leaves tables image times index cluster below named are counts =
    let v = slice_index tables.l1 index in
    let one_more : suc index ≡ index + 1 = omega arith in
    let rest = l1_flags tables image (index + 1) (drop (suc index) tables.l1) in
    let own : l1_flag tables.header tables.reftable image index v
    ≡ wrong_flag (L1Index index) cluster (Some (counter_of tables.header tables.reftable image cluster.0)) (is_copied v) = rw (named, l1_flag) refl in
    let table : table_flags tables.header tables.reftable image index v
    ≡ l2_flags_from (geometry_of tables.header) (counter_of tables.header tables.reftable image) index (numbers_at (l2_layout (geometry_of tables.header)) cluster image) 0 =
    rw (named, table_flags) refl in
    let first : first_flags tables image index v ≡ table_flags tables.header tables.reftable image index v =
    ap (λ again. if again then [] else table_flags tables.header tables.reftable image index v) (not_again tables times index cluster below named are counts) in
    ap (λ vs. l1_flags tables image index vs) (drop-cons tables.l1 index 0 below)
    ∙ ap (λ flag. option_to_list flag ++ first_flags tables image index v ++ rest) own
    ∙ ap (λ flags. option_to_list (wrong_flag (L1Index index) cluster (Some (counter_of tables.header tables.reftable image cluster.0)) (is_copied v)) ++ flags ++ rest) (first ∙ table)
    ∙ ap (λ n. option_to_list (wrong_flag (L1Index index) cluster (Some (counter_of tables.header tables.reftable image cluster.0)) (is_copied v))
    ++ l2_flags_from (geometry_of tables.header) (counter_of tables.header tables.reftable image) index (numbers_at (l2_layout (geometry_of tables.header)) cluster image) 0
    ++ l1_flags tables image (index + 1) (drop n tables.l1)) one_more
    ∙ append_assoc (option_to_list (wrong_flag (L1Index index) cluster (Some (counter_of tables.header tables.reftable image cluster.0)) (is_copied v)))
    (l2_flags_from (geometry_of tables.header) (counter_of tables.header tables.reftable image) index (numbers_at (l2_layout (geometry_of tables.header)) cluster image) 0)
    (l1_flags tables image (index + 1) (drop (index + 1) tables.l1))
