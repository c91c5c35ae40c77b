use Rattle.std.proofs.Common.{◌≡◌, ◌⊎◌, ℕ, zero, suc, Bool, true, false, not, ◌&&◌, ◌==◌, if◌then◌else◌, ◌+◌, ◌<◌, ◌≤◌, List, [], ◌∷◌, ◌++◌, flat_map, length, length-append, map, slice_index, slice_set, option_map, option_to_list, add-zero, unwrap_or, div-le_self, Option, None, Some, ap, refl, subst, sym, ◌∙◌, inl, inr, arith}
use Rattle.std.proofs.lemmas.Bool.{cases_lt}
use Rattle.std.proofs.lemmas.Bool.Decides.{nat_tests}
use Rattle.std.proofs.lemmas.List.{get_or-append-add, get_or-map, get_or_append_left, length-map}
use Rattle.std.proofs.lemmas.List.Elements.{All-append, All-cons, All-head, All-nil}
use Rattle.std.proofs.lemmas.List.Sums.{sum_by-append, sum_by-cons}
use Rattle.std.proofs.lemmas.Nat.{pow_pos}
use Rattle.std.proofs.lemmas.Option.{none-some}
use Rattle.std.specs.List.{All}
use Rattle.qcow2_base.specs.Format.{max_file_length}
use Rattle.qcow2_base.specs.Storage.{Image}
use Rattle.qcow2_base.specs.Types.{IsClusterBits}
use Rattle.qcow2_base.specs.declared.types.HostCluster.{HostCluster}
use Rattle.qcow2_edits.specs.Edits.{table_edit}
use Rattle.qcow2_edits.specs.declared.edits.Edit.{Edit}
use Rattle.qcow2_metadata.proofs.L2GuardsLemmas.{data_entry-allocation}
use Rattle.qcow2_metadata.specs.Entries.{is_copied, offset_field}
use Rattle.qcow2_metadata.specs.Entries.L2Entry.{allocation, has_host_cluster, with_zero_flag}
use Rattle.qcow2_metadata.specs.Header.{Geometry, HeaderRecord, geometry_of}
use Rattle.qcow2_metadata.specs.Placed.{numbers_at}
use Rattle.qcow2_metadata.specs.Table.{l2_layout}
use Rattle.qcow2_metadata.specs.Table.L2Guards.{EntryEdit, TableEdit, after_edit, can_be_made, entry_after, run_of, to_data, to_nothing, to_zeros}
use Rattle.qcow2_metadata.specs.declared.entries.ClustersToFreeEntry.{ClustersToFreeEntry}
use Rattle.qcow2_summary.proofs.ApartLemmas.{named-below, named-used}
use Rattle.qcow2_check.proofs.FindingsLemmas.{all-cons, uses_by_kind}
use Rattle.qcow2_check.specs.Counters.{counter_of}
use Rattle.qcow2_check.specs.Flags.{first_flags, flagged_cluster, image_flags, l1_flag, l1_flags, l2_flag, l2_flags, l2_flags_from, table_flags, wrong_flag}
use Rattle.qcow2_check.specs.NamedTables.{cluster_unless_zero, named_cluster}
use Rattle.qcow2_check.proofs.RepeatsLemmas.{first_place}
use Rattle.qcow2_check.specs.Repeats.{is_again, table_names}
use Rattle.qcow2_check.specs.Tally.{ClusterUse, used_clusters}
use Rattle.qcow2_check.specs.Uses.{ImageTables, block_uses, entry_uses, header_uses, image_uses, l1_entry_uses, table_uses, uses_of}
use Rattle.qcow2_check.specs.declared.flags.FlagPlace.{FlagPlace}
use Rattle.qcow2_check.specs.declared.flags.WrongFlag.{WrongFlag}
use Rattle.qcow2_check.specs.declared.tally.TallyKind.TheVariants.{L2Table}
use Rattle.qcow2_apply.proofs.ApplyLemmas.{can-be-made, table-left}
use Rattle.qcow2_apply.proofs.ErrorsLemmas.{AreDone, FollowAt, enough-at, findings-left, follow-at, follows-all}
use Rattle.qcow2_apply.proofs.GainsLemmas.{IsFree, entry_maps, maps-free, maps_in, run_maps}
use Rattle.qcow2_apply.proofs.TablesLemmas.{edits-made}
use Rattle.qcow2_apply.specs.Apply.{plan_tables}
use Rattle.qcow2_apply.specs.Errors.{HasNoErrors, IsLate}
use Rattle.qcow2_apply.specs.GuestEdits.{edits_in}
use Rattle.qcow2_apply.specs.PlannedTables.{gained_before}
use Rattle.qcow2_apply.specs.Tables.{AreMade}
use Rattle.qcow2_apply.specs.declared.guest_edits.GuestEdit.{GuestEdit}
use Rattle.qcow2_apply.specs.declared.plan.Plan.{Plan}

-- an L2 entry says that no other refers to its cluster
pub record SaysSole (g : Geometry) (v : ℕ) (cluster : HostCluster) : Type 0 where
  pub names : flagged_cluster g v ≡ Some cluster
  pub copied : is_copied v ≡ true

-- where it names one, its allocation begins with that
flagged-first : (g : Geometry) (v : ℕ) (cluster : HostCluster) → flagged_cluster g v ≡ Some cluster
    → option_map (λ (clusters : ClustersToFreeEntry). clusters.first) (allocation g v) ≡ Some cluster
flagged-first g v cluster names = grind (arith, nat_tests, names)

-- so one that is mapped names the cluster that it is mapped to
data-names : (g : Geometry) (host : ℕ) (cluster : HostCluster) → IsClusterBits g.cluster_bits → can_be_made g (to_data host) ≡ true
    → flagged_cluster g (entry_after g (to_data host) 0) ≡ Some cluster → host ≡ cluster.0
data-names g host cluster bits made names =
    let first = flagged-first g (entry_after g (to_data host) 0) cluster names in
    let found = data_entry-allocation g host bits made in
    let same = ap (option_map (λ (clusters : ClustersToFreeEntry). clusters.first)) (sym found) ∙ first in
    grind (arith, nat_tests, same)

none-by-one : (g : Geometry) → g.external_data_file ≡ false → flagged_cluster g 1 ≡ None
none-by-one g inside = grind (arith, nat_tests, inside)

none-by-zero : (g : Geometry) → g.external_data_file ≡ false → flagged_cluster g 0 ≡ None
none-by-zero g inside = grind (arith, nat_tests, inside)

-- the zero flag changes nothing of that
zeros-name : (g : Geometry) (v : ℕ) → has_host_cluster g v ≡ true → flagged_cluster g (with_zero_flag v) ≡ flagged_cluster g v
zeros-name g v has = grind (arith, nat_tests, has)

zeros-copied : (v : ℕ) → is_copied (with_zero_flag v) ≡ is_copied v
zeros-copied v = grind arith

-- an entry that says so after a change said it before, or the change maps it to its cluster
entry-says : (g : Geometry) (edit : EntryEdit) (v : ℕ) (cluster : HostCluster) → IsClusterBits g.cluster_bits → g.external_data_file ≡ false
    → can_be_made g edit ≡ true → SaysSole g (entry_after g edit v) cluster → SaysSole g v cluster ⊎ (0 < entry_maps cluster.0 edit)
entry-says g (to_data host) v cluster bits inside made says =
    let same = data-names g host cluster bits made says.names in
    inr (grind (arith, nat_tests, same))
entry-says g (to_zeros keep) v cluster bits inside made says = by_test (keep && has_host_cluster g v) (λ kept. second keep (has_host_cluster g v) kept) says
  where
    second : (a b : Bool) → (a && b) ≡ true → b ≡ true
    second a b both = grind (arith, both)

    by_test : (kept : Bool) → (kept ≡ true → has_host_cluster g v ≡ true) → SaysSole g (if kept then with_zero_flag v else 1) cluster
        → SaysSole g v cluster ⊎ (0 < entry_maps cluster.0 (to_zeros keep))
    by_test true has says = inl (record {
      names = sym (zeros-name g v (has refl)) ∙ says.names;
      copied = sym (zeros-copied v) ∙ says.copied;
    })
    by_test false has says = absurd (none-some cluster (sym (none-by-one g inside) ∙ says.names))
entry-says g to_nothing v cluster bits inside made says = absurd (none-some cluster (sym (none-by-zero g inside) ∙ says.names))

-- a number of a list where one was set is as before, or it is that one
set-either : (numbers : List ℕ) (i k v : ℕ) → (slice_index (slice_set numbers i v) k ≡ slice_index numbers k)
    ⊎ ((k ≡ i) × (slice_index (slice_set numbers i v) k ≡ v))
set-either [] i k v = inl refl
set-either (n ∷ numbers) zero zero v = inr (refl, refl)
set-either (n ∷ numbers) zero (suc k) v = inl refl
set-either (n ∷ numbers) (suc i) zero v = inl refl
set-either (n ∷ numbers) (suc i) (suc k) v = elim (set-either numbers i k v) [
  | inl same ↦ inl same
  | inr here ↦ inr (ap suc here.0, here.1)
]

-- what is said of an entry after one edit of its table was said before, or the edit maps it
edit-says : (g : Geometry) (e : TableEdit) (numbers : List ℕ) (k : ℕ) (cluster : HostCluster) → IsClusterBits g.cluster_bits → g.external_data_file ≡ false
    → can_be_made g e.edit ≡ true → SaysSole g (slice_index (after_edit g e numbers) k) cluster
    → SaysSole g (slice_index numbers k) cluster ⊎ (0 < entry_maps cluster.0 e.edit)
edit-says g e numbers k cluster bits inside made says =
    let v = slice_index numbers e.index in
    elim (set-either numbers e.index k (entry_after g e.edit v)) [
      | inl same ↦ inl (subst (λ n. SaysSole g n cluster) same says)
      | inr here ↦ elim (entry-says g e.edit v cluster bits inside made (subst (λ n. SaysSole g n cluster) here.1 says)) [
        | inl before ↦ inl (subst (λ j. SaysSole g (slice_index numbers j) cluster) (sym here.0) before)
        | inr maps ↦ inr maps
      ]
    ]

-- edits that can be made of a table
abbrev pub CanBe : Geometry → List Edit → Type 0
CanBe g edits = All (λ edit. can_be_made g (table_edit edit).edit ≡ true) edits

-- and what is said after all of them
run-says : (g : Geometry) (edits : List Edit) (numbers : List ℕ) (k : ℕ) (cluster : HostCluster) → IsClusterBits g.cluster_bits → g.external_data_file ≡ false
    → CanBe g edits → SaysSole g (slice_index (run_of g (map table_edit edits) numbers).numbers k) cluster
    → SaysSole g (slice_index numbers k) cluster ⊎ (0 < run_maps cluster.0 (map table_edit edits))
run-says g [] numbers k cluster bits inside can says = inl says
run-says g (edit ∷ edits) numbers k cluster bits inside can says =
    let e = table_edit edit in
    let sum = sum_by-cons (λ (other : TableEdit). entry_maps cluster.0 other.edit) e (map table_edit edits) in
    let first : can_be_made g e.edit ≡ true = can 0 edit (omega arith) in
    elim (run-says g edits (after_edit g e numbers) k cluster bits inside (λ j d below. can (suc j) d (omega (arith, below))) says) [
      | inl left ↦ elim (edit-says g e numbers k cluster bits inside first left) [
        | inl before ↦ inl before
        | inr maps ↦ inr (omega (arith, maps, sum))
      ]
      | inr later ↦ inr (omega (arith, later, sum))
    ]

-- edits of a disk that fit it can be
pub can-be : (header : HeaderRecord) (edits : List Edit) → AreMade header edits → CanBe (geometry_of header) edits
can-be header edits made = λ k d below. second _ _ (made k d below)
  where
    second : (a b : Bool) → (a && b) ≡ true → b ≡ true
    second a b both = grind (arith, both)

-- all flags that an image's entries have are true: the counters of their clusters are 1
pub record AreTrue (tables : ImageTables) (image : Image) : Type 0 where
  pub l1_entries : (k : ℕ) (cluster : HostCluster) → named_cluster tables.header.v2.cluster_bits (slice_index tables.l1 k) ≡ Some cluster
      → is_copied (slice_index tables.l1 k) ≡ true → counter_of tables.header tables.reftable image cluster.0 ≡ 1
  pub l2_entries : (i : ℕ) (table : HostCluster) (k : ℕ) (cluster : HostCluster)
      → named_cluster tables.header.v2.cluster_bits (slice_index tables.l1 i) ≡ Some table
      → SaysSole (geometry_of tables.header) (slice_index (numbers_at (l2_layout (geometry_of tables.header)) table image) k) cluster
      → counter_of tables.header tables.reftable image cluster.0 ≡ 1

-- what holds of each item of two lists holds of the items of each
all-left : {X : Type 0} (P : X → Type 0) (xs ys : List X) → All P (xs ++ ys) → All P xs
all-left P xs ys all = λ k d below. subst P (get_or_append_left xs ys d k below) (all k d (omega (arith, length-append xs ys, below)))

all-right : {X : Type 0} (P : X → Type 0) (xs ys : List X) → All P (xs ++ ys) → All P ys
all-right P xs ys all = λ k d below. subst P (get_or-append-add xs ys k d) (all (length xs + k) d (omega (arith, length-append xs ys, below)))

-- a flag that is set and isn't false is true
late-true : (place : FlagPlace) (cluster : HostCluster) (n : ℕ) → All IsLate (option_to_list (wrong_flag place cluster (Some n) true)) → n ≡ 1
late-true place cluster n late = by_test (n == 1) refl late
  where
    by_test : (sole : Bool) → (n == 1) ≡ sole
        → All IsLate (option_to_list (if sole then None else Some (record { place = place; cluster = cluster; counter = Some n; is_set = true }))) → n ≡ 1
    by_test true is late = grind (arith, nat_tests, is)
    by_test false is late = absurd (grind (arith, All-head IsLate (record { place = place; cluster = cluster; counter = Some n; is_set = true }) [] late))

-- and one that is true isn't false
true-late : (place : FlagPlace) (cluster : HostCluster) (n : ℕ) (set : Bool) (flag : WrongFlag) → (set ≡ true → n ≡ 1)
    → wrong_flag place cluster (Some n) set ≡ Some flag → flag.is_set ≡ false
true-late place cluster n true flag sole is = absurd (none-some flag (rw (sole refl) at is))
true-late place cluster n false flag sole is = by_test (n == 1) is
  where
    told : WrongFlag
    told = record { place = place; cluster = cluster; counter = Some n; is_set = false }

    by_test : (same : Bool) → (if not same then None else Some told) ≡ Some flag → flag.is_set ≡ false
    by_test true is = ap (λ found. (unwrap_or found told).is_set) (sym is)
    by_test false is = absurd (none-some flag is)

-- of wrong flags that all are late, those of each L1 entry are, and of its table where it comes first
l1-each : (tables : ImageTables) (image : Image) (index : ℕ) (vs : List ℕ) (k : ℕ) → k < length vs → All IsLate (l1_flags tables image index vs)
    → All IsLate (option_to_list (l1_flag tables.header tables.reftable image (index + k) (slice_index vs k)))
    × All IsLate (first_flags tables image (index + k) (slice_index vs k))
l1-each tables image index [] k below late = absurd (omega (arith, below))
l1-each tables image index (v ∷ vs) zero below late =
    let own = option_to_list (l1_flag tables.header tables.reftable image index v) in
    let entries = first_flags tables image index v in
    let first = all-left IsLate (own ++ entries) (l1_flags tables image (index + 1) vs) late in
    subst (λ n. All IsLate (option_to_list (l1_flag tables.header tables.reftable image n v)) × All IsLate (first_flags tables image n v)) (sym (add-zero index))
    (all-left IsLate own entries first, all-right IsLate own entries first)
l1-each tables image index (v ∷ vs) (suc k) below late =
    let place : index + 1 + k ≡ index + suc k = omega arith in
    subst (λ n. All IsLate (option_to_list (l1_flag tables.header tables.reftable image n (slice_index vs k))) × All IsLate (first_flags tables image n (slice_index vs k))) place
    (l1-each tables image (index + 1) vs k (omega (arith, below))
    (all-right IsLate (option_to_list (l1_flag tables.header tables.reftable image index v) ++ first_flags tables image index v)
    (l1_flags tables image (index + 1) vs) late))

-- so those of each table are
table-each : (tables : ImageTables) (image : Image) (i : ℕ) (table : HostCluster) → i < length tables.l1
    → named_cluster tables.header.v2.cluster_bits (slice_index tables.l1 i) ≡ Some table → All IsLate (image_flags tables image)
    → (at : ℕ) × All IsLate (l2_flags_from (geometry_of tables.header) (counter_of tables.header tables.reftable image) at
    (numbers_at (l2_layout (geometry_of tables.header)) table image) 0)
table-each tables image i table below named late =
    let names = table_names tables.l1 in
    let same_length = length-map tables.l1 offset_field in
    let first = first_place names i (omega (arith, below, same_length)) in
    let inside : first.0 < length tables.l1 = omega (arith, first.1, same_length) in
    let offset : offset_field (slice_index tables.l1 first.0) ≡ offset_field (slice_index tables.l1 i) =
    sym (get_or-map offset_field tables.l1 first.0 0 0 inside) ∙ first.2 ∙ get_or-map offset_field tables.l1 i 0 0 below in
    let there : named_cluster tables.header.v2.cluster_bits (slice_index tables.l1 first.0) ≡ Some table =
    ap (λ n. cluster_unless_zero tables.header.v2.cluster_bits n) offset ∙ named in
    let each = (l1-each tables image 0 tables.l1 first.0 inside late).1 in
    let place : 0 + first.0 ≡ first.0 = omega arith in
    let entries : All IsLate (table_flags tables.header tables.reftable image first.0 (slice_index tables.l1 first.0)) =
    subst (λ again. All IsLate (if again then [] else table_flags tables.header tables.reftable image first.0 (slice_index tables.l1 first.0))) first.3
    (subst (λ n. All IsLate (first_flags tables image n (slice_index tables.l1 first.0))) place each) in
    (first.0, rw (there, table_flags) at entries)

-- and that of each L2 entry
l2-each : (header : HeaderRecord) (reftable : List ℕ) (image : Image) (guest : ℕ) (vs : List ℕ) (k : ℕ) → k < length vs
    → All IsLate (l2_flags (geometry_of header) (counter_of header reftable image) guest vs) → (at : ℕ) × All IsLate (option_to_list (l2_flag (geometry_of header) (counter_of header reftable image) at (slice_index vs k)))
l2-each header reftable image guest [] k below late = absurd (omega (arith, below))
l2-each header reftable image guest (v ∷ vs) zero below late =
    (guest, all-left IsLate (option_to_list (l2_flag (geometry_of header) (counter_of header reftable image) guest v)) (l2_flags (geometry_of header) (counter_of header reftable image) (guest + 1) vs) late)
l2-each header reftable image guest (v ∷ vs) (suc k) below late = l2-each header reftable image (guest + 1) vs k (omega (arith, below))
    (all-right IsLate (option_to_list (l2_flag (geometry_of header) (counter_of header reftable image) guest v)) (l2_flags (geometry_of header) (counter_of header reftable image) (guest + 1) vs) late)

-- an entry past the end is 0
within : (vs : List ℕ) (k : ℕ) → (k < length vs) ⊎ (slice_index vs k ≡ 0)
within [] k = inr refl
within (v ∷ vs) zero = inl (omega arith)
within (v ∷ vs) (suc k) = elim (within vs k) [
  | inl below ↦ inl (omega (arith, below))
  | inr past ↦ inr past
]

-- where no flag is false, all are true
are-true : (tables : ImageTables) (image : Image) → (geometry_of tables.header).external_data_file ≡ false → All IsLate (image_flags tables image)
    → AreTrue tables image
are-true tables image inside late = record {
  l1_entries = λ k cluster names copied. elim (within tables.l1 k) [
    | inl below ↦ of_l1 k cluster names copied below
    | inr past ↦ absurd (grind (arith, nat_tests, names, past))
  ];
  l2_entries = λ i table k cluster named says. elim (within tables.l1 i) [
    | inr past ↦ absurd (grind (arith, nat_tests, named, past))
    | inl below ↦ elim (within (numbers table) k) [
      | inr past ↦ absurd (none-some cluster (sym (none-by-zero (geometry_of tables.header) inside)
          ∙ subst (λ v. flagged_cluster (geometry_of tables.header) v ≡ Some cluster) past says.names))
      | inl there ↦ of_l2 i table k cluster named says below there
    ]
  ];
}
  where
    numbers : HostCluster → List ℕ
    numbers table = numbers_at (l2_layout (geometry_of tables.header)) table image

    of_l1 : (k : ℕ) (cluster : HostCluster) → named_cluster tables.header.v2.cluster_bits (slice_index tables.l1 k) ≡ Some cluster
        → is_copied (slice_index tables.l1 k) ≡ true → k < length tables.l1 → counter_of tables.header tables.reftable image cluster.0 ≡ 1
    of_l1 k cluster names copied below =
        let each = l1-each tables image 0 tables.l1 k below late in
        late-true _ cluster (counter_of tables.header tables.reftable image cluster.0) (rw (names, copied, l1_flag) at each.0)

    of_l2 : (i : ℕ) (table : HostCluster) (k : ℕ) (cluster : HostCluster) → named_cluster tables.header.v2.cluster_bits (slice_index tables.l1 i) ≡ Some table
        → SaysSole (geometry_of tables.header) (slice_index (numbers table) k) cluster → i < length tables.l1 → k < length (numbers table)
        → counter_of tables.header tables.reftable image cluster.0 ≡ 1
    of_l2 i table k cluster named says below there =
        let list = (table-each tables image i table below named late).1 in
        let one = l2-each tables.header tables.reftable image _ (numbers table) k there list in
        late-true _ cluster (counter_of tables.header tables.reftable image cluster.0) (rw (says.names, inside, says.copied, l2_flag) at one.1)

-- what holds of each wrong flag holds of all
found-late : (found : Option WrongFlag) → ((flag : WrongFlag) → found ≡ Some flag → IsLate flag) → All IsLate (option_to_list found)
found-late None each = All-nil IsLate
found-late (Some flag) each = All-cons IsLate flag [] (each flag refl) (All-nil IsLate)

l2-late : (header : HeaderRecord) (reftable : List ℕ) (image : Image) (guest : ℕ) (vs : List ℕ)
    → ((k at : ℕ) (flag : WrongFlag) → l2_flag (geometry_of header) (counter_of header reftable image) at (slice_index vs k) ≡ Some flag → IsLate flag)
    → All IsLate (l2_flags (geometry_of header) (counter_of header reftable image) guest vs)
l2-late header reftable image guest [] each = All-nil IsLate
l2-late header reftable image guest (v ∷ vs) each =
    All-append IsLate (option_to_list (l2_flag (geometry_of header) (counter_of header reftable image) guest v)) (l2_flags (geometry_of header) (counter_of header reftable image) (guest + 1) vs)
    (found-late (l2_flag (geometry_of header) (counter_of header reftable image) guest v) (each 0 guest)) (l2-late header reftable image (guest + 1) vs (λ k. each (suc k)))

table-late : (header : HeaderRecord) (reftable : List ℕ) (image : Image) (index v : ℕ) (found : Option HostCluster)
    → named_cluster header.v2.cluster_bits v ≡ found → ((table : HostCluster) (k at : ℕ) (flag : WrongFlag) → found ≡ Some table
    → l2_flag (geometry_of header) (counter_of header reftable image) at (slice_index (numbers_at (l2_layout (geometry_of header)) table image) k) ≡ Some flag → IsLate flag)
    → All IsLate (table_flags header reftable image index v)
table-late header reftable image index v None names each = rw (names, table_flags) (All-nil IsLate)
table-late header reftable image index v (Some table) names each = rw (names, table_flags)
    (l2-late header reftable image _ (numbers_at (l2_layout (geometry_of header)) table image) (λ k at flag. each table k at flag refl))

first-late : (tables : ImageTables) (image : Image) (index v : ℕ) → All IsLate (table_flags tables.header tables.reftable image index v)
    → All IsLate (first_flags tables image index v)
first-late tables image index v late = elim (is_again (table_names tables.l1) index)
    as (λ again. All IsLate (if again then [] else table_flags tables.header tables.reftable image index v)) [
      | true ↦ All-nil IsLate
      | false ↦ late
    ]

l1-late : (tables : ImageTables) (image : Image) (index : ℕ) (vs : List ℕ)
    → ((k at : ℕ) (flag : WrongFlag) → l1_flag tables.header tables.reftable image at (slice_index vs k) ≡ Some flag → IsLate flag)
    → ((i : ℕ) (table : HostCluster) (k at : ℕ) (flag : WrongFlag) → named_cluster tables.header.v2.cluster_bits (slice_index vs i) ≡ Some table
    → l2_flag (geometry_of tables.header) (counter_of tables.header tables.reftable image) at (slice_index (numbers_at (l2_layout (geometry_of tables.header)) table image) k) ≡ Some flag → IsLate flag)
    → All IsLate (l1_flags tables image index vs)
l1-late tables image index [] one other = All-nil IsLate
l1-late tables image index (v ∷ vs) one other =
    let header = tables.header in
    let own = option_to_list (l1_flag header tables.reftable image index v) in
    let entries = first_flags tables image index v in
    All-append IsLate (own ++ entries) (l1_flags tables image (index + 1) vs)
    (All-append IsLate own entries (found-late (l1_flag header tables.reftable image index v) (one 0 index))
    (first-late tables image index v (table-late header tables.reftable image index v (named_cluster header.v2.cluster_bits v) refl (λ table k at flag names. other 0 table k at flag names))))
    (l1-late tables image (index + 1) vs (λ k. one (suc k)) (λ i. other (suc i)))

-- and where all are true, none is false
are-late : (tables : ImageTables) (image : Image) → (geometry_of tables.header).external_data_file ≡ false → AreTrue tables image
    → All IsLate (image_flags tables image)
are-late tables image inside true_ones = l1-late tables image 0 tables.l1 of_l1 of_l2
  where
    g : Geometry
    g = geometry_of tables.header

    of_l1 : (k at : ℕ) (flag : WrongFlag) → l1_flag tables.header tables.reftable image at (slice_index tables.l1 k) ≡ Some flag → IsLate flag
    of_l1 k at flag is = by_name (named_cluster tables.header.v2.cluster_bits (slice_index tables.l1 k)) refl
      where
        by_name : (found : Option HostCluster) → named_cluster tables.header.v2.cluster_bits (slice_index tables.l1 k) ≡ found → IsLate flag
        by_name None none = absurd (none-some flag (rw (none, l1_flag) at is))
        by_name (Some cluster) names = true-late _ cluster (counter_of tables.header tables.reftable image cluster.0) (is_copied (slice_index tables.l1 k)) flag
            (true_ones.l1_entries k cluster names) (rw (names, l1_flag) at is)

    of_l2 : (i : ℕ) (table : HostCluster) (k at : ℕ) (flag : WrongFlag) → named_cluster tables.header.v2.cluster_bits (slice_index tables.l1 i) ≡ Some table
        → l2_flag (geometry_of tables.header) (counter_of tables.header tables.reftable image) at (slice_index (numbers_at (l2_layout (geometry_of tables.header)) table image) k) ≡ Some flag → IsLate flag
    of_l2 i table k at flag named is = by_name (flagged_cluster (geometry_of tables.header) (slice_index (numbers_at (l2_layout (geometry_of tables.header)) table image) k)) refl
      where
        v : ℕ
        v = slice_index (numbers_at (l2_layout (geometry_of tables.header)) table image) k

        by_name : (found : Option HostCluster)
            → flagged_cluster (geometry_of tables.header) (slice_index (numbers_at (l2_layout (geometry_of tables.header)) table image) k) ≡ found → IsLate flag
        by_name None none = absurd (none-some flag (rw (none, l2_flag) at is))
        by_name (Some cluster) names = true-late _ cluster (counter_of tables.header tables.reftable image cluster.0) (is_copied v) flag
            (λ copied. true_ones.l2_entries i table k cluster named (record { names = names; copied = copied })) (rw (names, inside, l2_flag) at is)

-- uses of a cluster in one list and in another
uses-append : (one other : List ClusterUse) (c : ℕ) → uses_of (one ++ other) c ≡ uses_of one c + uses_of other c
uses-append one other c = sum_by-append _ one other

-- an L2 entry uses the cluster that it names
entry-used : (g : Geometry) (v : ℕ) (cluster : HostCluster) → g.external_data_file ≡ false → flagged_cluster g v ≡ Some cluster
    → 0 < uses_of (entry_uses g v) cluster.0
entry-used g v cluster inside names = grind (arith, nat_tests, inside, names, all-cons, pow_pos)

entries-used : (g : Geometry) (vs : List ℕ) (k : ℕ) (cluster : HostCluster) → g.external_data_file ≡ false → flagged_cluster g (slice_index vs k) ≡ Some cluster
    → 0 < uses_of (flat_map (entry_uses g) vs) cluster.0
entries-used g [] k cluster inside names = absurd (none-some cluster (sym (none-by-zero g inside) ∙ names))
entries-used g (v ∷ vs) zero cluster inside names =
    omega (arith, uses-append (entry_uses g v) (flat_map (entry_uses g) vs) cluster.0, entry-used g v cluster inside names)
entries-used g (v ∷ vs) (suc k) cluster inside names =
    omega (arith, uses-append (entry_uses g v) (flat_map (entry_uses g) vs) cluster.0, entries-used g vs k cluster inside names)

-- and so does the table that it is of
table-used : (g : Geometry) (table : HostCluster) (image : Image) (k : ℕ) (cluster : HostCluster) → g.external_data_file ≡ false
    → flagged_cluster g (slice_index (numbers_at (l2_layout g) table image) k) ≡ Some cluster → 0 < uses_of (table_uses g table image) cluster.0
table-used g table image k cluster inside names = omega (
  arith,
  all-cons (used_clusters L2Table table 1) (flat_map (entry_uses g) (numbers_at (l2_layout g) table image)) cluster.0,
  entries-used g (numbers_at (l2_layout g) table image) k cluster inside names,
)

l1-entries-used : (g : Geometry) (l1 : List ℕ) (image : Image) (i : ℕ) (table : HostCluster) (k : ℕ) (cluster : HostCluster) → g.external_data_file ≡ false
    → named_cluster g.cluster_bits (slice_index l1 i) ≡ Some table
    → flagged_cluster g (slice_index (numbers_at (l2_layout g) table image) k) ≡ Some cluster → 0 < uses_of (flat_map (l1_entry_uses g image) l1) cluster.0
l1-entries-used g [] image i table k cluster inside named names = absurd (grind (arith, nat_tests, named))
l1-entries-used g (v ∷ vs) image zero table k cluster inside named names =
    let here : 0 < uses_of (l1_entry_uses g image v) cluster.0 = rw (named, l1_entry_uses) (table-used g table image k cluster inside names) in
    omega (arith, uses-append (l1_entry_uses g image v) (flat_map (l1_entry_uses g image) vs) cluster.0, here)
l1-entries-used g (v ∷ vs) image (suc i) table k cluster inside named names = omega (
  arith,
  uses-append (l1_entry_uses g image v) (flat_map (l1_entry_uses g image) vs) cluster.0,
  l1-entries-used g vs image i table k cluster inside named names,
)

-- so an image uses the clusters that the entries of its L2 tables name
flagged-used : (tables : ImageTables) (image : Image) (i : ℕ) (table : HostCluster) (k : ℕ) (cluster : HostCluster)
    → (geometry_of tables.header).external_data_file ≡ false → named_cluster tables.header.v2.cluster_bits (slice_index tables.l1 i) ≡ Some table
    → flagged_cluster (geometry_of tables.header) (slice_index (numbers_at (l2_layout (geometry_of tables.header)) table image) k) ≡ Some cluster
    → 0 < uses_of (image_uses tables image) cluster.0
flagged-used tables image i table k cluster inside named names =
    let first = header_uses tables.header in
    let blocks = flat_map (block_uses tables.header.v2.cluster_bits) tables.reftable in
    let last = flat_map (l1_entry_uses (geometry_of tables.header) image) tables.l1 in
    omega (
      arith,
      uses-append first (blocks ++ last) cluster.0,
      uses-append blocks last cluster.0,
      l1-entries-used (geometry_of tables.header) tables.l1 image i table k cluster inside named names,
    )

-- and those of the tables
table-in-use : (tables : ImageTables) (image : Image) (k : ℕ) (cluster : HostCluster)
    → named_cluster tables.header.v2.cluster_bits (slice_index tables.l1 k) ≡ Some cluster → 0 < uses_of (image_uses tables image) cluster.0
table-in-use tables image k cluster names = omega (arith, named-used tables image k cluster names, uses_by_kind (image_uses tables image) cluster.0)

-- a cluster that an L2 entry names lies below the greatest end
flagged-below : (g : Geometry) (v : ℕ) (cluster : HostCluster) → flagged_cluster g v ≡ Some cluster → cluster.0 < max_file_length
flagged-below g v cluster names = grind (arith, nat_tests, names, div-le_self)

-- a counter that was 1 stays so where its cluster is used before edits and after, and wasn't missing
one-stays : (tables : ImageTables) (edits : List GuestEdit) (old new : Image) (c : ℕ) → FollowAt tables edits old new c
    → uses_of (image_uses tables old) c ≤ counter_of tables.header tables.reftable old c → 0 < uses_of (image_uses tables old) c
    → 0 < uses_of (image_uses tables new) c → counter_of tables.header tables.reftable old c ≡ 1 → counter_of tables.header tables.reftable new c ≡ 1
one-stays tables edits old new c follow enough used still one =
    let counter = follows-all tables edits old new c follow enough in
    elim (cases_lt 0 (gained_before tables edits old (length tables.l1) c)) [
      | inl some ↦ absurd (omega (arith, one, (follow.free some).free))
      | inr nothing ↦ omega (arith, counter, enough, used, still, one, nothing, follow.uses)
    ]

-- and one of a cluster that edits map becomes 1
free-rises : (tables : ImageTables) (edits : List GuestEdit) (old new : Image) (c : ℕ) → FollowAt tables edits old new c
    → uses_of (image_uses tables old) c ≤ counter_of tables.header tables.reftable old c → 0 < uses_of (image_uses tables new) c
    → IsFree tables edits old c → counter_of tables.header tables.reftable new c ≡ 1
free-rises tables edits old new c follow enough still free =
    omega (arith, follows-all tables edits old new c follow enough, enough, still, free.free, free.once, follow.once, follow.uses)

-- so flags that were true are true after edits
flags-stay : (header : HeaderRecord) (edits : List GuestEdit) (plan : Plan) (old new : Image) → AreDone header edits plan old new
    → HasNoErrors (plan_tables header plan) old → AreTrue (plan_tables header plan) old → AreTrue (plan_tables header plan) new
flags-stay header edits plan old new done none were = record {
  l1_entries = λ k cluster names copied. one-stays tables edits old new cluster.0 (follow cluster.0)
      (enough-at tables old none cluster.0 (named-below _ _ cluster names)) (table-in-use tables old k cluster names)
      (table-in-use tables new k cluster names) (were.l1_entries k cluster names copied);
  l2_entries = λ i table k cluster named says. by_edits i table k cluster named says (said i table k cluster named says);
}
  where
    tables : ImageTables
    tables = plan_tables header plan

    g : Geometry
    g = geometry_of tables.header

    numbers : HostCluster → Image → List ℕ
    numbers table image = numbers_at (l2_layout (geometry_of tables.header)) table image

    follow : (c : ℕ) → FollowAt (plan_tables header plan) edits old new c
    follow c = follow-at header edits plan old new c done

    Said : ℕ → HostCluster → ℕ → HostCluster → Type 0
    Said i table k cluster = SaysSole g (slice_index (numbers table old) k) cluster ⊎ (0 < maps_in tables.header.v2.cluster_bits edits cluster.0 i)

    said : (i : ℕ) (table : HostCluster) (k : ℕ) (cluster : HostCluster) → named_cluster tables.header.v2.cluster_bits (slice_index tables.l1 i) ≡ Some table
        → SaysSole g (slice_index (numbers table new) k) cluster → Said i table k cluster
    said i table k cluster named says =
        let applied = done.follows.ends done.apart in
        let left = table-left tables edits plan.gains plan.losses old done.follows.cleared new i table done.valid.cluster_bits done.apart done.follows.clears applied named in
        let list = edits_in tables.header.v2.cluster_bits i edits in
        run-says g list (numbers table old) k cluster done.valid.cluster_bits done.for.no_data_file
        (can-be tables.header list (edits-made tables.header i edits done.for.fit)) (subst (λ after. SaysSole g (slice_index after k) cluster) left says)

    by_edits : (i : ℕ) (table : HostCluster) (k : ℕ) (cluster : HostCluster) → named_cluster tables.header.v2.cluster_bits (slice_index tables.l1 i) ≡ Some table
        → SaysSole g (slice_index (numbers table new) k) cluster → Said i table k cluster
        → counter_of tables.header tables.reftable new cluster.0 ≡ 1
    by_edits i table k cluster named says (inl before) = one-stays tables edits old new cluster.0 (follow cluster.0)
        (enough-at tables old none cluster.0 (flagged-below g (slice_index (numbers table new) k) cluster says.names))
        (flagged-used tables old i table k cluster done.for.no_data_file named before.names)
        (flagged-used tables new i table k cluster done.for.no_data_file named says.names) (were.l2_entries i table k cluster named before)
    by_edits i table k cluster named says (inr maps) = free-rises tables edits old new cluster.0 (follow cluster.0)
        (enough-at tables old none cluster.0 (flagged-below g (slice_index (numbers table new) k) cluster says.names))
        (flagged-used tables new i table k cluster done.for.no_data_file named says.names)
        (maps-free tables edits old i cluster.0 table (can-be-made header edits plan old done.of).tables_allow named maps)

-- an image without errors has none after edits
pub no-errors : (header : HeaderRecord) (edits : List GuestEdit) (plan : Plan) (old new : Image) → AreDone header edits plan old new
    → HasNoErrors (plan_tables header plan) old → HasNoErrors (plan_tables header plan) new
no-errors header edits plan old new done none =
    let tables = plan_tables header plan in record {
      findings = findings-left header edits plan old new done none;
      flags = are-late tables new done.for.no_data_file
          (flags-stay header edits plan old new done none (are-true tables old done.for.no_data_file none.flags));
    }
