use Rattle.std.proofs.Common.{◌≡◌, ◌≢◌, ◌⊎◌, ℕ, Bool, false, zero, suc, ◌+◌, ◌*◌, ◌/◌, ◌^◌, ◌<◌, ◌≤◌, List, [], ◌∷◌, map, slice_index, Option, Some, None, Ok, ap, refl, sym, subst, ◌∙◌, inl, inr, add-zero, arith}
use Rattle.std.proofs.lemmas.Bool.{cases_Bool, cases_lt}
use Rattle.std.proofs.lemmas.Bool.Decides.{nat_tests}
use Rattle.std.proofs.lemmas.Grind.{div_ceil_times}
use Rattle.std.proofs.lemmas.List.{length-map}
use Rattle.std.proofs.lemmas.Nat.{div-mul-add, pow_pos}
use Rattle.std.proofs.Math.Nat.{div-lt_iff_lt-mul}
use Rattle.std.specs.Int.{div_ceil}
use Rattle.qcow2_base.specs.Storage.{Image, SameOutside}
use Rattle.qcow2_base.specs.declared.fault.Fault.{Fault}
use Rattle.qcow2_base.specs.declared.fault.Fault.TheVariants.{Storage}
use Rattle.qcow2_base.specs.declared.types.HostCluster.{HostCluster}
use Rattle.qcow2_metadata.proofs.CopiedLemmas.{offset_field-with_copied}
use Rattle.qcow2_metadata.proofs.EntriesLemmas.{div_rises}
use Rattle.qcow2_metadata.proofs.TableLemmas.{table_numbers_same}
use Rattle.qcow2_metadata.specs.Header.{Geometry, HeaderRecord, geometry_of}
use Rattle.qcow2_base.specs.Format.{most_l1_entries}
use Rattle.qcow2_metadata.specs.Placed.{offset_of, place_fault}
use Rattle.qcow2_metadata.specs.Results.{result_map}
use Rattle.qcow2_metadata.specs.Table.{loaded_l2_table}
use Rattle.qcow2_summary.proofs.ApartLemmas.{header-used, l1-used, named-below, named-used}
use Rattle.qcow2_check.proofs.FindingsLemmas.{cell_counts, excludes, uses_by_kind}
use Rattle.qcow2_check.specs.Counters.{block_of_cluster}
use Rattle.qcow2_check.specs.Findings.{CountsAll, is_shared}
use Rattle.qcow2_check.specs.Flags.{flagged_cluster}
use Rattle.qcow2_check.specs.NamedTables.{l1_cluster, l1_layout, named_cluster}
use Rattle.qcow2_check.specs.Tally.{TallyState, cell_at}
use Rattle.qcow2_check.specs.Uses.{ImageTables, all_load, image_uses, l1_entry_loads, uses_of}
use Rattle.qcow2_repair.proofs.FlagsLemmas.{passed_cases}
use Rattle.qcow2_summary.proofs.ClustersLemmas.{table-same}
use Rattle.qcow2_repair.specs.Repair.{IsRepairable}
use Rattle.qcow2_repair.specs.Flags.{BreaksOffFlags, BreaksOffL2, FlagPassState, IsBetween, IsOutsideL2Tables, IsOutsideTables, NamesTable, PassesFlags, PassesL2, PassesSomeFlags, TearsL2, TearsTable, due_flag, l1_due, l1_in, l2_due, l2_in, pass_all, pass_between, passed_l1, passed_l2, tally_uses, uses_between, with_due}

-- a pass by these uses
abbrev pub pass_of : HeaderRecord → List ℕ → Bool → (ℕ → Option ℕ) → FlagPassState
pass_of header reftable flag uses = record { header = header; reftable = reftable; uses = uses; flag = flag }

-- the same flag is due by the same uses
pub due-same : (header : HeaderRecord) (reftable : List ℕ) (flag : Bool) (one other : ℕ → Option ℕ) (cluster : HostCluster)
    → one cluster.0 ≡ other cluster.0 → due_flag (pass_of header reftable flag one) cluster ≡ due_flag (pass_of header reftable flag other) cluster
due-same header reftable flag one other cluster same = by_block (block_of_cluster header reftable cluster.0) refl
  where
    by_block : (found : Option HostCluster) → block_of_cluster header reftable cluster.0 ≡ found
        → due_flag (pass_of header reftable flag one) cluster ≡ due_flag (pass_of header reftable flag other) cluster
    by_block None none = grind (arith, none)
    by_block (Some block) there = grind (arith, there, same)

-- so entries are passed alike
l1-same : (header : HeaderRecord) (reftable : List ℕ) (flag : Bool) (one other : ℕ → Option ℕ) (v : ℕ) → ((c : ℕ) → one c ≡ other c)
    → passed_l1 (pass_of header reftable flag one) v ≡ passed_l1 (pass_of header reftable flag other) v
l1-same header reftable flag one other v same = ap (λ due. with_due flag due v) (by_name (named_cluster header.v2.cluster_bits v) refl)
  where
    by_name : (found : Option HostCluster) → named_cluster header.v2.cluster_bits v ≡ found
        → l1_due (pass_of header reftable flag one) v ≡ l1_due (pass_of header reftable flag other) v
    by_name None none = grind (arith, none)
    by_name (Some cluster) there = grind (arith, there, due-same header reftable flag one other cluster (same cluster.0))

l2-same : (header : HeaderRecord) (reftable : List ℕ) (flag : Bool) (one other : ℕ → Option ℕ) (v : ℕ) → ((c : ℕ) → one c ≡ other c)
    → passed_l2 (pass_of header reftable flag one) v ≡ passed_l2 (pass_of header reftable flag other) v
l2-same header reftable flag one other v same = ap (λ due. with_due flag due v) (by_name (flagged_cluster (geometry_of header) v) refl)
  where
    by_name : (found : Option HostCluster) → flagged_cluster (geometry_of header) v ≡ found
        → l2_due (pass_of header reftable flag one) v ≡ l2_due (pass_of header reftable flag other) v
    by_name None none = grind (arith, none)
    by_name (Some cluster) there = grind (arith, there, due-same header reftable flag one other cluster (same cluster.0))

pub map-same : (f h : ℕ → ℕ) (vs : List ℕ) → ((v : ℕ) → f v ≡ h v) → map f vs ≡ map h vs
map-same f h [] same = refl
map-same f h (v ∷ vs) same = rw (same v, map-same f h vs same) refl

-- the uses that a tally has counted are those of the image
tally-uses : (tables : ImageTables) (image : Image) (tally : TallyState) (first : ℕ) → CountsAll tables image tally → tally.first ≡ first → (c : ℕ)
    → tally_uses tally c ≡ uses_between (λ k. uses_of (image_uses tables image) k) first tally.end c
tally-uses tables image tally first counts begins c = elim (cases_lt c first) [
  | inl less ↦ grind (arith, nat_tests, less, begins)
  | inr from ↦ elim (cases_lt c tally.end) [
    | inl before ↦ grind (arith, nat_tests, from, before, begins, cell_counts (image_uses tables image) c (cell_at tally c) (counts c (omega (arith, from, begins)) before))
    | inr past ↦ grind (arith, nat_tests, past, from, begins)
  ]
]

-- an L1 entry names the same table after a pass
pub named-passed : (pass : FlagPassState) (v : ℕ) → named_cluster pass.header.v2.cluster_bits (passed_l1 pass v) ≡ named_cluster pass.header.v2.cluster_bits v
named-passed pass v = elim (passed_cases pass.flag (l1_due pass v) v) [
  | inl same ↦ ap (named_cluster pass.header.v2.cluster_bits) same
  | inr turned ↦ ap (named_cluster pass.header.v2.cluster_bits) turned ∙ rw (offset_field-with_copied pass.flag v) refl
]

pub names-same : (pass : FlagPassState) (l1 : List ℕ) (k : ℕ) → named_cluster pass.header.v2.cluster_bits (slice_index (map (passed_l1 pass) l1) k)
    ≡ named_cluster pass.header.v2.cluster_bits (slice_index l1 k)
names-same pass [] k = refl
names-same pass (v ∷ vs) zero = named-passed pass v
names-same pass (v ∷ vs) (suc k) = names-same pass vs k

-- the L1 table lies in no L2 table, where no uses exclude each other
pub l1-outside : (tables : ImageTables) (image : Image) (o : ℕ) → IsRepairable tables image
    → offset_of (l1_layout tables.header) (l1_cluster tables.header) ≤ o
    → o < offset_of (l1_layout tables.header) (l1_cluster tables.header) + (l1_layout tables.header).byte_count
    → IsOutsideL2Tables tables.header tables.l1 o
l1-outside tables image o is from before table names here =
    let header = tables.header in
    let uses = image_uses tables image in
    let w = 2 ^ header.v2.cluster_bits in
    let first = (l1_cluster header).0 in
    let count = div_ceil (8 * header.v2.l1_size) w in
    let fits : 8 * header.v2.l1_size ≤ count * w = (div_ceil_times (8 * header.v2.l1_size) w (pow_pos _)).0 in
    let low : first ≤ o / w = rw (ap (λ n. n / w) (sym (add-zero (first * w))) ∙ div-mul-add first w 0 (pow_pos _)) at (div_rises (first * w) o w (pow_pos _) from) in
    let high : o / w < first + count = (div-lt_iff_lt-mul (pow_pos _)).1 (omega (arith, before, fits)) in
    let below = named-below _ _ table names.1 in
    let apart : is_shared uses table.0 ≡ false = is.apart table.0 below in
    let fixed = header-used tables image table.0 (l1-used header table.0 (rw here at low) (rw here at high)) in
    grind (arith, nat_tests, excludes uses table.0 apart, uses_by_kind uses table.0, named-used tables image names.0 table names.1, fixed)

-- an L2 table stays where only bytes of the L1 table change
l2-kept : (tables : ImageTables) (start mid : Image) (table : HostCluster) → IsRepairable tables start → NamesTable tables.header tables.l1 table
    → SameOutside (offset_of (l1_layout tables.header) (l1_cluster tables.header)) (l1_layout tables.header).byte_count start mid
    → l2_in tables.header table mid ≡ l2_in tables.header table start
l2-kept tables start mid table is names outside = table-same (geometry_of tables.header) table start mid is.bits.0 (λ o here. at o here)
  where
    at : (o : ℕ) → o / 2 ^ tables.header.v2.cluster_bits ≡ table.0 → mid o ≡ start o
    at o here = elim (cases_lt o (offset_of (l1_layout tables.header) (l1_cluster tables.header))) [
      | inl less ↦ outside.before o less
      | inr from ↦ elim (cases_lt o (offset_of (l1_layout tables.header) (l1_cluster tables.header) + (l1_layout tables.header).byte_count)) [
        | inl within ↦ absurd (l1-outside tables start o is from within table names here)
        | inr past ↦ outside.after o past
      ]
    ]

-- and the L1 table where only bytes of L2 tables do
l1-kept : (tables : ImageTables) (start mid new : Image) → IsRepairable tables start → ((o : ℕ) → IsOutsideL2Tables tables.header tables.l1 o → new o ≡ mid o)
    → l1_in tables.header new ≡ l1_in tables.header mid
l1-kept tables start mid new is others = table_numbers_same new mid _ _ tables.header.v2.l1_size
    (λ k below. others _ (l1-outside tables start _ is (omega arith) (omega (arith, below))))

-- what an L1 table and the same after a pass name
pub names-from : (pass : FlagPassState) (l1 : List ℕ) (table : HostCluster) → NamesTable pass.header (map (passed_l1 pass) l1) table → NamesTable pass.header l1 table
names-from pass l1 table names = (names.0, sym (names-same pass l1 names.0) ∙ names.1)

pub names-to : (pass : FlagPassState) (l1 : List ℕ) (table : HostCluster) → NamesTable pass.header l1 table → NamesTable pass.header (map (passed_l1 pass) l1) table
names-to pass l1 table names = (names.0, names-same pass l1 names.0 ∙ names.1)

-- the L2 tables load where each does
pub all-load-map : (g : Geometry) (f : ℕ → ℕ) (vs : List ℕ) (old new : Image) → ((k : ℕ) → l1_entry_loads g new (slice_index (map f vs) k) ≡ l1_entry_loads g old (slice_index vs k))
    → all_load g (map f vs) new ≡ all_load g vs old
all-load-map g f [] old new same = refl
all-load-map g f (v ∷ vs) old new same = rw (same 0, all-load-map g f vs old new (λ k. same (suc k))) refl

pub loads-by : (g : Geometry) (one other : ℕ) (old new : Image) (found : Option HostCluster) → named_cluster g.cluster_bits one ≡ found → named_cluster g.cluster_bits other ≡ found
    → ((table : HostCluster) → found ≡ Some table → result_map (λ _. tt {0}) (loaded_l2_table g table new) ≡ result_map (λ _. tt {0}) (loaded_l2_table g table old))
    → l1_entry_loads g new one ≡ l1_entry_loads g old other
loads-by g one other old new None names names' same = rw (l1_entry_loads, names, names') refl
loads-by g one other old new (Some table) names names' same = rw (l1_entry_loads, names, names') (same table refl)

-- a pass by a tally
abbrev pub tally_pass : ImageTables → Bool → TallyState → FlagPassState
tally_pass tables flag tally = pass_of tables.header tables.reftable flag (tally_uses tally)

-- after the L1 table is written, the L2 tables load
pub loads-after-l1 : (tables : ImageTables) (flag : Bool) (tally : TallyState) (start mid : Image) → IsRepairable tables start
    → SameOutside (offset_of (l1_layout tables.header) (l1_cluster tables.header)) (l1_layout tables.header).byte_count start mid
    → all_load (geometry_of tables.header) (map (passed_l1 (tally_pass tables flag tally)) tables.l1) mid ≡ Ok tt
loads-after-l1 tables flag tally start mid is outside =
    all-load-map (geometry_of tables.header) (passed_l1 (tally_pass tables flag tally)) tables.l1 start mid (λ k.
    loads-by (geometry_of tables.header) _ _ start mid (named_cluster tables.header.v2.cluster_bits (slice_index tables.l1 k)) (names-same (tally_pass tables flag tally) tables.l1 k) refl
    (λ table names. rw (l2-kept tables start mid table is (k, names) outside) refl)) ∙ is.loads

-- a window's pass: the L1 table is written, and then the L2 tables
pub record PassesWindow (tables : ImageTables) (flag : Bool) (tally : TallyState) (start mid : Image) : Type 0 where
  pub is : IsRepairable tables start
  pub counts : CountsAll tables start tally
  pub l1 : l1_in tables.header start ≡ tables.l1
  pub outside : SameOutside (offset_of (l1_layout tables.header) (l1_cluster tables.header)) (l1_layout tables.header).byte_count start mid

outside-kept : (tables : ImageTables) (start mid : Image) (o : ℕ) → IsOutsideTables tables.header tables.l1 o
    → SameOutside (offset_of (l1_layout tables.header) (l1_cluster tables.header)) (l1_layout tables.header).byte_count start mid → mid o ≡ start o
outside-kept tables start mid o outside same = elim outside.l1_table [
  | inl less ↦ same.before o less
  | inr more ↦ same.after o more
]

pub window-passed : (tables : ImageTables) (flag : Bool) (tally : TallyState) (first : ℕ) (start mid new : Image) → PassesWindow tables flag tally start mid → tally.first ≡ first
    → l1_in tables.header mid ≡ map (passed_l1 (tally_pass tables flag tally)) tables.l1
    → PassesL2 (tally_pass tables flag tally) (map (passed_l1 (tally_pass tables flag tally)) tables.l1) mid new
    → PassesFlags (pass_between tables start flag first tally.end) start new
window-passed tables flag tally first start mid new window begins numbers passes = record {
  l1_table = l1-kept tables start mid new window.is (λ o outside. passes.others o (λ table names. outside table (names-from pass tables.l1 table names)))
      ∙ numbers ∙ map-same _ _ tables.l1 (λ v. l1-same tables.header tables.reftable flag _ _ v same) ∙ ap (map (passed_l1 full)) (sym window.l1);
  l2_tables = λ table names.
      let named = rw window.l1 at names in
      passes.tables table (names-to pass tables.l1 table named) ∙ ap (map (passed_l2 pass)) (l2-kept tables start mid table window.is named window.outside)
      ∙ map-same _ _ (l2_in tables.header table start) (λ v. l2-same tables.header tables.reftable flag _ _ v same);
  others = λ o outside.
      let out = rw window.l1 at outside in
      passes.others o (λ table names. out.l2_tables table (names-from pass tables.l1 table names)) ∙ outside-kept tables start mid o out window.outside;
}
  where
    pass : FlagPassState
    pass = tally_pass tables flag tally

    full : FlagPassState
    full = pass_between tables start flag first tally.end

    same : (c : ℕ) → tally_uses tally c ≡ uses_between (λ k. uses_of (image_uses tables start) k) first tally.end c
    same = tally-uses tables start tally first window.counts begins

-- no flag is due by unknown uses
pub due-none : (header : HeaderRecord) (reftable : List ℕ) (flag : Bool) (uses : ℕ → Option ℕ) (cluster : HostCluster) → uses cluster.0 ≡ None
    → due_flag (pass_of header reftable flag uses) cluster ≡ None
due-none header reftable flag uses cluster none = by_block (block_of_cluster header reftable cluster.0) refl
  where
    by_block : (found : Option HostCluster) → block_of_cluster header reftable cluster.0 ≡ found → due_flag (pass_of header reftable flag uses) cluster ≡ None
    by_block None nothing = grind (arith, nothing)
    by_block (Some block) there = grind (arith, there, none)

-- what is known of some uses is a part of what is known of all
abbrev pub IsPart : (ℕ → Option ℕ) → (ℕ → Option ℕ) → Type 0
IsPart some all = (c : ℕ) → (some c ≡ None) ⊎ (some c ≡ all c)

-- so an entry stays, or is passed as by all
due-part : (header : HeaderRecord) (reftable : List ℕ) (flag : Bool) (some all : ℕ → Option ℕ) (cluster : HostCluster) → IsPart some all
    → (due_flag (pass_of header reftable flag some) cluster ≡ None) ⊎ (due_flag (pass_of header reftable flag some) cluster ≡ due_flag (pass_of header reftable flag all) cluster)
due-part header reftable flag some all cluster part = elim (part cluster.0) [
  | inl none ↦ inl (due-none header reftable flag some cluster none)
  | inr same ↦ inr (due-same header reftable flag some all cluster same)
]

pub l1-part : (header : HeaderRecord) (reftable : List ℕ) (flag : Bool) (some all : ℕ → Option ℕ) → IsPart some all → (v : ℕ)
    → (passed_l1 (pass_of header reftable flag some) v ≡ v) ⊎ (passed_l1 (pass_of header reftable flag some) v ≡ passed_l1 (pass_of header reftable flag all) v)
l1-part header reftable flag some all part v = by_name (named_cluster header.v2.cluster_bits v) refl
  where
    by_name : (found : Option HostCluster) → named_cluster header.v2.cluster_bits v ≡ found
        → (passed_l1 (pass_of header reftable flag some) v ≡ v) ⊎ (passed_l1 (pass_of header reftable flag some) v ≡ passed_l1 (pass_of header reftable flag all) v)
    by_name None none = inl (grind (arith, none))
    by_name (Some cluster) there = elim (due-part header reftable flag some all cluster part) [
      | inl none ↦
          let is : l1_due (pass_of header reftable flag some) v ≡ None = grind (arith, there, none) in
          inl (ap (λ due. with_due flag due v) is)
      | inr same ↦
          let is : l1_due (pass_of header reftable flag some) v ≡ l1_due (pass_of header reftable flag all) v = grind (arith, there, same) in
          inr (ap (λ due. with_due flag due v) is)
    ]

pub l2-part : (header : HeaderRecord) (reftable : List ℕ) (flag : Bool) (some all : ℕ → Option ℕ) → IsPart some all → (v : ℕ)
    → (passed_l2 (pass_of header reftable flag some) v ≡ v) ⊎ (passed_l2 (pass_of header reftable flag some) v ≡ passed_l2 (pass_of header reftable flag all) v)
l2-part header reftable flag some all part v = by_name (flagged_cluster (geometry_of header) v) refl
  where
    by_name : (found : Option HostCluster) → flagged_cluster (geometry_of header) v ≡ found
        → (passed_l2 (pass_of header reftable flag some) v ≡ v) ⊎ (passed_l2 (pass_of header reftable flag some) v ≡ passed_l2 (pass_of header reftable flag all) v)
    by_name None none =
        let is : l2_due (pass_of header reftable flag some) v ≡ None = grind (arith, none) in
        inl (ap (λ due. with_due flag due v) is)
    by_name (Some cluster) there = elim (cases_Bool (geometry_of header).external_data_file) [
      | inl external ↦
          let is : l2_due (pass_of header reftable flag some) v ≡ l2_due (pass_of header reftable flag all) v = grind (arith, there, external) in
          inr (ap (λ due. with_due flag due v) is)
      | inr inside ↦ elim (due-part header reftable flag some all cluster part) [
        | inl none ↦
            let is : l2_due (pass_of header reftable flag some) v ≡ None = grind (arith, there, inside, none) in
            inl (ap (λ due. with_due flag due v) is)
        | inr same ↦
            let is : l2_due (pass_of header reftable flag some) v ≡ l2_due (pass_of header reftable flag all) v = grind (arith, there, inside, same) in
            inr (ap (λ due. with_due flag due v) is)
      ]
    ]

-- a table of which each entry stays or is passed
pub each-map : (f h : ℕ → ℕ) (vs : List ℕ) → ((v : ℕ) → (f v ≡ v) ⊎ (f v ≡ h v)) → (k : ℕ)
    → (slice_index (map f vs) k ≡ slice_index vs k) ⊎ (slice_index (map f vs) k ≡ h (slice_index vs k))
each-map f h [] part k = inl refl
each-map f h (v ∷ vs) part zero = part v
each-map f h (v ∷ vs) part (suc k) = each-map f h vs part k

pub between-map : (f h : ℕ → ℕ) (vs : List ℕ) → ((v : ℕ) → (f v ≡ v) ⊎ (f v ≡ h v)) → IsBetween h vs (map f vs)
between-map f h vs part = record { count = length-map vs f; each = each-map f h vs part }

pub between-self : (h : ℕ → ℕ) (vs : List ℕ) → IsBetween h vs vs
between-self h vs = record { count = refl; each = λ k. inl refl }

tally-part : (tables : ImageTables) (image : Image) (tally : TallyState) → CountsAll tables image tally
    → IsPart (tally_uses tally) (λ c. Some (uses_of (image_uses tables image) c))
tally-part tables image tally counts c = elim (cases_lt c tally.first) [
  | inl less ↦ inl (grind (arith, nat_tests, less))
  | inr from ↦ elim (cases_lt c tally.end) [
    | inl before ↦ inr (grind (arith, nat_tests, from, before, cell_counts (image_uses tables image) c (cell_at tally c) (counts c from before)))
    | inr past ↦ inl (grind (arith, nat_tests, past))
  ]
]

-- a pass of which nothing is done
none-passed : (pass : FlagPassState) (image : Image) → PassesSomeFlags pass image image
none-passed pass image = record {
  l1_table = between-self (passed_l1 pass) (l1_in pass.header image);
  l2_tables = λ table names. between-self (passed_l2 pass) (l2_in pass.header table image);
  others = λ o outside. refl;
}

-- a pass that changed nothing
pub flags-unchanged : (pass : FlagPassState) (fault : Fault) (start new : Image) → new ≡ start → BreaksOffFlags pass fault start new
flags-unchanged pass fault start new same = (start, none-passed pass start, record { whole = λ other. same; torn = inl same })

-- one that was done
pub flags-done : (pass : FlagPassState) (fault : Fault) (start new last : Image) → PassesFlags pass start new → last ≡ new → BreaksOffFlags pass fault start last
flags-done pass fault start new last passes same = (
  new,
  record {
    l1_table = rw passes.l1_table (between-map (passed_l1 pass) (passed_l1 pass) (l1_in pass.header start) (λ v. inr refl));
    l2_tables = λ table names. rw (passes.l2_tables table names) (between-map (passed_l2 pass) (passed_l2 pass) (l2_in pass.header table start) (λ v. inr refl));
    others = passes.others;
  },
  record { whole = λ other. same; torn = inl same },
)

-- a window whose write of the L1 table failed
pub window-torn-l1 : (tables : ImageTables) (flag : Bool) (tally : TallyState) (fault : Fault) (start mid : Image) → PassesWindow tables flag tally start mid
    → (fault ≢ Storage → mid ≡ start) → BreaksOffFlags (pass_all tables start flag) fault start mid
window-torn-l1 tables flag tally fault start mid window whole =
    (start, none-passed (pass_all tables start flag) start, record { whole = whole; torn = inr (inl window.outside) })

-- and one whose write of an L2 table failed
pub window-torn-l2 : (tables : ImageTables) (flag : Bool) (tally : TallyState) (fault : Fault) (start mid new : Image) → PassesWindow tables flag tally start mid
    → l1_in tables.header mid ≡ map (passed_l1 (tally_pass tables flag tally)) tables.l1
    → BreaksOffL2 (tally_pass tables flag tally) (map (passed_l1 (tally_pass tables flag tally)) tables.l1) fault mid new
    → BreaksOffFlags (pass_all tables start flag) fault start new
window-torn-l2 tables flag tally fault start mid new window numbers breaks = (
  last,
  record {
    l1_table = subst (λ vs. IsBetween (passed_l1 all) (l1_in tables.header start) vs) (sym l1_now)
        (rw window.l1 (between-map (passed_l1 pass) (passed_l1 all) tables.l1 (l1-part tables.header tables.reftable flag _ _ part)));
    l2_tables = λ table names. l2_between table (rw window.l1 at names) (breaks.1.tables table (names-to pass tables.l1 table (rw window.l1 at names)));
    others = λ o outside.
        let out = rw window.l1 at outside in
        breaks.1.others o (λ table names. out.l2_tables table (names-from pass tables.l1 table names)) ∙ outside-kept tables start mid o out window.outside;
  },
  record { whole = breaks.2.whole; torn = torn breaks.2.torn },
)
  where
    pass : FlagPassState
    pass = tally_pass tables flag tally

    all : FlagPassState
    all = pass_all tables start flag

    last : Image
    last = breaks.0

    part : IsPart (tally_uses tally) (λ c. Some (uses_of (image_uses tables start) c))
    part = tally-part tables start tally window.counts

    l1_now : l1_in tables.header last ≡ map (passed_l1 pass) tables.l1
    l1_now = l1-kept tables start mid last window.is (λ o outside. breaks.1.others o (λ table names. outside table (names-from pass tables.l1 table names))) ∙ numbers

    l2_between : (table : HostCluster) → NamesTable tables.header tables.l1 table
        → (l2_in tables.header table last ≡ l2_in tables.header table mid) ⊎ (l2_in tables.header table last ≡ map (passed_l2 pass) (l2_in tables.header table mid))
        → IsBetween (passed_l2 all) (l2_in tables.header table start) (l2_in tables.header table last)
    l2_between table names (inl same) = rw (same, l2-kept tables start mid table window.is names window.outside) (between-self _ (l2_in tables.header table start))
    l2_between table names (inr passed) = rw (passed, l2-kept tables start mid table window.is names window.outside)
        (between-map (passed_l2 pass) (passed_l2 all) (l2_in tables.header table start) (l2-part tables.header tables.reftable flag _ _ part))

    torn : (new ≡ last) ⊎ TearsL2 tables.header (map (passed_l1 pass) tables.l1) last new → (new ≡ last) ⊎ TearsTable tables.header (l1_in tables.header start) last new
    torn (inl same) = inl same
    torn (inr tears) = inr (inr (tears.0, rw window.l1 (names-from pass tables.l1 tears.0 tears.1), tears.2))

-- the L1 table stays while L2 tables are passed
pub l1-after : (tables : ImageTables) (flag : Bool) (tally : TallyState) (start mid new : Image) → IsRepairable tables start
    → PassesL2 (tally_pass tables flag tally) (map (passed_l1 (tally_pass tables flag tally)) tables.l1) mid new → l1_in tables.header new ≡ l1_in tables.header mid
l1-after tables flag tally start mid new is passes =
    l1-kept tables start mid new is (λ o outside. passes.others o (λ table names. outside table (names-from (tally_pass tables flag tally) tables.l1 table names)))

-- an L1 table that can lie where a header says has no more entries than one may have
pub l1_fits : (header : HeaderRecord) → place_fault (l1_layout header) (l1_cluster header) ≡ None → header.v2.l1_size ≤ most_l1_entries
l1_fits header placed = grind (arith, nat_tests, placed)
