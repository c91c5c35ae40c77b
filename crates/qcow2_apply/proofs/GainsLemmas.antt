use Rattle.std.proofs.Common.{◌≡◌, ℕ, zero, suc, Bool, true, false, not, ◌&&◌, ◌==◌, if◌then◌else◌, ◌+◌, ◌-◌, ◌*◌, ◌/◌, ◌%◌, ◌^◌, ◌<◌, ◌≤◌, List, [], ◌∷◌, length, map, slice_get, slice_index, is_some, max, min, add-mul, one-mul, Option, None, Some, option_to_list, ap, refl, subst, sym, ◌∙◌, inl, inr, arith}
use Rattle.std.proofs.lemmas.Bool.{cases_lt}
use Rattle.std.proofs.lemmas.Bool.Decides.{nat_tests}
use Rattle.std.proofs.lemmas.List.{map-append}
use Rattle.std.proofs.lemmas.List.Sums.{sum_by-append, sum_by-cons}
use Rattle.std.proofs.lemmas.Nat.{pow_pos}
use Rattle.std.proofs.Math.Nat.{mul-div_cancel}
use Rattle.std.specs.List.{list_any, range_with_len, sum_by}
use Rattle.std.specs.Option.{option_or}
use Rattle.qcow2_base.specs.Storage.{Image}
use Rattle.qcow2_base.specs.declared.fault.Fault.{Fault}
use Rattle.qcow2_base.specs.declared.fault.Fault.TheVariants.{BadEdit, NotPlaced}
use Rattle.qcow2_base.specs.declared.types.HostCluster.{HostCluster}
use Rattle.qcow2_edits.specs.Edits.{table_edit}
use Rattle.qcow2_edits.specs.declared.edits.Edit.{Edit}
use Rattle.qcow2_metadata.specs.Header.{Geometry, geometry_of}
use Rattle.qcow2_metadata.specs.Placed.{numbers_at}
use Rattle.qcow2_metadata.specs.Table.{first_fault, l2_entries, l2_layout}
use Rattle.qcow2_metadata.specs.Table.L2Guards.{EntryEdit, TableEdit, after_edit, cluster_gained_by, keeps_clusters, one_if, run_of, times_gained, to_data, to_nothing, to_zeros}
use Rattle.qcow2_check.specs.Counters.{block_of_cluster, counter_of}
use Rattle.qcow2_check.specs.NamedTables.{named_cluster}
use Rattle.qcow2_check.specs.Uses.{ImageTables}
use Rattle.qcow2_apply.proofs.PlannedTablesLemmas.{none-refused-at, none-there, run-at}
use Rattle.qcow2_apply.proofs.TablesLemmas.{named-below}
use Rattle.qcow2_apply.specs.CounterTables.{HasCounter, counter_of_cluster}
use Rattle.qcow2_apply.specs.GuestEdits.{edit_at, edits_by, edits_in, has_clusters_in, table_end, table_start}
use Rattle.qcow2_apply.specs.MappedClusters.{mappings_by, times_mapped}
use Rattle.qcow2_apply.specs.PlannedTables.{alone_fault, counter_tables, gained_at, gained_before, load_fault, mapping_fault, mapping_fault_in, mappings_fault, run_gains, table_refusal, tables_refusal}
use Rattle.qcow2_apply.specs.declared.guest_edits.GuestEdit.{GuestEdit}
use Rattle.qcow2_apply.specs.declared.guest_edits.GuestEdit.TheVariants.{Discard, Map, Zero}

-- how often a change maps an entry to cluster c
abbrev pub entry_maps : ℕ → EntryEdit → ℕ
entry_maps c (to_data cluster) = one_if (cluster == c)
entry_maps c (to_zeros keep) = 0
entry_maps c to_nothing = 0

-- how often edits of a table do
abbrev pub run_maps : ℕ → List TableEdit → ℕ
run_maps c edits = sum_by (λ (e : TableEdit). entry_maps c e.edit) edits

-- and edits of a disk, in the table of the L1 entry at an index
abbrev pub maps_in : ℕ → List GuestEdit → ℕ → ℕ → ℕ
maps_in cb edits c index = run_maps c (map table_edit (edits_in cb index edits))

-- a cluster gains a reference only where an entry is mapped to it
entry-gains : (g : Geometry) (edit : EntryEdit) (v c : ℕ) → times_gained (option_to_list (cluster_gained_by g edit v)) c ≤ entry_maps c edit
entry-gains g (to_data cluster) v c = by_test (keeps_clusters g (to_data cluster) v)
  where
    by_test : (kept : Bool) → times_gained (option_to_list (if kept then None else Some cluster)) c ≤ one_if (cluster == c)
    by_test true = omega arith
    by_test false = omega arith
entry-gains g (to_zeros keep) v c = omega arith
entry-gains g to_nothing v c = omega arith

-- so a run gives it at most as many as it maps entries to it
run-gains-maps : (g : Geometry) (edits : List TableEdit) (numbers : List ℕ) (c : ℕ) → times_gained (run_of g edits numbers).gained c ≤ run_maps c edits
run-gains-maps g [] numbers c = omega arith
run-gains-maps g (e ∷ edits) numbers c =
    let v = slice_index numbers e.index in
    let rest = run_of g edits (after_edit g e numbers) in
    let gains = sum_by-append (λ (d : ℕ). one_if (d == c)) (option_to_list (cluster_gained_by g e.edit v)) rest.gained in
    let maps = sum_by-cons (λ (other : TableEdit). entry_maps c other.edit) e edits in
    omega (arith, gains, maps, entry-gains g e.edit v c, run-gains-maps g edits (after_edit g e numbers) c)

-- where each of many edits maps to a cluster, they do as often as there are of them
all-map : (f : ℕ → Edit) (c start n : ℕ) → ((k : ℕ) → entry_maps c (table_edit (f k)).edit ≡ 1) → run_maps c (map table_edit (map f (range_with_len start n))) ≡ n
all-map f c start zero each = omega arith
all-map f c start (suc n) each = omega (
  arith,
  sum_by-cons (λ (other : TableEdit). entry_maps c other.edit) (table_edit (f start)) (map table_edit (map f (range_with_len (start + 1) n))),
  each start,
  all-map f c (start + 1) n each,
)

-- and where none does, never
none-maps : (f : ℕ → Edit) (c start n : ℕ) → ((k : ℕ) → entry_maps c (table_edit (f k)).edit ≡ 0) → run_maps c (map table_edit (map f (range_with_len start n))) ≡ 0
none-maps f c start zero each = omega arith
none-maps f c start (suc n) each = omega (
  arith,
  sum_by-cons (λ (other : TableEdit). entry_maps c other.edit) (table_edit (f start)) (map table_edit (map f (range_with_len (start + 1) n))),
  each start,
  none-maps f c (start + 1) n each,
)

-- how many guest clusters an edit has in the table of the L1 entry at an index
abbrev clusters_in : ℕ → GuestEdit → ℕ → ℕ
clusters_in cb edit index = table_end cb index edit - table_start cb index edit

-- an edit maps as many to a cluster, if it maps to that
edit-maps : (cb index c : ℕ) (edit : GuestEdit) → run_maps c (map table_edit (edits_by cb index edit))
    ≡ (if mappings_by c edit == 0 then 0 else clusters_in cb edit index)
edit-maps cb index c (Map offset host_cluster) = by_test (host_cluster.0 == c) refl
  where
    edit : GuestEdit
    edit = Map offset host_cluster

    by_test : (same : Bool) → (host_cluster.0 == c) ≡ same → run_maps c (map table_edit (edits_by cb index (Map offset host_cluster)))
        ≡ (if one_if same == 0 then 0 else clusters_in cb (Map offset host_cluster) index)
    by_test true is = all-map (λ guest_cluster. edit_at edit (guest_cluster % l2_entries cb)) c (table_start cb index edit) (clusters_in cb edit index) (λ k. ap one_if is)
    by_test false is = none-maps (λ guest_cluster. edit_at edit (guest_cluster % l2_entries cb)) c (table_start cb index edit) (clusters_in cb edit index) (λ k. ap one_if is)
edit-maps cb index c (Zero offset size keep) = let edit = Zero offset size keep in
    none-maps (λ guest_cluster. edit_at edit (guest_cluster % l2_entries cb)) c (table_start cb index edit) (clusters_in cb edit index) (λ k. refl)
edit-maps cb index c (Discard offset size) = let edit = Discard offset size in
    none-maps (λ guest_cluster. edit_at edit (guest_cluster % l2_entries cb)) c (table_start cb index edit) (clusters_in cb edit index) (λ k. refl)

-- what edits map is what the first maps and what the others do
maps-cons : (cb c index : ℕ) (edit : GuestEdit) (edits : List GuestEdit)
    → maps_in cb (edit ∷ edits) c index ≡ (if mappings_by c edit == 0 then 0 else clusters_in cb edit index) + maps_in cb edits c index
maps-cons cb c index edit edits =
    let parts = map-append table_edit (edits_by cb index edit) (edits_in cb index edits) in
    ap (run_maps c) parts
    ∙ sum_by-append (λ (other : TableEdit). entry_maps c other.edit) (map table_edit (edits_by cb index edit)) (map table_edit (edits_in cb index edits))
    ∙ ap (λ n. n + maps_in cb edits c index) (edit-maps cb index c edit)

-- an edit that maps to a cluster in a table
record Maps (cb : ℕ) (edits : List GuestEdit) (c index : ℕ) : Type 0 where
  at : ℕ
  edit : GuestEdit
  is : slice_get edits at ≡ Some edit
  within : at < length edits
  has : has_clusters_in cb index edit ≡ true
  any : list_any (has_clusters_in cb index) edits ≡ true
  maps : 0 < mappings_by c edit

-- where edits map to it there, one does
one-maps : (cb c index : ℕ) (edits : List GuestEdit) → 0 < maps_in cb edits c index → Maps cb edits c index
one-maps cb c index [] some = absurd (omega (arith, some))
one-maps cb c index (edit ∷ edits) some = elim (cases_lt 0 (if mappings_by c edit == 0 then 0 else clusters_in cb edit index)) [
  | inl here ↦
      let has : has_clusters_in cb index edit ≡ true = grind (arith, nat_tests, here) in
      record { at = 0; edit = edit; is = refl; within = omega arith; has = has; any = rw has refl; maps = grind (arith, nat_tests, here) }
  | inr none ↦
      let later = one-maps cb c index edits (omega (arith, some, none, maps-cons cb c index edit edits)) in
      record {
        at = suc later.at;
        edit = later.edit;
        is = later.is;
        within = omega (arith, later.within);
        has = later.has;
        any = grind (arith, later.any);
        maps = later.maps;
      }
]

-- a cluster that edits map: it has a counter, that is 0, and one edit maps it
pub record IsFree (tables : ImageTables) (edits : List GuestEdit) (image : Image) (c : ℕ) : Type 0 where
  pub counted : HasCounter (counter_tables tables) c
  pub free : counter_of_cluster (counter_tables tables) image c ≡ 0
  pub once : times_mapped edits c ≡ 1

-- where an edit can map its cluster
fault-free : (tables : ImageTables) (edits : List GuestEdit) (image : Image) (at c : ℕ) (edit : GuestEdit) → 0 < mappings_by c edit
    → mapping_fault tables edits image at edit ≡ None → IsFree tables edits image c
fault-free tables edits image at c (Map offset host_cluster) maps none =
    let same : host_cluster.0 ≡ c = grind (arith, nat_tests, maps) in
    subst (IsFree tables edits image) same (by_tests
    (is_some (block_of_cluster tables.header tables.reftable host_cluster.0))
    (counter_of tables.header tables.reftable image host_cluster.0 == 0)
    (times_mapped edits host_cluster.0 == 1)
    refl
    refl
    refl
    none)
  where
    by_tests : (some free once : Bool) → is_some (block_of_cluster tables.header tables.reftable host_cluster.0) ≡ some
        → (counter_of tables.header tables.reftable image host_cluster.0 == 0) ≡ free → (times_mapped edits host_cluster.0 == 1) ≡ once
        → (if not some then Some NotPlaced else if free && once then None else Some (BadEdit at)) ≡ None → IsFree tables edits image host_cluster.0
    by_tests true true true a b d none = record {
      counted = grind (arith, nat_tests, a);
      free = grind (arith, nat_tests, b);
      once = grind (arith, nat_tests, d);
    }
    by_tests true true false a b d none = absurd (grind (arith, none))
    by_tests true false once a b d none = absurd (grind (arith, none))
    by_tests false free once a b d none = absurd (grind (arith, none))
fault-free tables edits image at c (Zero offset size keep) maps none = absurd (omega (arith, maps))
fault-free tables edits image at c (Discard offset size) maps none = absurd (omega (arith, maps))

-- no part of a refusal is one where it is none
last-none : (first second third : Option Fault) → option_or first (option_or second third) ≡ None → third ≡ None
last-none None None third none = none
last-none None (Some fault) third none = absurd (grind (arith, none))
last-none (Some fault) second third none = absurd (grind (arith, none))

-- edits that aren't refused map clusters that are free
pub maps-free : (tables : ImageTables) (edits : List GuestEdit) (image : Image) (i c : ℕ) (table : HostCluster) → tables_refusal tables edits image ≡ None
    → named_cluster tables.header.v2.cluster_bits (slice_index tables.l1 i) ≡ Some table → 0 < maps_in tables.header.v2.cluster_bits edits c i
    → IsFree tables edits image c
maps-free tables edits image i c table none names some =
    let found = one-maps tables.header.v2.cluster_bits c i edits some in
    let here : table_refusal tables edits image i ≡ None =
    none-refused-at (table_refusal tables edits image) (length tables.l1) i _ none (named-below tables.header tables.l1 i table names) in
    let named = rw (found.any, names) at here in
    let maps = last-none (alone_fault tables edits image i table) (load_fault tables.header image table) (mappings_fault tables edits image i) named in
    let all : option_or (first_fault (mapping_fault_in tables edits image i) (range_with_len 0 (length edits))) None ≡ None = rw maps refl in
    let each : mapping_fault_in tables edits image i found.at ≡ None = none-refused-at (mapping_fault_in tables edits image i) (length edits) found.at None all found.within in
    fault-free tables edits image found.at c found.edit found.maps (rw (found.is, found.has, mapping_fault_in) at each)

-- what a table's edits give a cluster is at most how often they map to it
pub gained-maps : (tables : ImageTables) (edits : List GuestEdit) (image : Image) (i c : ℕ)
    → gained_at tables edits image c i ≤ maps_in tables.header.v2.cluster_bits edits c i
gained-maps tables edits image i c = by_table (named_cluster tables.header.v2.cluster_bits (slice_index tables.l1 i)) refl
  where
    by_table : (found : Option HostCluster) → named_cluster tables.header.v2.cluster_bits (slice_index tables.l1 i) ≡ found
        → gained_at tables edits image c i ≤ maps_in tables.header.v2.cluster_bits edits c i
    by_table None is = omega (arith, (none-there tables edits image i c is).0)
    by_table (Some table) is =
        let numbers = numbers_at (l2_layout (geometry_of tables.header)) table image in
        let run = ap (λ end. run_gains end c) (run-at tables edits image i (Some table) is) in
        omega (arith, run, run-gains-maps (geometry_of tables.header) (map table_edit (edits_in tables.header.v2.cluster_bits i edits)) numbers c)

-- so a cluster that gains by them is free
gained-free : (tables : ImageTables) (edits : List GuestEdit) (image : Image) (i c : ℕ) → tables_refusal tables edits image ≡ None
    → 0 < gained_at tables edits image c i → IsFree tables edits image c
gained-free tables edits image i c none some = by_table (named_cluster tables.header.v2.cluster_bits (slice_index tables.l1 i)) refl
  where
    by_table : (found : Option HostCluster) → named_cluster tables.header.v2.cluster_bits (slice_index tables.l1 i) ≡ found → IsFree tables edits image c
    by_table None is = absurd (omega (arith, some, (none-there tables edits image i c is).0))
    by_table (Some table) is = maps-free tables edits image i c table none is (omega (arith, some, gained-maps tables edits image i c))

-- a sum that isn't 0 has an item that isn't
some-item : (f : ℕ → ℕ) (items : List ℕ) → 0 < sum_by f items → (i : ℕ) × (0 < f i)
some-item f [] some = absurd (omega (arith, some))
some-item f (i ∷ items) some = elim (cases_lt 0 (f i)) [
  | inl here ↦ (i, here)
  | inr none ↦ some-item f items (omega (arith, some, none, sum_by-cons f i items))
]

-- and so is one that gains by edits of any table
pub gains-free : (tables : ImageTables) (edits : List GuestEdit) (image : Image) (n c : ℕ) → tables_refusal tables edits image ≡ None
    → 0 < gained_before tables edits image n c → IsFree tables edits image c
gains-free tables edits image n c none some =
    let found = some-item (gained_at tables edits image c) (range_with_len 0 n) some in
    gained-free tables edits image found.0 c none found.1

-- sums of which each item is at most the other's
sums-below : (a b : ℕ → ℕ) (items : List ℕ) → ((i : ℕ) → a i ≤ b i) → sum_by a items ≤ sum_by b items
sums-below a b [] each = omega arith
sums-below a b (i ∷ items) each = omega (arith, each i, sums-below a b items each, sum_by-cons a i items, sum_by-cons b i items)

-- a sum of sums
sums-both : (a b d : ℕ → ℕ) (items : List ℕ) → ((i : ℕ) → a i ≡ b i + d i) → sum_by a items ≡ sum_by b items + sum_by d items
sums-both a b d [] each = omega arith
sums-both a b d (i ∷ items) each = omega (arith, each i, sums-both a b d items each, sum_by-cons a i items, sum_by-cons b i items, sum_by-cons d i items)

sums-zero : (items : List ℕ) → sum_by (λ (_ : ℕ). 0) items ≡ 0
sums-zero [] = omega arith
sums-zero (i ∷ items) = omega (arith, sums-zero items, sum_by-cons (λ (_ : ℕ). 0) i items)

-- the guest cluster that an edit maps is in one table at most, and in none that begins after it
one-table : (entries first a n : ℕ) (count : ℕ → ℕ) → ((i : ℕ) → count i ≡ min (first + 1) (i * entries + entries) - max first (i * entries))
    → (sum_by count (range_with_len a n) ≤ 1) × (sum_by count (range_with_len a n) ≤ first + 1 - a * entries)
one-table entries first a zero count is = (omega arith, omega arith)
one-table entries first a (suc n) count is =
    let rest = one-table entries first (a + 1) n count is in
    let next : (a + 1) * entries ≡ a * entries + entries = add-mul a 1 entries ∙ ap (λ m. a * entries + m) (one-mul entries) in
    let sum = sum_by-cons count a (range_with_len (a + 1) n) in
    let here = is a in
    let one = rest.0 in
    let later = rest.1 in (omega (arith, sum, here, one, later, next), omega (arith, sum, here, one, later, next))

-- so it is mapped in all tables as often as the edit maps to a cluster, at most
edit-maps-once : (cb n c : ℕ) (edit : GuestEdit)
    → sum_by (λ i. if mappings_by c edit == 0 then 0 else clusters_in cb edit i) (range_with_len 0 n) ≤ mappings_by c edit
edit-maps-once cb n c (Map offset host_cluster) = by_test (host_cluster.0 == c)
  where
    count : (i : ℕ) → clusters_in cb (Map offset host_cluster) i
        ≡ min (offset.0 / 2 ^ cb + 1) (i * l2_entries cb + l2_entries cb) - max (offset.0 / 2 ^ cb) (i * l2_entries cb)
    count i = let one : 2 ^ cb / 2 ^ cb ≡ 1 = ap (λ m. m / 2 ^ cb) (sym (one-mul (2 ^ cb))) ∙ mul-div_cancel 1 (pow_pos cb) in
        ap (λ m. min (offset.0 / 2 ^ cb + m) (i * l2_entries cb + l2_entries cb) - max (offset.0 / 2 ^ cb) (i * l2_entries cb)) one

    by_test : (same : Bool) → sum_by (λ i. if one_if same == 0 then 0 else clusters_in cb (Map offset host_cluster) i) (range_with_len 0 n) ≤ one_if same
    by_test true = (one-table (l2_entries cb) (offset.0 / 2 ^ cb) 0 n (clusters_in cb (Map offset host_cluster)) count).0
    by_test false = omega (arith, sums-zero (range_with_len 0 n))
edit-maps-once cb n c (Zero offset size keep) = omega (arith, sums-zero (range_with_len 0 n))
edit-maps-once cb n c (Discard offset size) = omega (arith, sums-zero (range_with_len 0 n))

maps-once : (cb n c : ℕ) (edits : List GuestEdit) → sum_by (maps_in cb edits c) (range_with_len 0 n) ≤ times_mapped edits c
maps-once cb n c [] = omega (arith, sums-zero (range_with_len 0 n))
maps-once cb n c (edit ∷ edits) =
    let both = sums-both (maps_in cb (edit ∷ edits) c) (λ i. if mappings_by c edit == 0 then 0 else clusters_in cb edit i) (maps_in cb edits c)
    (range_with_len 0 n) (λ i. maps-cons cb c i edit edits) in
    omega (arith, both, edit-maps-once cb n c edit, maps-once cb n c edits, sum_by-cons (mappings_by c) edit edits)

-- a cluster gains as many references as edits map to it, at most
pub gained-once : (tables : ImageTables) (edits : List GuestEdit) (image : Image) (n c : ℕ) → gained_before tables edits image n c ≤ times_mapped edits c
gained-once tables edits image n c =
    let cb = tables.header.v2.cluster_bits in
    omega (
      arith,
      sums-below (gained_at tables edits image c) (maps_in cb edits c) (range_with_len 0 n) (λ i. gained-maps tables edits image i c),
      maps-once cb n c edits,
    )
