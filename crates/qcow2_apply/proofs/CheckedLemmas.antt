use Rattle.std.proofs.Common.{◌≡◌, ℕ, zero, suc, Bool, true, false, ◌&&◌, if◌then◌else◌, ◌+◌, ◌*◌, ◌/◌, ◌^◌, ◌<◌, ◌≤◌, List, [], ◌∷◌, map, slice_index, option_map, le-div_iff_mul-le, div-lt_iff_lt-mul, mul_left_comm, Option, None, Some, Result, Ok, Err, ap, refl, subst, sym, ◌∙◌, inl, inr, arith}
use Rattle.std.proofs.lemmas.Bool.Decides.{nat_tests}
use Rattle.std.proofs.lemmas.Bool.{cases_lt}
use Rattle.std.proofs.lemmas.Grind.{div_ceil_times}
use Rattle.std.proofs.lemmas.Nat.{pow_pos}
use Rattle.std.specs.Int.{div_ceil}
use Rattle.qcow2_base.specs.Format.{max_file_length}
use Rattle.qcow2_base.specs.Storage.{Image}
use Rattle.qcow2_base.specs.Types.{IsClusterBits}
use Rattle.qcow2_base.specs.declared.fault.Fault.{Fault}
use Rattle.qcow2_base.specs.declared.fault.Fault.TheVariants.{Uncounted}
use Rattle.qcow2_base.specs.declared.types.HostCluster.{HostCluster}
use Rattle.qcow2_edits.specs.Edits.{table_edit}
use Rattle.qcow2_edits.specs.declared.edits.Edit.{Edit}
use Rattle.qcow2_metadata.proofs.EntriesLemmas.{l2_fault_zero}
use Rattle.qcow2_metadata.proofs.L2GuardsLemmas.{zeros-lawful}
use Rattle.qcow2_metadata.proofs.L2MappingLemmas.{entry_is_lawful}
use Rattle.qcow2_metadata.proofs.TableLemmas.{first_fault-set, full_cluster, no_fault_at_all, table_numbers_same}
use Rattle.qcow2_metadata.proofs.WritableLemmas.{uncounted-none, without_autoclear-same}
use Rattle.qcow2_metadata.specs.Entries.L2Entry.{has_host_cluster, l2_fault, with_zero_flag}
use Rattle.qcow2_metadata.specs.Header.{Geometry, HeaderRecord, IsValidHeader, geometry_of, uncounted_part}
use Rattle.qcow2_metadata.specs.Header.Open.{without_autoclear}
use Rattle.qcow2_metadata.specs.Placed.{Layout, loaded_numbers, numbers_at, place_fault}
use Rattle.qcow2_metadata.specs.Results.{and_then, result_map, unless_refused}
use Rattle.qcow2_metadata.specs.Table.{first_fault, l2_entries, l2_layout}
use Rattle.qcow2_metadata.specs.Table.L2Guards.{EntryEdit, after_edit, can_be_made, entry_after, run_of, to_data, to_nothing, to_zeros}
use Rattle.qcow2_metadata.specs.declared.entries.l2_mapping.L2Mapping.TheVariants.{DataFile}
use Rattle.qcow2_summary.proofs.ApartLemmas.{l1-first-used, l1-used}
use Rattle.qcow2_check.proofs.FindingsLemmas.{kind-cons}
use Rattle.qcow2_check.specs.Counters.{blocks_fault, placed_reftable}
use Rattle.qcow2_check.specs.Findings.{checked_tables, uses_of_kind}
use Rattle.qcow2_check.specs.NamedTables.{l1_cluster, l1_layout, loaded_l1_table, loaded_reftable, named_cluster, reftable_cluster, reftable_layout}
use Rattle.qcow2_check.specs.Uses.{ImageTables, all_load, header_uses, key_clusters, l1_entry_loads}
use Rattle.qcow2_check.specs.declared.tally.TallyKind.TheVariants.{Fixed}
use Rattle.qcow2_summary.proofs.ReportedLemmas.{AreUnshared}
use Rattle.qcow2_apply.proofs.ApartLemmas.{apart-unshared, block-unshared, fixed-once, table-unshared}
use Rattle.qcow2_apply.proofs.ApplyLemmas.{after-field, are-planned, table-left}
use Rattle.qcow2_apply.proofs.ErrorsLemmas.{AreDone, findings-all, no-error-at, no-leak-at, no-leaks}
use Rattle.qcow2_apply.proofs.FalseFlagsLemmas.{CanBe, can-be, no-errors}
use Rattle.qcow2_apply.proofs.TablesLemmas.{edits-made}
use Rattle.qcow2_apply.specs.Apply.{FollowsPlan, IsElsewhere, l2_tables_of, plan_tables, tables_by}
use Rattle.qcow2_apply.specs.Errors.{HasNoErrors, HasNoLeaks, IsNoError, IsNoLeak}
use Rattle.qcow2_apply.specs.GuestEdits.{edits_in}
use Rattle.qcow2_apply.specs.Passes.{ArePlacesApart}
use Rattle.qcow2_apply.specs.Plan.{IsPlanFor, IsPlanOf, planned_tables}
use Rattle.qcow2_apply.specs.declared.guest_edits.GuestEdit.{GuestEdit}
use Rattle.qcow2_apply.specs.declared.plan.Plan.{Plan}

-- no cluster of an image without errors has uses that exclude each other
pub unshared : (tables : ImageTables) (image : Image) → HasNoErrors tables image → AreUnshared tables image
unshared tables image none = λ c below. (no-error-at tables image none c below).1

-- where no cluster of an image has, its tables and blocks are apart, if no two L1 entries name one table
pub done-unshared : (header : HeaderRecord) (edits : List GuestEdit) (plan : Plan) (old new : Image) → IsValidHeader header → IsPlanFor header edits plan
    → IsPlanOf header edits old plan → FollowsPlan header edits plan (Ok tt) old new → ArePlacesApart (l2_tables_of (plan_tables header plan))
    → AreUnshared (plan_tables header plan) old → AreDone header edits plan old new
done-unshared header edits plan old new valid for of follows places apart = record {
  valid = valid;
  for = for;
  of = of;
  follows = follows;
  apart = apart-unshared (plan_tables header plan) old apart for.blocks places;
}

-- so they are without errors
pub done-apart : (header : HeaderRecord) (edits : List GuestEdit) (plan : Plan) (old new : Image) → IsValidHeader header → IsPlanFor header edits plan
    → IsPlanOf header edits old plan → FollowsPlan header edits plan (Ok tt) old new → ArePlacesApart (l2_tables_of (plan_tables header plan))
    → HasNoErrors (plan_tables header plan) old → AreDone header edits plan old new
done-apart header edits plan old new valid for of follows places none =
    done-unshared header edits plan old new valid for of follows places (unshared (plan_tables header plan) old none)

-- the header uses the cluster of a byte, and not as the first cluster alone
record IsFixed (header : HeaderRecord) (o : ℕ) : Type 0 where
  used : 0 < uses_of_kind Fixed (header_uses header) (o / 2 ^ header.v2.cluster_bits)
  twice : o / 2 ^ header.v2.cluster_bits ≡ 0 → 1 < uses_of_kind Fixed (header_uses header) 0

-- then the byte is in no table, in no block, and not in the first cluster, where no uses exclude each other
fixed-elsewhere : (tables : ImageTables) (image : Image) (o : ℕ) → AreUnshared tables image → blocks_fault tables.header tables.reftable ≡ None
    → IsFixed tables.header o → IsElsewhere tables o × (0 < o / 2 ^ tables.header.v2.cluster_bits)
fixed-elsewhere tables image o apart placed fixed = (
  (
    λ i table names here. absurd (omega (
      arith,
      subst (λ c. 0 < uses_of_kind Fixed (header_uses tables.header) c) here fixed.used,
      table-unshared tables image i table apart names,
    )),
    λ i block names here. absurd (omega (
      arith,
      subst (λ c. 0 < uses_of_kind Fixed (header_uses tables.header) c) here fixed.used,
      block-unshared tables image i block apart placed names,
    )),
  ),
  elim (cases_lt 0 (o / 2 ^ tables.header.v2.cluster_bits)) [
    | inl after ↦ after
    | inr first ↦
        let twice = fixed.twice (omega (arith, first)) in
        absurd (omega (arith, twice, fixed-once tables image 0 apart (omega arith)))
  ],
)

-- so edits leave it
fixed-stays : (header : HeaderRecord) (edits : List GuestEdit) (plan : Plan) (old new : Image) (o : ℕ) → AreDone header edits plan old new
    → AreUnshared (plan_tables header plan) old → IsFixed header o → new o ≡ old o
unfolding key_clusters
fixed-stays header edits plan old new o done apart fixed =
    let elsewhere = fixed-elsewhere (plan_tables header plan) old o apart done.for.blocks (record { used = fixed.used; twice = fixed.twice }) in
    done.follows.others o elsewhere.0
    ∙ done.follows.clears.after o (after-field header.v2.cluster_bits o (o / 2 ^ header.v2.cluster_bits) done.valid.cluster_bits refl elsewhere.1)

-- the cluster of a byte of clusters in a row
in-clusters : (size first count k : ℕ) → 0 < size → k < count * size
    → (first ≤ (first * size + k) / size) × ((first * size + k) / size < first + count)
in-clusters size first count k some below =
    let end : (first + count) * size ≡ first * size + count * size = omega arith in (
      (le-div_iff_mul-le some).1 (omega arith),
      (div-lt_iff_lt-mul some).1 (omega (arith, below, end)),
    )

-- the bytes of the L1 table and those of the refcount table are such
l1-fixed : (header : HeaderRecord) (k : ℕ) → k < 8 * header.v2.l1_size → IsFixed header ((l1_cluster header).0 * 2 ^ header.v2.cluster_bits + k)
l1-fixed header k below =
    let size = 2 ^ header.v2.cluster_bits in
    let first = (l1_cluster header).0 in
    let count = div_ceil (8 * header.v2.l1_size) size in
    let fits : 8 * header.v2.l1_size ≤ count * size = (div_ceil_times (8 * header.v2.l1_size) size (pow_pos _)).0 in
    let within = in-clusters size first count k (pow_pos _) (omega (arith, below, fits)) in
    record {
      used = l1-used header ((first * size + k) / size) within.0 within.1;
      twice = λ none. l1-first-used header (omega (arith, within.0, none)) (omega (arith, within.0, within.1, none));
    }

reftable-used : (header : HeaderRecord) (c : ℕ) → (reftable_cluster header).0 ≤ c → c < (reftable_cluster header).0 + header.v2.refcount_table_clusters
    → 0 < uses_of_kind Fixed (header_uses header) c
reftable-used header c from before = grind (arith, nat_tests, kind-cons, from, before)

reftable-first-used : (header : HeaderRecord) → (reftable_cluster header).0 ≤ 0 → 0 < (reftable_cluster header).0 + header.v2.refcount_table_clusters
    → 1 < uses_of_kind Fixed (header_uses header) 0
reftable-first-used header from before = grind (arith, nat_tests, kind-cons, from, before)

reftable-fixed : (header : HeaderRecord) (k : ℕ) → 9 ≤ header.v2.cluster_bits → k < 8 * (header.v2.refcount_table_clusters * l2_entries header.v2.cluster_bits)
    → IsFixed header ((reftable_cluster header).0 * 2 ^ header.v2.cluster_bits + k)
reftable-fixed header k least below =
    let size = 2 ^ header.v2.cluster_bits in
    let first = (reftable_cluster header).0 in
    let count = header.v2.refcount_table_clusters in
    let whole : 8 * (count * l2_entries header.v2.cluster_bits) ≡ count * size =
    mul_left_comm 8 count (l2_entries header.v2.cluster_bits) ∙ ap (λ n. count * n) (full_cluster header.v2.cluster_bits least) in
    let within = in-clusters size first count k (pow_pos _) (omega (arith, below, whole)) in
    record {
      used = reftable-used header ((first * size + k) / size) within.0 within.1;
      twice = λ none. reftable-first-used header (omega (arith, within.0, none)) (omega (arith, within.1, none));
    }

-- the same numbers load in the same way
same-load : (layout : Layout) (cluster : HostCluster) (old new : Image) → numbers_at layout cluster new ≡ numbers_at layout cluster old
    → loaded_numbers layout cluster new ≡ loaded_numbers layout cluster old
same-load layout cluster old new same =
    ap (λ numbers. unless_refused (place_fault layout cluster) (unless_refused (layout.fault_of_numbers numbers) (Ok numbers))) same

-- so edits leave both tables
pub l1-stays : (header : HeaderRecord) (edits : List GuestEdit) (plan : Plan) (old new : Image) → AreDone header edits plan old new
    → AreUnshared (plan_tables header plan) old → loaded_l1_table header new ≡ loaded_l1_table header old
l1-stays header edits plan old new done apart = same-load (l1_layout header) (l1_cluster header) old new
    (table_numbers_same new old _ _ header.v2.l1_size (λ k below. fixed-stays header edits plan old new _ done apart (l1-fixed header k below)))

reftable-stays : (header : HeaderRecord) (edits : List GuestEdit) (plan : Plan) (old new : Image) → AreDone header edits plan old new
    → AreUnshared (plan_tables header plan) old → loaded_reftable header new ≡ loaded_reftable header old
reftable-stays header edits plan old new done apart = same-load (reftable_layout header) (reftable_cluster header) old new
    (table_numbers_same new old _ _ (header.v2.refcount_table_clusters * l2_entries header.v2.cluster_bits)
    (λ k below. fixed-stays header edits plan old new _ done apart (reftable-fixed header k done.valid.cluster_bits.0 below)))

-- an entry of a valid table is valid, and 0 is where there is none
valid-at : (cb : ℕ) (numbers : List ℕ) (i : ℕ) → first_fault (l2_fault cb) numbers ≡ None → l2_fault cb (slice_index numbers i) ≡ None
valid-at cb [] i valid = l2_fault_zero cb
valid-at cb (v ∷ numbers) zero valid = (no_fault_at_all (l2_fault cb v) (first_fault (l2_fault cb) numbers) valid).0
valid-at cb (v ∷ numbers) (suc i) valid = valid-at cb numbers i (no_fault_at_all (l2_fault cb v) (first_fault (l2_fault cb) numbers) valid).1

one-valid : (cb : ℕ) → 9 ≤ cb → cb ≤ 21 → l2_fault cb 1 ≡ None
one-valid cb least most = grind (arith, nat_tests)

-- a change that can be made leaves it valid
change-valid : (g : Geometry) (edit : EntryEdit) (v : ℕ) → IsClusterBits g.cluster_bits → can_be_made g edit ≡ true → l2_fault g.cluster_bits v ≡ None
    → l2_fault g.cluster_bits (entry_after g edit v) ≡ None
change-valid g (to_data host) v bits made valid = entry_is_lawful g.cluster_bits (DataFile (record { 0 = host }) true)
    (record { bits = bits; within = grind (arith, nat_tests, made) }) tt
change-valid g (to_zeros keep) v bits made valid = by_test (keep && has_host_cluster g v) (λ kept. second keep (has_host_cluster g v) kept)
  where
    second : (a b : Bool) → (a && b) ≡ true → b ≡ true
    second a b both = grind (arith, both)

    by_test : (kept : Bool) → (kept ≡ true → has_host_cluster g v ≡ true) → l2_fault g.cluster_bits (if kept then with_zero_flag v else 1) ≡ None
    by_test true has = zeros-lawful g v (has refl) valid
    by_test false has = one-valid g.cluster_bits bits.0 bits.1
change-valid g to_nothing v bits made valid = l2_fault_zero g.cluster_bits

-- and edits leave a table valid
run-valid : (g : Geometry) (edits : List Edit) (numbers : List ℕ) → IsClusterBits g.cluster_bits → CanBe g edits
    → first_fault (l2_fault g.cluster_bits) numbers ≡ None → first_fault (l2_fault g.cluster_bits) (run_of g (map table_edit edits) numbers).numbers ≡ None
run-valid g [] numbers bits can valid = valid
run-valid g (edit ∷ edits) numbers bits can valid =
    let e = table_edit edit in
    let v = slice_index numbers e.index in
    let first : can_be_made g e.edit ≡ true = can 0 edit (omega arith) in
    let here = change-valid g e.edit v bits first (valid-at g.cluster_bits numbers e.index valid) in
    run-valid g edits (after_edit g e numbers) bits (λ j d below. can (suc j) d (omega (arith, below)))
    (first_fault-set (l2_fault g.cluster_bits) numbers e.index (entry_after g e.edit v) valid here)

-- the parts of a load of a table
load-parts : (place valid : Option Fault) (numbers : List ℕ)
    → (let loaded : Result (List ℕ) Fault = Ok numbers in result_map (λ _. tt {0}) (unless_refused place (unless_refused valid loaded)) ≡ Ok tt)
    → (place ≡ None) × (valid ≡ None)
load-parts None None numbers is = (refl, refl)
load-parts None (Some fault) numbers is = absurd (grind (arith, is))
load-parts (Some fault) valid numbers is = absurd (grind (arith, is))

-- the table of an L1 entry that could be loaded can be after edits
entry-loads : (header : HeaderRecord) (edits : List GuestEdit) (plan : Plan) (old new : Image) (i : ℕ) → AreDone header edits plan old new
    → l1_entry_loads (geometry_of header) old (slice_index plan.l1_table.numbers i) ≡ Ok tt
    → l1_entry_loads (geometry_of header) new (slice_index plan.l1_table.numbers i) ≡ Ok tt
entry-loads header edits plan old new i done loads = by_table (named_cluster header.v2.cluster_bits (slice_index plan.l1_table.numbers i)) refl loads
  where
    g : Geometry
    g = geometry_of header

    v : ℕ
    v = slice_index plan.l1_table.numbers i

    by_table : (found : Option HostCluster) → named_cluster header.v2.cluster_bits (slice_index plan.l1_table.numbers i) ≡ found
        → l1_entry_loads (geometry_of header) old (slice_index plan.l1_table.numbers i) ≡ Ok tt
        → l1_entry_loads (geometry_of header) new (slice_index plan.l1_table.numbers i) ≡ Ok tt
    by_table None is loads = rw (is, l1_entry_loads) refl
    by_table (Some table) is loads =
        let numbers = numbers_at (l2_layout g) table old in
        let place = place_fault (l2_layout g) table in
        let parts = load-parts place (first_fault (l2_fault g.cluster_bits) numbers) numbers (rw (is, l1_entry_loads) at loads) in
        let list = edits_in header.v2.cluster_bits i edits in
        let applied = done.follows.ends done.apart in
        let left = table-left (plan_tables header plan) edits plan.gains plan.losses old done.follows.cleared new i table done.valid.cluster_bits done.apart
        done.follows.clears applied is in
        let run = run-valid g list numbers done.valid.cluster_bits (can-be header list (edits-made header i edits done.for.fit)) parts.1 in
        let valid : first_fault (l2_fault g.cluster_bits) (numbers_at (l2_layout g) table new) ≡ None =
        ap (first_fault (l2_fault g.cluster_bits)) left ∙ run in
        rw (is, parts.0, valid, l1_entry_loads) refl

-- where each loads that did, all do
all-loads : (g : Geometry) (old new : Image) (l1 : List ℕ)
    → ((i : ℕ) → l1_entry_loads g old (slice_index l1 i) ≡ Ok tt → l1_entry_loads g new (slice_index l1 i) ≡ Ok tt)
    → all_load g l1 old ≡ Ok tt → all_load g l1 new ≡ Ok tt
all-loads g old new [] each loads = refl
all-loads g old new (v ∷ vs) each loads = by_first (all-loads g old new vs (λ i. each (suc i))) (l1_entry_loads g old v) refl loads
  where
    by_first : (all_load g vs old ≡ Ok tt → all_load g vs new ≡ Ok tt) → (first : Result (Unit {0}) Fault) → l1_entry_loads g old v ≡ first
        → and_then first (λ _. all_load g vs old) ≡ Ok tt → all_load g (v ∷ vs) new ≡ Ok tt
    by_first others (Ok done) is rest = ap (λ first. and_then first (λ _. all_load g vs new)) (each 0 is) ∙ others rest
    by_first others (Err fault) is rest = absurd (grind (arith, rest))

-- the parts of what is read for a check
record AreRead (header : HeaderRecord) (l1 reftable : List ℕ) (image : Image) : Type 0 where
  counted : option_map Uncounted (uncounted_part header) ≡ None
  l1_loads : loaded_l1_table header image ≡ Ok l1
  reftable_loads : placed_reftable header image ≡ Ok reftable
  all : all_load (geometry_of header) l1 image ≡ Ok tt

are-read : (header : HeaderRecord) (plan : Plan) (image : Image) → checked_tables header image ≡ Ok (tables_by header plan)
    → AreRead header plan.l1_table.numbers plan.reftable.numbers image
are-read header plan image checked = record {
  counted = grind (arith, nat_tests, checked);
  l1_loads = grind (arith, nat_tests, checked);
  reftable_loads = grind (arith, nat_tests, checked);
  all = grind (arith, nat_tests, checked);
}

read-checked : (header : HeaderRecord) (plan : Plan) (image : Image) → AreRead header plan.l1_table.numbers plan.reftable.numbers image
    → checked_tables (without_autoclear header) image ≡ Ok (plan_tables header plan)
read-checked header plan image read =
    let counted = uncounted-none header (without_autoclear header) (without_autoclear-same header) read.counted in
    rw (counted, read.l1_loads, read.reftable_loads, read.all) refl

-- an image without errors that can be checked can be after edits, by the same tables
checked-after : (header : HeaderRecord) (edits : List GuestEdit) (plan : Plan) (old new : Image) → AreDone header edits plan old new
    → checked_tables header old ≡ Ok (tables_by header plan) → HasNoErrors (plan_tables header plan) old
    → checked_tables (without_autoclear header) new ≡ Ok (plan_tables header plan)
checked-after header edits plan old new done checked none =
    let apart = unshared (plan_tables header plan) old none in
    let read = are-read header plan old checked in
    read-checked header plan new (record {
      counted = read.counted;
      l1_loads = l1-stays header edits plan old new done apart ∙ read.l1_loads;
      reftable_loads = ap (λ loaded. and_then loaded (λ reftable. unless_refused (blocks_fault header reftable) (Ok reftable)))
          (reftable-stays header edits plan old new done apart) ∙ read.reftable_loads;
      all = all-loads (geometry_of header) old new plan.l1_table.numbers (λ i loads. entry-loads header edits plan old new i done loads) read.all;
    })

-- what is found of an image is so whatever autoclear features its header has
pub left-no-errors : (header : HeaderRecord) (plan : Plan) (image : Image) → HasNoErrors (tables_by header plan) image → HasNoErrors (plan_tables header plan) image
unfolding key_clusters
left-no-errors header plan image none = record {
  findings = findings-all IsNoError (plan_tables header plan) image 0 max_file_length
      (λ c after before. no-error-at (tables_by header plan) image none c (omega (arith, before)));
  flags = none.flags;
}

left-no-leaks : (header : HeaderRecord) (plan : Plan) (image : Image) → HasNoLeaks (tables_by header plan) image → HasNoLeaks (plan_tables header plan) image
unfolding key_clusters
left-no-leaks header plan image none = findings-all IsNoLeak (plan_tables header plan) image 0 max_file_length
    (λ c after before. no-leak-at (tables_by header plan) image none c (omega (arith, before)))

-- the tables that a check reads are those that edits are planned by
planned-reftable : (header : HeaderRecord) (edits : List GuestEdit) (image : Image) (tables : ImageTables) → planned_tables header edits image ≡ Ok tables
    → placed_reftable header image ≡ Ok tables.reftable
planned-reftable header edits image tables is = grind (arith, nat_tests, is)

pub checked-planned : (header : HeaderRecord) (edits : List GuestEdit) (plan : Plan) (image : Image) (tables : ImageTables) → IsPlanOf header edits image plan
    → checked_tables header image ≡ Ok tables → tables_by header plan ≡ tables
checked-planned header edits plan image tables of checked =
    let l1 : loaded_l1_table header image ≡ Ok plan.l1_table.numbers = (are-planned header edits image (tables_by header plan) of.tables).0 in
    let reftable : placed_reftable header image ≡ Ok plan.reftable.numbers = planned-reftable header edits image (tables_by header plan) of.tables in
    grind (arith, nat_tests, checked, l1, reftable)

-- so a check finds no errors after edits where it found none, and no leaks
pub finds-none : (header : HeaderRecord) (edits : List GuestEdit) (plan : Plan) (old new : Image) (tables : ImageTables) → IsValidHeader header
    → IsPlanFor header edits plan → IsPlanOf header edits old plan → FollowsPlan header edits plan (Ok tt) old new → checked_tables header old ≡ Ok tables
    → ArePlacesApart (l2_tables_of tables) → HasNoErrors tables old → let left = record tables { header = without_autoclear header } in
    (checked_tables (without_autoclear header) new ≡ Ok left) × HasNoErrors left new × (HasNoLeaks tables old → HasNoLeaks left new)
finds-none header edits plan old new tables valid for of follows checked apart none =
    subst Finds same (at_plan (subst Found (sym same) (checked, apart, none)))
  where
    same : tables_by header plan ≡ tables
    same = checked-planned header edits plan old tables of checked

    Found : ImageTables → Type 0
    Found tables = (checked_tables header old ≡ Ok tables) × ArePlacesApart (l2_tables_of tables) × HasNoErrors tables old

    Finds : ImageTables → Type 0
    Finds tables = let left = record tables { header = without_autoclear header } in
        (checked_tables (without_autoclear header) new ≡ Ok left) × HasNoErrors left new × (HasNoLeaks tables old → HasNoLeaks left new)

    at_plan : Found (tables_by header plan) → Finds (tables_by header plan)
    at_plan (checked, apart, none) =
        let left = left-no-errors header plan old none in
        let done = done-apart header edits plan old new valid for of follows apart left in (
          checked-after header edits plan old new done checked left,
          no-errors header edits plan old new done left,
          λ leaks. no-leaks header edits plan old new done (left-no-leaks header plan old leaks),
        )
