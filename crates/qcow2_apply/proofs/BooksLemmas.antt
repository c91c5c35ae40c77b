use Rattle.std.proofs.Common.{◌≡◌, ℕ, zero, suc, Bool, true, false, ◌+◌, ◌≤◌, ◌⊎◌, List, [], ◌∷◌, ◌++◌, length, map, slice_index, Option, None, Some, Ok, option_to_list, option_map, if◌then◌else◌, unwrap_or, ap, refl, subst, sym, ◌∙◌, inl, inr, arith}
use Rattle.std.proofs.lemmas.List.Sums.{sum_by-append}
use Rattle.std.specs.List.{All, flat_map, list_all, range_with_len, sum_by}
use Rattle.qcow2_base.specs.Storage.{Image}
use Rattle.qcow2_base.specs.Types.{IsClusterBits}
use Rattle.qcow2_base.specs.declared.types.HostCluster.{HostCluster}
use Rattle.qcow2_edits.specs.Edits.{table_edit}
use Rattle.qcow2_edits.specs.declared.edits.Edit.{Edit}
use Rattle.qcow2_metadata.proofs.L2GuardsLemmas.{balance-run}
use Rattle.qcow2_metadata.proofs.TableLemmas.{length-table_numbers}
use Rattle.qcow2_metadata.specs.Entries.{is_among}
use Rattle.qcow2_metadata.specs.Entries.L2Entry.{allocation, meets}
use Rattle.qcow2_metadata.specs.Header.{Geometry, HeaderRecord, IsValidHeader, geometry_of, uses_external_data}
use Rattle.qcow2_metadata.specs.Placed.{numbers_at}
use Rattle.qcow2_metadata.specs.Table.{l2_entries, l2_layout}
use Rattle.qcow2_metadata.specs.Table.L2Guards.{fits_table, handed_back, one_if, references, times_gained}
use Rattle.qcow2_metadata.specs.declared.entries.ClustersToFreeEntry.{ClustersToFreeEntry}
use Rattle.qcow2_check.specs.NamedTables.{named_cluster}
use Rattle.qcow2_check.specs.Tally.{ClusterUse, used_clusters}
use Rattle.qcow2_check.specs.Uses.{ImageTables, block_uses, entry_uses, header_uses, image_uses, l1_entry_uses, table_uses, uses_of}
use Rattle.qcow2_check.specs.declared.tally.TallyKind.TheVariants.{Guest, L2Table}
use Rattle.qcow2_apply.proofs.PlannedTablesLemmas.{none-there, run-at}
use Rattle.qcow2_apply.proofs.TablesLemmas.{edits-made}
use Rattle.qcow2_apply.proofs.ApplyLemmas.{counter-left, table-left}
use Rattle.qcow2_apply.specs.Apply.{AreAllApart, FollowsPlan, l2_tables_of, plan_tables}
use Rattle.qcow2_apply.specs.CounterTables.{HasCounter, counter_of_cluster}
use Rattle.qcow2_apply.specs.GuestEdits.{edits_in}
use Rattle.qcow2_apply.specs.Plan.{IsPlanFor, IsPlanOf}
use Rattle.qcow2_apply.specs.declared.plan.Plan.{Plan}
use Rattle.qcow2_apply.specs.PlannedTables.{counter_tables, gained_at, gained_before, lost_at, lost_before, run_gains, run_losses}
use Rattle.qcow2_apply.specs.Tables.{AllFit, AreMade, IsEdited, run_in}
use Rattle.qcow2_apply.specs.declared.guest_edits.GuestEdit.{GuestEdit}

-- the uses of a cluster by two lists
uses-append : (a b : List ClusterUse) (c : ℕ) → uses_of (a ++ b) c ≡ uses_of a c + uses_of b c
uses-append a b c = sum_by-append (λ (used : ClusterUse). one_if (is_among used.clusters c)) a b

-- a sum over a list is that of its first item and the others
sum-cons : {A : Type 0} (f : A → ℕ) (item : A) (items : List A) → sum_by f (item ∷ items) ≡ f item + sum_by f items
sum-cons f item items =
    let one : sum_by f (item ∷ []) ≡ f item = omega arith in
    sum_by-append f (item ∷ []) items ∙ ap (λ n. n + sum_by f items) one

-- an entry uses a cluster where it refers to it
entry-meets : (g : Geometry) (v c : ℕ) → g.external_data_file ≡ false → uses_of (entry_uses g v) c ≡ one_if (meets g v c)
entry-meets g v c own =
    ap (λ (external : Bool). uses_of (if external then [] else option_to_list (option_map (λ clusters. record { kind = Guest; clusters = clusters }) (allocation g v))) c) own
    ∙ by_clusters (allocation g v)
  where
    by_clusters : (found : Option ClustersToFreeEntry) → uses_of (option_to_list (option_map (λ clusters. record { kind = Guest; clusters = clusters }) found)) c
        ≡ one_if (unwrap_or (option_map (λ clusters. is_among clusters c) found) false)
    by_clusters None = refl
    by_clusters (Some clusters) = omega arith

-- so a table's entries use it as often as they refer to it
entries-refer : (g : Geometry) (numbers : List ℕ) (c : ℕ) → g.external_data_file ≡ false → uses_of (flat_map (entry_uses g) numbers) c ≡ references g numbers c
entries-refer g [] c own = refl
entries-refer g (v ∷ numbers) c own = uses-append (entry_uses g v) (flat_map (entry_uses g) numbers) c
    ∙ omega (arith, entry-meets g v c own, entries-refer g numbers c own, sum-cons (λ w. one_if (meets g w c)) v numbers)

-- what a table uses
pub table-refers : (g : Geometry) (table : HostCluster) (image : Image) (c : ℕ) → g.external_data_file ≡ false → uses_of (table_uses g table image) c
    ≡ one_if (is_among (used_clusters L2Table table 1).clusters c) + references g (numbers_at (l2_layout g) table image) c
table-refers g table image c own =
    let numbers = numbers_at (l2_layout g) table image in
    sum-cons (λ (used : ClusterUse). one_if (is_among used.clusters c)) (used_clusters L2Table table 1) (flat_map (entry_uses g) numbers)
    ∙ ap (λ n. one_if (is_among (used_clusters L2Table table 1).clusters c) + n) (entries-refer g numbers c own)

-- what each of a list fits is what all of it do
all-fit : {A : Type 0} (test : A → Bool) (items : List A) → All (λ item. test item ≡ true) items → list_all test items ≡ true
all-fit test [] all = refl
all-fit test (item ∷ items) all = let first : test item ≡ true = all 0 item (omega arith) in
    rw first (all-fit test items (λ k d below. all (suc k) d (omega (arith, below))))

pub fit-mapped : (header : HeaderRecord) (count : ℕ) (edits : List Edit) → count ≡ l2_entries header.v2.cluster_bits → AreMade header edits
    → list_all (fits_table (geometry_of header) count) (map table_edit edits) ≡ true
fit-mapped header count [] full made = refl
fit-mapped header count (edit ∷ edits) full made =
    let first : fits_table (geometry_of header) count (table_edit edit) ≡ true = rw full (made 0 edit (omega arith)) in
    rw first (fit-mapped header count edits full (λ k d below. made (suc k) d (omega (arith, below))))

-- at each cluster, what a table refers to after edits and what these take away is what it referred to and what they give
table-balances : (header : HeaderRecord) (edits : List Edit) (numbers : List ℕ) (c : ℕ) → IsClusterBits header.v2.cluster_bits
    → length numbers ≡ l2_entries header.v2.cluster_bits → AreMade header edits → let run = run_in header edits numbers in
    references (geometry_of header) run.numbers c + handed_back run.freed c ≡ references (geometry_of header) numbers c + times_gained run.gained c
table-balances header edits numbers c bits full made =
    balance-run (geometry_of header) (map table_edit edits) numbers c bits (fit-mapped header (length numbers) edits full made)

-- the uses by an L1 entry, by the cluster that it names
pub l1-entry-is : (g : Geometry) (image : Image) (v : ℕ) (found : Option HostCluster) → named_cluster g.cluster_bits v ≡ found
    → l1_entry_uses g image v ≡ elim found [ None ↦ [] | Some cluster ↦ table_uses g cluster image ]
l1-entry-is g image v found is = rw (is, l1_entry_uses) refl

-- the same of the uses by an L1 entry
pub entry-balances : (tables : ImageTables) (edits : List GuestEdit) (old new : Image) (c i : ℕ) → IsClusterBits tables.header.v2.cluster_bits
    → uses_external_data tables.header ≡ false → AllFit tables.header edits
    → ((table : HostCluster) → named_cluster tables.header.v2.cluster_bits (slice_index tables.l1 i) ≡ Some table →
    numbers_at (l2_layout (geometry_of tables.header)) table new
    ≡ (run_in tables.header (edits_in tables.header.v2.cluster_bits i edits) (numbers_at (l2_layout (geometry_of tables.header)) table old)).numbers)
    → uses_of (l1_entry_uses (geometry_of tables.header) new (slice_index tables.l1 i)) c + lost_at tables edits old c i
    ≡ uses_of (l1_entry_uses (geometry_of tables.header) old (slice_index tables.l1 i)) c + gained_at tables edits old c i
entry-balances tables edits old new c i bits own fit edited = by_table (named_cluster tables.header.v2.cluster_bits (slice_index tables.l1 i)) refl
  where
    g : Geometry
    g = geometry_of tables.header

    by_table : (found : Option HostCluster) → named_cluster tables.header.v2.cluster_bits (slice_index tables.l1 i) ≡ found
        → uses_of (l1_entry_uses g new (slice_index tables.l1 i)) c + lost_at tables edits old c i
        ≡ uses_of (l1_entry_uses g old (slice_index tables.l1 i)) c + gained_at tables edits old c i
    by_table None is =
        let nothing = none-there tables edits old i c is in
        rw (l1-entry-is g new (slice_index tables.l1 i) None is, l1-entry-is g old (slice_index tables.l1 i) None is, nothing.0, nothing.1) refl
    by_table (Some table) is =
        let list = edits_in tables.header.v2.cluster_bits i edits in
        let numbers = numbers_at (l2_layout g) table old in
        let run = run-at tables edits old i (Some table) is in
        let gained = ap (λ end. run_gains end c) run in
        let lost = ap (λ end. run_losses end c) run in
        let first = ap (λ uses. uses_of uses c) (l1-entry-is g old (slice_index tables.l1 i) (Some table) is) in
        let last = ap (λ uses. uses_of uses c) (l1-entry-is g new (slice_index tables.l1 i) (Some table) is) in
        let before = table-refers g table old c own in
        let after = table-refers g table new c own in
        let left = ap (λ list. references g list c) (edited table is) in
        let balance = table-balances tables.header list numbers c bits (length-table_numbers old _ (l2_entries tables.header.v2.cluster_bits)) (edits-made tables.header i edits fit) in
        omega (arith, gained, lost, first, last, before, after, left, balance)

-- equal sums, item by item
sums-balance : (a b d e : ℕ → ℕ) (items : List ℕ) → ((i : ℕ) → a i + b i ≡ d i + e i) → sum_by a items + sum_by b items ≡ sum_by d items + sum_by e items
sums-balance a b d e [] each = refl
sums-balance a b d e (i ∷ items) each =
    omega (arith, each i, sums-balance a b d e items each, sum-cons a i items, sum-cons b i items, sum-cons d i items, sum-cons e i items)

-- a sum over numbers in a row, from the next on
sum-shift : (f : ℕ → ℕ) (from n : ℕ) → sum_by f (range_with_len (from + 1) n) ≡ sum_by (λ i. f (suc i)) (range_with_len from n)
sum-shift f from zero = refl
sum-shift f from (suc n) = let same : from + 1 ≡ suc from = omega arith in
    omega (
      arith,
      ap f same,
      sum-shift f (from + 1) n,
      sum-cons f (from + 1) (range_with_len (from + 1 + 1) n),
      sum-cons (λ i. f (suc i)) from (range_with_len (from + 1) n),
    )

-- what a list uses is summed over its indices
list-uses : (uses : ℕ → List ClusterUse) (items : List ℕ) (c : ℕ)
    → uses_of (flat_map uses items) c ≡ sum_by (λ i. uses_of (uses (slice_index items i)) c) (range_with_len 0 (length items))
list-uses uses [] c = refl
list-uses uses (v ∷ items) c =
    uses-append (uses v) (flat_map uses items) c
    ∙ omega (
      arith,
      list-uses uses items c,
      sum-shift (λ i. uses_of (uses (slice_index (v ∷ items) i)) c) 0 (length items),
      sum-cons (λ i. uses_of (uses (slice_index (v ∷ items) i)) c) 0 (range_with_len 1 (length items)),
    )

-- at each cluster, the uses after edits and what these take away are the uses before and what they give
pub uses-balance : (tables : ImageTables) (edits : List GuestEdit) (old new : Image) (c : ℕ) → IsClusterBits tables.header.v2.cluster_bits
    → uses_external_data tables.header ≡ false → AllFit tables.header edits
    → ((i : ℕ) (table : HostCluster) → named_cluster tables.header.v2.cluster_bits (slice_index tables.l1 i) ≡ Some table →
    numbers_at (l2_layout (geometry_of tables.header)) table new
    ≡ (run_in tables.header (edits_in tables.header.v2.cluster_bits i edits) (numbers_at (l2_layout (geometry_of tables.header)) table old)).numbers)
    → uses_of (image_uses tables new) c + lost_before tables edits old (length tables.l1) c
    ≡ uses_of (image_uses tables old) c + gained_before tables edits old (length tables.l1) c
uses-balance tables edits old new c bits own fit edited =
    let g = geometry_of tables.header in
    let fixed = header_uses tables.header in
    let blocks = flat_map (block_uses tables.header.v2.cluster_bits) tables.reftable in
    let n = length tables.l1 in
    let after = uses-append fixed (blocks ++ flat_map (l1_entry_uses g new) tables.l1) c in
    let after' = uses-append blocks (flat_map (l1_entry_uses g new) tables.l1) c in
    let before = uses-append fixed (blocks ++ flat_map (l1_entry_uses g old) tables.l1) c in
    let before' = uses-append blocks (flat_map (l1_entry_uses g old) tables.l1) c in
    let each = λ (i : ℕ). entry-balances tables edits old new c i bits own fit (edited i) in
    let sums = sums-balance (λ i. uses_of (l1_entry_uses g new (slice_index tables.l1 i)) c) (lost_at tables edits old c)
    (λ i. uses_of (l1_entry_uses g old (slice_index tables.l1 i)) c) (gained_at tables edits old c) (range_with_len 0 n) each in
    omega (arith, after, after', before, before', list-uses (l1_entry_uses g new) tables.l1 c, list-uses (l1_entry_uses g old) tables.l1 c, sums)

-- so each counter follows the uses of its cluster
pub books : (header : HeaderRecord) (edits : List GuestEdit) (plan : Plan) (old new : Image) (c : ℕ) → IsValidHeader header → IsPlanFor header edits plan
    → IsPlanOf header edits old plan → FollowsPlan header edits plan (Ok tt) old new → AreAllApart (plan_tables header plan)
    → HasCounter (counter_tables (plan_tables header plan)) c
    → counter_of_cluster (counter_tables (plan_tables header plan)) new c + uses_of (image_uses (plan_tables header plan) old) c
    ≡ counter_of_cluster (counter_tables (plan_tables header plan)) old c + uses_of (image_uses (plan_tables header plan) new) c
books header edits plan old new c valid for of follows apart has =
    let tables = plan_tables header plan in
    let applied = follows.ends apart in
    let bits = valid.cluster_bits in
    let counter = counter-left tables edits plan.gains plan.losses old follows.cleared new c bits valid.refcount_order apart follows.clears for.changes applied has in
    let uses = uses-balance tables edits old new c bits for.no_data_file for.fit
    (λ i table names. table-left tables edits plan.gains plan.losses old follows.cleared new i table bits apart follows.clears applied names) in
    let gained = of.changes.gained_is c in
    let lost = of.changes.lost_is c in
    omega (arith, counter, uses, gained, lost)

-- a table that has its numbers, or those that edits leave
abbrev pub HasOldOrNew : ImageTables → List GuestEdit → Image → Image → Type 0
HasOldOrNew tables edits old new = (i : ℕ) (table : HostCluster) → (l2_tables_of tables).place i ≡ Some table →
    (numbers_at (l2_layout (geometry_of tables.header)) table new ≡ numbers_at (l2_layout (geometry_of tables.header)) table old)
    ⊎ IsEdited tables.header edits i (numbers_at (l2_layout (geometry_of tables.header)) table old) (numbers_at (l2_layout (geometry_of tables.header)) table new)

-- uses by the same numbers are the same
same-uses : (g : Geometry) (old new : Image) (v : ℕ)
    → ((table : HostCluster) → named_cluster g.cluster_bits v ≡ Some table → numbers_at (l2_layout g) table new ≡ numbers_at (l2_layout g) table old)
    → l1_entry_uses g new v ≡ l1_entry_uses g old v
same-uses g old new v same = by_table (named_cluster g.cluster_bits v) refl
  where
    by_table : (found : Option HostCluster) → named_cluster g.cluster_bits v ≡ found → l1_entry_uses g new v ≡ l1_entry_uses g old v
    by_table None is = l1-entry-is g new v None is ∙ sym (l1-entry-is g old v None is)
    by_table (Some table) is = l1-entry-is g new v (Some table) is
        ∙ ap (λ numbers. used_clusters L2Table table 1 ∷ flat_map (entry_uses g) numbers) (same table is) ∙ sym (l1-entry-is g old v (Some table) is)

-- an L1 entry uses a cluster at most as often as before and as edits give
entry-at-most : (tables : ImageTables) (edits : List GuestEdit) (old new : Image) (c i : ℕ) → IsClusterBits tables.header.v2.cluster_bits
    → uses_external_data tables.header ≡ false → AllFit tables.header edits → HasOldOrNew tables edits old new
    → uses_of (l1_entry_uses (geometry_of tables.header) new (slice_index tables.l1 i)) c
    ≤ uses_of (l1_entry_uses (geometry_of tables.header) old (slice_index tables.l1 i)) c + gained_at tables edits old c i
entry-at-most tables edits old new c i bits own fit either = by_table (named_cluster tables.header.v2.cluster_bits (slice_index tables.l1 i)) refl
  where
    g : Geometry
    g = geometry_of tables.header

    At : Type 0
    At = uses_of (l1_entry_uses g new (slice_index tables.l1 i)) c ≤ uses_of (l1_entry_uses g old (slice_index tables.l1 i)) c + gained_at tables edits old c i

    by_table : (found : Option HostCluster) → named_cluster tables.header.v2.cluster_bits (slice_index tables.l1 i) ≡ found → At
    by_table None is =
        let same = same-uses g old new (slice_index tables.l1 i) (λ table names. absurd (grind (arith, is, names))) in
        omega (arith, ap (λ uses. uses_of uses c) same)
    by_table (Some table) is = elim (either i table is) [
      | inl kept ↦
          let same = same-uses g old new (slice_index tables.l1 i) (λ other names.
          subst (λ t. numbers_at (l2_layout g) t new ≡ numbers_at (l2_layout g) t old) (the-same table other (sym is ∙ names)) kept) in
          omega (arith, ap (λ uses. uses_of uses c) same)
      | inr edited ↦
          let balance = entry-balances tables edits old new c i bits own fit (λ other names.
          subst (λ t. IsEdited tables.header edits i (numbers_at (l2_layout g) t old) (numbers_at (l2_layout g) t new)) (the-same table other (sym is ∙ names)) edited) in
          omega (arith, balance)
    ]
      where
        the-same : (a b : HostCluster) → Some a ≡ Some b → a ≡ b
        the-same a b same = grind (arith, same)

-- sums that are at most others, item by item
sums-at-most : (a b d : ℕ → ℕ) (items : List ℕ) → ((i : ℕ) → a i ≤ b i + d i) → sum_by a items ≤ sum_by b items + sum_by d items
sums-at-most a b d [] each = omega arith
sums-at-most a b d (i ∷ items) each = omega (arith, each i, sums-at-most a b d items each, sum-cons a i items, sum-cons b i items, sum-cons d i items)

-- an image uses a cluster at most as often as before and as edits give, where each L1 entry does
pub uses-within : (tables : ImageTables) (edits : List GuestEdit) (old new : Image) (c : ℕ)
    → ((i : ℕ) → uses_of (l1_entry_uses (geometry_of tables.header) new (slice_index tables.l1 i)) c
    ≤ uses_of (l1_entry_uses (geometry_of tables.header) old (slice_index tables.l1 i)) c + gained_at tables edits old c i)
    → uses_of (image_uses tables new) c ≤ uses_of (image_uses tables old) c + gained_before tables edits old (length tables.l1) c
uses-within tables edits old new c each =
    let g = geometry_of tables.header in
    let fixed = header_uses tables.header in
    let blocks = flat_map (block_uses tables.header.v2.cluster_bits) tables.reftable in
    let after = uses-append fixed (blocks ++ flat_map (l1_entry_uses g new) tables.l1) c in
    let after' = uses-append blocks (flat_map (l1_entry_uses g new) tables.l1) c in
    let before = uses-append fixed (blocks ++ flat_map (l1_entry_uses g old) tables.l1) c in
    let before' = uses-append blocks (flat_map (l1_entry_uses g old) tables.l1) c in
    let sums = sums-at-most (λ i. uses_of (l1_entry_uses g new (slice_index tables.l1 i)) c) (λ i. uses_of (l1_entry_uses g old (slice_index tables.l1 i)) c)
    (gained_at tables edits old c) (range_with_len 0 (length tables.l1)) each in
    omega (arith, after, after', before, before', list-uses (l1_entry_uses g new) tables.l1 c, list-uses (l1_entry_uses g old) tables.l1 c, sums)

-- as it does whichever tables they were made of
pub uses-at-most : (tables : ImageTables) (edits : List GuestEdit) (old new : Image) (c : ℕ) → IsClusterBits tables.header.v2.cluster_bits
    → uses_external_data tables.header ≡ false → AllFit tables.header edits → HasOldOrNew tables edits old new
    → uses_of (image_uses tables new) c ≤ uses_of (image_uses tables old) c + gained_before tables edits old (length tables.l1) c
uses-at-most tables edits old new c bits own fit either = uses-within tables edits old new c (λ i. entry-at-most tables edits old new c i bits own fit either)

-- and just as often where no table changed
pub uses-same : (tables : ImageTables) (old new : Image) (c : ℕ)
    → ((i : ℕ) (table : HostCluster) → (l2_tables_of tables).place i ≡ Some table →
    numbers_at (l2_layout (geometry_of tables.header)) table new ≡ numbers_at (l2_layout (geometry_of tables.header)) table old)
    → uses_of (image_uses tables new) c ≡ uses_of (image_uses tables old) c
uses-same tables old new c same =
    let g = geometry_of tables.header in
    let fixed = header_uses tables.header in
    let blocks = flat_map (block_uses tables.header.v2.cluster_bits) tables.reftable in
    let after = uses-append fixed (blocks ++ flat_map (l1_entry_uses g new) tables.l1) c in
    let after' = uses-append blocks (flat_map (l1_entry_uses g new) tables.l1) c in
    let before = uses-append fixed (blocks ++ flat_map (l1_entry_uses g old) tables.l1) c in
    let before' = uses-append blocks (flat_map (l1_entry_uses g old) tables.l1) c in
    let sums = sums-balance (λ i. uses_of (l1_entry_uses g new (slice_index tables.l1 i)) c) (λ _. 0)
    (λ i. uses_of (l1_entry_uses g old (slice_index tables.l1 i)) c) (λ _. 0) (range_with_len 0 (length tables.l1))
    (λ i. ap (λ uses. uses_of uses c + 0) (same-uses g old new (slice_index tables.l1 i) (same i))) in
    omega (arith, after, after', before, before', list-uses (l1_entry_uses g new) tables.l1 c, list-uses (l1_entry_uses g old) tables.l1 c, sums)
