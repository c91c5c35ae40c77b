use Rattle.std.proofs.Common.{◌≡◌, ◌⊎◌, ℕ, Bool, true, false, suc, ◌<◌, ◌≤◌, List, [], ◌∷◌, flat_map, map, slice_index, Option, Some, None, Ok, ap, refl, sym, subst, ◌∙◌, inl, inr, arith}
use Rattle.std.proofs.lemmas.Bool.{cases_Bool, cases_lt}
use Rattle.std.proofs.lemmas.Bool.Decides.{nat_tests}
use Rattle.std.proofs.Math.Nat.{div-le_self}
use Rattle.qcow2_base.specs.Format.{max_file_length}
use Rattle.qcow2_base.specs.Types.{IsClusterBits}
use Rattle.qcow2_base.specs.Storage.{Image}
use Rattle.qcow2_base.specs.declared.fault.Fault.{Fault}
use Rattle.qcow2_base.specs.declared.types.HostCluster.{HostCluster}
use Rattle.qcow2_metadata.proofs.CopiedLemmas.{allocation-with_copied, host_offset-with_copied, is_compressed-with_copied, is_copied-with_copied, with_copied-fits}
use Rattle.qcow2_metadata.specs.Entries.{with_copied}
use Rattle.qcow2_metadata.specs.Header.{Geometry, HeaderRecord, geometry_of}
use Rattle.qcow2_metadata.specs.Results.{result_map}
use Rattle.qcow2_metadata.specs.Table.{loaded_l2_table}
use Rattle.qcow2_summary.proofs.ApartLemmas.{named-below}
use Rattle.qcow2_check.specs.Counters.{block_of_cluster}
use Rattle.qcow2_check.specs.Flags.{flagged_cluster}
use Rattle.qcow2_check.specs.NamedTables.{named_cluster}
use Rattle.qcow2_check.specs.Tally.{ClusterUse, used_clusters}
use Rattle.qcow2_check.specs.Uses.{ImageTables, all_load, entry_uses, image_tables, image_uses, l1_entry_loads, l1_entry_uses, uses_of}
use Rattle.qcow2_check.specs.declared.tally.TallyKind.TheVariants.{L2Table}
use Rattle.qcow2_repair.proofs.FlagsLemmas.{has_flag, passed_cases, table-valid, twice-passed}
use Rattle.qcow2_repair.proofs.RepairLemmas.{entry-loads}
use Rattle.qcow2_repair.proofs.FlagWindowsLemmas.{IsPart, all-load-map, between-map, due-none, due-same, l1-part, l2-part, loads-by, map-same, named-passed, names-from, names-same, names-to, pass_of}
use Rattle.qcow2_repair.specs.Repair.{IsRepairable}
use Rattle.qcow2_repair.specs.Flags.{BreaksOffFlags, FlagPassState, IsBetween, IsOutsideTables, NamesTable, PassesFlags, TearsTable, due_flag, l1_due, l1_in, l2_due, l2_in, pass_all, pass_between, passed_l1, passed_l2, uses_between, with_due}

-- an L2 entry uses the same clusters after a pass
pub entry-uses-passed : (pass : FlagPassState) (v : ℕ) → IsClusterBits pass.header.v2.cluster_bits
    → entry_uses (geometry_of pass.header) (passed_l2 pass v) ≡ entry_uses (geometry_of pass.header) v
entry-uses-passed pass v bits = elim (cases_Bool (geometry_of pass.header).external_data_file) [
  | inl external ↦ grind (arith, external)
  | inr inside ↦ elim (passed_cases pass.flag (l2_due pass v) v) [
    | inl same ↦ ap (entry_uses (geometry_of pass.header)) same
    | inr turned ↦ ap (entry_uses (geometry_of pass.header)) turned ∙ rw (allocation-with_copied (geometry_of pass.header) pass.flag v bits (grind (arith, inside))) refl
  ]
]

-- and so does a table
table-uses-passed : (pass : FlagPassState) (vs : List ℕ) → IsClusterBits pass.header.v2.cluster_bits
    → flat_map (entry_uses (geometry_of pass.header)) (map (passed_l2 pass) vs) ≡ flat_map (entry_uses (geometry_of pass.header)) vs
table-uses-passed pass [] bits = refl
table-uses-passed pass (v ∷ vs) bits = rw (entry-uses-passed pass v bits, table-uses-passed pass vs bits) refl

flat_map-by : (f h : ℕ → List ClusterUse) (turn : ℕ → ℕ) (vs : List ℕ) → ((k : ℕ) → f (slice_index (map turn vs) k) ≡ h (slice_index vs k))
    → flat_map f (map turn vs) ≡ flat_map h vs
flat_map-by f h turn [] same = refl
flat_map-by f h turn (v ∷ vs) same = rw (same 0, flat_map-by f h turn vs (λ k. same (suc k))) refl

pub uses-by : (g : Geometry) (one other : ℕ) (old new : Image) (found : Option HostCluster) → named_cluster g.cluster_bits one ≡ found → named_cluster g.cluster_bits other ≡ found
    → ((table : HostCluster) → found ≡ Some table → l1_entry_uses g new one ≡ l1_entry_uses g old other) → l1_entry_uses g new one ≡ l1_entry_uses g old other
uses-by g one other old new None names names' same = rw (l1_entry_uses, names, names') refl
uses-by g one other old new (Some table) names names' same = same table refl

-- a pass over all flags of an image with these tables
pub record PassedBy (tables : ImageTables) (flag : Bool) (uses : ℕ → Option ℕ) (start new : Image) : Type 0 where
  pub is : IsRepairable tables start
  pub l1 : tables.l1 ≡ l1_in tables.header start
  pub passes : PassesFlags (pass_of tables.header tables.reftable flag uses) start new

-- the tables of the image after it
abbrev pub tables_after : ImageTables → Image → ImageTables
tables_after tables new = image_tables tables.header (l1_in tables.header new) tables.reftable

l1-after-is : (tables : ImageTables) (flag : Bool) (uses : ℕ → Option ℕ) (start new : Image) → PassedBy tables flag uses start new
    → l1_in tables.header new ≡ map (passed_l1 (pass_of tables.header tables.reftable flag uses)) tables.l1
l1-after-is tables flag uses start new by = by.passes.l1_table ∙ ap (map (passed_l1 (pass_of tables.header tables.reftable flag uses))) (sym by.l1)

-- it changes no use
pub uses-after : (tables : ImageTables) (flag : Bool) (uses : ℕ → Option ℕ) (start new : Image) → PassedBy tables flag uses start new
    → image_uses (tables_after tables new) new ≡ image_uses tables start
uses-after tables flag uses start new by =
    let pass = pass_of tables.header tables.reftable flag uses in
    let g = geometry_of tables.header in
    let l1 = l1-after-is tables flag uses start new by in
    let entry : (k : ℕ) → l1_entry_uses g new (slice_index (map (passed_l1 pass) tables.l1) k) ≡ l1_entry_uses g start (slice_index tables.l1 k) = λ k.
    uses-by g _ _ start new (named_cluster g.cluster_bits (slice_index tables.l1 k)) (names-same pass tables.l1 k) refl (λ table names.
    let after : named_cluster g.cluster_bits (slice_index (map (passed_l1 pass) tables.l1) k) ≡ Some table = names-same pass tables.l1 k ∙ names in
    let named : NamesTable tables.header tables.l1 table = (k, names) in
    let numbers = by.passes.l2_tables table (rw by.l1 at named) in
    rw (l1_entry_uses, after, names) (ap (λ vs. used_clusters L2Table table 1 ∷ flat_map (entry_uses g) vs) numbers
    ∙ ap (λ us. used_clusters L2Table table 1 ∷ us) (table-uses-passed pass (l2_in tables.header table start) by.is.bits))) in
    let all : flat_map (l1_entry_uses g new) (l1_in tables.header new) ≡ flat_map (l1_entry_uses g start) tables.l1 =
    ap (flat_map (l1_entry_uses g new)) l1 ∙ flat_map-by (l1_entry_uses g new) (l1_entry_uses g start) (passed_l1 pass) tables.l1 entry in
    rw all refl

-- and a table that loads does so after it
table-loads-passed : (pass : FlagPassState) (table : HostCluster) (start new : Image) → result_map (λ _. tt {0}) (loaded_l2_table (geometry_of pass.header) table start) ≡ Ok tt
    → l2_in pass.header table new ≡ map (passed_l2 pass) (l2_in pass.header table start) → result_map (λ _. tt {0}) (loaded_l2_table (geometry_of pass.header) table new) ≡ Ok tt
table-loads-passed pass table start new loads is = grind (arith, nat_tests, loads, is, table-valid pass (l2_in pass.header table start))

-- so the image can be repaired as before
pub repairable-after : (tables : ImageTables) (flag : Bool) (uses : ℕ → Option ℕ) (start new : Image) → PassedBy tables flag uses start new
    → IsRepairable (tables_after tables new) new
repairable-after tables flag uses start new by =
    let pass = pass_of tables.header tables.reftable flag uses in
    let g = geometry_of tables.header in
    let same = uses-after tables flag uses start new by in
    let each : (k : ℕ) → l1_entry_loads g new (slice_index (map (passed_l1 pass) tables.l1) k) ≡ l1_entry_loads g start (slice_index tables.l1 k) = λ k.
    loads-by g _ _ start new (named_cluster g.cluster_bits (slice_index tables.l1 k)) (names-same pass tables.l1 k) refl (λ table names.
    let here : result_map (λ _. tt {0}) (loaded_l2_table g table start) ≡ Ok tt = rw (names, l1_entry_loads) at (entry-loads g tables.l1 k start by.is.loads) in
    let named : NamesTable tables.header tables.l1 table = (k, names) in
    table-loads-passed pass table start new here (by.passes.l2_tables table (rw by.l1 at named)) ∙ sym here) in
    record {
      bits = by.is.bits;
      orders = by.is.orders;
      placed = by.is.placed;
      loads = ap (λ l1. all_load g l1 new) (l1-after-is tables flag uses start new by) ∙ all-load-map g (passed_l1 pass) tables.l1 start new each ∙ by.is.loads;
      apart = λ c below. rw same (by.is.apart c below);
      fits = λ c below has. rw same (by.is.fits c below has);
    }

-- no flag is due to an entry whose cluster has no block
pub due-unblocked : (header : HeaderRecord) (reftable : List ℕ) (flag : Bool) (uses : ℕ → Option ℕ) (cluster : HostCluster) → block_of_cluster header reftable cluster.0 ≡ None
    → due_flag (pass_of header reftable flag uses) cluster ≡ None
due-unblocked header reftable flag uses cluster none = grind (arith, none)

-- the cluster that an L2 entry names is the same after a pass, but in an external data file
pub flagged-passed : (pass : FlagPassState) (v : ℕ) → (geometry_of pass.header).external_data_file ≡ false
    → flagged_cluster (geometry_of pass.header) (passed_l2 pass v) ≡ flagged_cluster (geometry_of pass.header) v
flagged-passed pass v inside = elim (passed_cases pass.flag (l2_due pass v) v) [
  | inl same ↦ ap (flagged_cluster (geometry_of pass.header)) same
  | inr turned ↦ ap (flagged_cluster (geometry_of pass.header)) turned
      ∙ grind (arith, nat_tests, inside, is_compressed-with_copied pass.flag v, host_offset-with_copied false pass.flag v)
]

-- an entry after two passes, one by uses before a cluster and one by those from it on
due-joined : (header : HeaderRecord) (reftable : List ℕ) (flag : Bool) (uses : ℕ → ℕ) (mid end : ℕ) (cluster : HostCluster) → mid ≤ end
    → ((due_flag (pass_of header reftable flag (uses_between uses mid end)) cluster ≡ None)
    × (due_flag (pass_of header reftable flag (uses_between uses 0 mid)) cluster ≡ due_flag (pass_of header reftable flag (uses_between uses 0 end)) cluster))
    ⊎ ((due_flag (pass_of header reftable flag (uses_between uses 0 mid)) cluster ≡ None)
    × (due_flag (pass_of header reftable flag (uses_between uses mid end)) cluster ≡ due_flag (pass_of header reftable flag (uses_between uses 0 end)) cluster))
due-joined header reftable flag uses mid end cluster low = elim (cases_lt cluster.0 mid) [
  | inl less ↦ inl (
    due-none header reftable flag (uses_between uses mid end) cluster (grind (arith, nat_tests, less)),
    due-same header reftable flag (uses_between uses 0 mid) (uses_between uses 0 end) cluster (grind (arith, nat_tests, less, low)),
  )
  | inr more ↦ inr (
    due-none header reftable flag (uses_between uses 0 mid) cluster (grind (arith, nat_tests, more)),
    due-same header reftable flag (uses_between uses mid end) (uses_between uses 0 end) cluster (grind (arith, nat_tests, more)),
  )
]

pub l1-due-by : (header : HeaderRecord) (reftable : List ℕ) (flag : Bool) (uses : ℕ → Option ℕ) (v : ℕ) (found : Option HostCluster) → named_cluster header.v2.cluster_bits v ≡ found
    → l1_due (pass_of header reftable flag uses) v ≡ elim found [ None ↦ None | Some cluster ↦ due_flag (pass_of header reftable flag uses) cluster ]
l1-due-by header reftable flag uses v None names = grind (arith, names)
l1-due-by header reftable flag uses v (Some cluster) names = grind (arith, names)

l1-joined : (header : HeaderRecord) (reftable : List ℕ) (flag : Bool) (uses : ℕ → ℕ) (mid end v : ℕ) → mid ≤ end
    → passed_l1 (pass_of header reftable flag (uses_between uses mid end)) (passed_l1 (pass_of header reftable flag (uses_between uses 0 mid)) v)
    ≡ passed_l1 (pass_of header reftable flag (uses_between uses 0 end)) v
l1-joined header reftable flag uses mid end v low = by_name (named_cluster header.v2.cluster_bits v) refl
  where
    one : FlagPassState
    one = pass_of header reftable flag (uses_between uses 0 mid)

    two : FlagPassState
    two = pass_of header reftable flag (uses_between uses mid end)

    all : FlagPassState
    all = pass_of header reftable flag (uses_between uses 0 end)

    by_name : (found : Option HostCluster) → named_cluster header.v2.cluster_bits v ≡ found → passed_l1 two (passed_l1 one v) ≡ passed_l1 all v
    by_name found names =
        let again : named_cluster header.v2.cluster_bits (passed_l1 one v) ≡ found = named-passed one v ∙ names in
        with_name found (l1-due-by header reftable flag (uses_between uses 0 mid) v found names) (l1-due-by header reftable flag (uses_between uses mid end) (passed_l1 one v) found again)
        (l1-due-by header reftable flag (uses_between uses 0 end) v found names)
      where
        with_name : (found : Option HostCluster) → l1_due one v ≡ elim found [ None ↦ None | Some cluster ↦ due_flag one cluster ]
            → l1_due two (passed_l1 one v) ≡ elim found [ None ↦ None | Some cluster ↦ due_flag two cluster ]
            → l1_due all v ≡ elim found [ None ↦ None | Some cluster ↦ due_flag all cluster ] → passed_l1 two (passed_l1 one v) ≡ passed_l1 all v
        with_name None a b c = ap (λ due. with_due flag due (passed_l1 one v)) b ∙ ap (λ due. with_due flag due v) a ∙ sym (ap (λ due. with_due flag due v) c)
        with_name (Some cluster) a b c = elim (due-joined header reftable flag uses mid end cluster low) [
          | inl before ↦ ap (λ due. with_due flag due (passed_l1 one v)) (b ∙ before.0) ∙ ap (λ due. with_due flag due v) (a ∙ before.1 ∙ sym c)
          | inr later ↦ ap (λ due. with_due flag due (passed_l1 one v)) (b ∙ later.1) ∙ ap (with_due flag (due_flag all cluster)) (ap (λ due. with_due flag due v) (a ∙ later.0)) ∙ sym (ap (λ due. with_due flag due v) c)
        ]

pub l2-due-by : (header : HeaderRecord) (reftable : List ℕ) (flag : Bool) (uses : ℕ → Option ℕ) (v : ℕ) (found : Option HostCluster) → (geometry_of header).external_data_file ≡ false
    → flagged_cluster (geometry_of header) v ≡ found
    → l2_due (pass_of header reftable flag uses) v ≡ elim found [ None ↦ None | Some cluster ↦ due_flag (pass_of header reftable flag uses) cluster ]
l2-due-by header reftable flag uses v None inside names = grind (arith, inside, names)
l2-due-by header reftable flag uses v (Some cluster) inside names = grind (arith, inside, names)

-- in an external data file each entry that names a cluster is due the flag
l2-due-external : (header : HeaderRecord) (reftable : List ℕ) (flag : Bool) (some other : ℕ → Option ℕ) (v : ℕ) → (geometry_of header).external_data_file ≡ true
    → l2_due (pass_of header reftable flag some) v ≡ l2_due (pass_of header reftable flag other) v
l2-due-external header reftable flag some other v external = by_name (flagged_cluster (geometry_of header) v) refl
  where
    by_name : (found : Option HostCluster) → flagged_cluster (geometry_of header) v ≡ found
        → l2_due (pass_of header reftable flag some) v ≡ l2_due (pass_of header reftable flag other) v
    by_name None none = grind (arith, none)
    by_name (Some cluster) there = grind (arith, external, there)

l2-joined-inside : (header : HeaderRecord) (reftable : List ℕ) (flag : Bool) (uses : ℕ → ℕ) (mid end v : ℕ) → mid ≤ end → (geometry_of header).external_data_file ≡ false
    → passed_l2 (pass_of header reftable flag (uses_between uses mid end)) (passed_l2 (pass_of header reftable flag (uses_between uses 0 mid)) v)
    ≡ passed_l2 (pass_of header reftable flag (uses_between uses 0 end)) v
l2-joined-inside header reftable flag uses mid end v low inside = by_name (flagged_cluster (geometry_of header) v) refl
  where
    one : FlagPassState
    one = pass_of header reftable flag (uses_between uses 0 mid)

    two : FlagPassState
    two = pass_of header reftable flag (uses_between uses mid end)

    all : FlagPassState
    all = pass_of header reftable flag (uses_between uses 0 end)

    by_name : (found : Option HostCluster) → flagged_cluster (geometry_of header) v ≡ found → passed_l2 two (passed_l2 one v) ≡ passed_l2 all v
    by_name found names =
        let again : flagged_cluster (geometry_of header) (passed_l2 one v) ≡ found = flagged-passed one v inside ∙ names in
        with_name found (l2-due-by header reftable flag (uses_between uses 0 mid) v found inside names) (l2-due-by header reftable flag (uses_between uses mid end) (passed_l2 one v) found inside again)
        (l2-due-by header reftable flag (uses_between uses 0 end) v found inside names)
      where
        with_name : (found : Option HostCluster) → l2_due one v ≡ elim found [ None ↦ None | Some cluster ↦ due_flag one cluster ]
            → l2_due two (passed_l2 one v) ≡ elim found [ None ↦ None | Some cluster ↦ due_flag two cluster ]
            → l2_due all v ≡ elim found [ None ↦ None | Some cluster ↦ due_flag all cluster ] → passed_l2 two (passed_l2 one v) ≡ passed_l2 all v
        with_name None a b c = ap (λ due. with_due flag due (passed_l2 one v)) b ∙ ap (λ due. with_due flag due v) a ∙ sym (ap (λ due. with_due flag due v) c)
        with_name (Some cluster) a b c = elim (due-joined header reftable flag uses mid end cluster low) [
          | inl before ↦ ap (λ due. with_due flag due (passed_l2 one v)) (b ∙ before.0) ∙ ap (λ due. with_due flag due v) (a ∙ before.1 ∙ sym c)
          | inr later ↦ ap (λ due. with_due flag due (passed_l2 one v)) (b ∙ later.1) ∙ ap (with_due flag (due_flag all cluster)) (ap (λ due. with_due flag due v) (a ∙ later.0)) ∙ sym (ap (λ due. with_due flag due v) c)
        ]

l2-joined : (header : HeaderRecord) (reftable : List ℕ) (flag : Bool) (uses : ℕ → ℕ) (mid end v : ℕ) → mid ≤ end
    → passed_l2 (pass_of header reftable flag (uses_between uses mid end)) (passed_l2 (pass_of header reftable flag (uses_between uses 0 mid)) v)
    ≡ passed_l2 (pass_of header reftable flag (uses_between uses 0 end)) v
l2-joined header reftable flag uses mid end v low = elim (cases_Bool (geometry_of header).external_data_file) [
  | inl external ↦ elim (passed_cases flag (l2_due one v) v) [
    | inl same ↦ ap (passed_l2 two) same ∙ ap (λ due. with_due flag due v) (l2-due-external header reftable flag (uses_between uses mid end) (uses_between uses 0 end) v external)
    | inr turned ↦ ap (passed_l2 two) turned ∙ has_flag flag (l2_due two (with_copied flag v)) (with_copied flag v) (with_copied-fits flag v) (is_copied-with_copied flag v) ∙ sym turned
        ∙ ap (λ due. with_due flag due v) (l2-due-external header reftable flag (uses_between uses 0 mid) (uses_between uses 0 end) v external)
  ]
  | inr inside ↦ l2-joined-inside header reftable flag uses mid end v low inside
]
  where
    one : FlagPassState
    one = pass_of header reftable flag (uses_between uses 0 mid)

    two : FlagPassState
    two = pass_of header reftable flag (uses_between uses mid end)

-- where no block counts clusters from one on, the uses before it are enough
pub flagged-below : (g : Geometry) (v : ℕ) (cluster : HostCluster) → flagged_cluster g v ≡ Some cluster → cluster.0 < max_file_length
flagged-below g v cluster names = grind (arith, nat_tests, names, div-le_self)

due-finished : (header : HeaderRecord) (reftable : List ℕ) (flag : Bool) (uses : ℕ → ℕ) (end : ℕ) (cluster : HostCluster)
    → ((c : ℕ) → end ≤ c → c < max_file_length → block_of_cluster header reftable c ≡ None) → cluster.0 < max_file_length
    → due_flag (pass_of header reftable flag (uses_between uses 0 end)) cluster ≡ due_flag (pass_of header reftable flag (λ c. Some (uses c))) cluster
due-finished header reftable flag uses end cluster none below = elim (cases_lt cluster.0 end) [
  | inl less ↦ due-same header reftable flag (uses_between uses 0 end) (λ c. Some (uses c)) cluster (grind (arith, nat_tests, less))
  | inr more ↦ due-unblocked header reftable flag (uses_between uses 0 end) cluster (none cluster.0 more below) ∙ sym (due-unblocked header reftable flag (λ c. Some (uses c)) cluster (none cluster.0 more below))
]

l1-finished : (header : HeaderRecord) (reftable : List ℕ) (flag : Bool) (uses : ℕ → ℕ) (end : ℕ) → ((c : ℕ) → end ≤ c → c < max_file_length → block_of_cluster header reftable c ≡ None)
    → (v : ℕ) → passed_l1 (pass_of header reftable flag (uses_between uses 0 end)) v ≡ passed_l1 (pass_of header reftable flag (λ c. Some (uses c))) v
l1-finished header reftable flag uses end none v = ap (λ due. with_due flag due v) (by_name (named_cluster header.v2.cluster_bits v) refl)
  where
    by_name : (found : Option HostCluster) → named_cluster header.v2.cluster_bits v ≡ found
        → l1_due (pass_of header reftable flag (uses_between uses 0 end)) v ≡ l1_due (pass_of header reftable flag (λ c. Some (uses c))) v
    by_name None names = l1-due-by header reftable flag (uses_between uses 0 end) v None names ∙ sym (l1-due-by header reftable flag (λ c. Some (uses c)) v None names)
    by_name (Some cluster) names = l1-due-by header reftable flag (uses_between uses 0 end) v (Some cluster) names ∙ due-finished header reftable flag uses end cluster none (named-below _ v cluster names)
        ∙ sym (l1-due-by header reftable flag (λ c. Some (uses c)) v (Some cluster) names)

l2-finished : (header : HeaderRecord) (reftable : List ℕ) (flag : Bool) (uses : ℕ → ℕ) (end : ℕ) → ((c : ℕ) → end ≤ c → c < max_file_length → block_of_cluster header reftable c ≡ None)
    → (v : ℕ) → passed_l2 (pass_of header reftable flag (uses_between uses 0 end)) v ≡ passed_l2 (pass_of header reftable flag (λ c. Some (uses c))) v
l2-finished header reftable flag uses end none v = elim (cases_Bool (geometry_of header).external_data_file) [
  | inl external ↦ ap (λ due. with_due flag due v) (l2-due-external header reftable flag (uses_between uses 0 end) (λ c. Some (uses c)) v external)
  | inr inside ↦ ap (λ due. with_due flag due v) (by_name inside (flagged_cluster (geometry_of header) v) refl)
]
  where
    by_name : (geometry_of header).external_data_file ≡ false → (found : Option HostCluster) → flagged_cluster (geometry_of header) v ≡ found
        → l2_due (pass_of header reftable flag (uses_between uses 0 end)) v ≡ l2_due (pass_of header reftable flag (λ c. Some (uses c))) v
    by_name inside None names = l2-due-by header reftable flag (uses_between uses 0 end) v None inside names ∙ sym (l2-due-by header reftable flag (λ c. Some (uses c)) v None inside names)
    by_name inside (Some cluster) names = l2-due-by header reftable flag (uses_between uses 0 end) v (Some cluster) inside names ∙ due-finished header reftable flag uses end cluster none (flagged-below _ v cluster names)
        ∙ sym (l2-due-by header reftable flag (λ c. Some (uses c)) v (Some cluster) inside names)

-- so a pass over these is one over all
pub passes-finished : (tables : ImageTables) (flag : Bool) (end : ℕ) (start new : Image)
    → ((c : ℕ) → end ≤ c → c < max_file_length → block_of_cluster tables.header tables.reftable c ≡ None)
    → PassesFlags (pass_between tables start flag 0 end) start new → PassesFlags (pass_all tables start flag) start new
passes-finished tables flag end start new none passes = record {
  l1_table = passes.l1_table ∙ map-same _ _ (l1_in tables.header start) (l1-finished tables.header tables.reftable flag (λ c. uses_of (image_uses tables start) c) end none);
  l2_tables = λ table names. passes.l2_tables table names ∙ map-same _ _ (l2_in tables.header table start) (l2-finished tables.header tables.reftable flag (λ c. uses_of (image_uses tables start) c) end none);
  others = passes.others;
}

map-joined : (f h k : ℕ → ℕ) (vs : List ℕ) → ((v : ℕ) → f (h v) ≡ k v) → map f (map h vs) ≡ map k vs
map-joined f h k [] same = refl
map-joined f h k (v ∷ vs) same = rw (same v, map-joined f h k vs same) refl

-- what an L1 table after a pass names, and the same before it
after-names : (tables : ImageTables) (flag : Bool) (uses : ℕ → Option ℕ) (start new : Image) → PassedBy tables flag uses start new → (table : HostCluster)
    → NamesTable tables.header (l1_in tables.header start) table → NamesTable tables.header (l1_in tables.header new) table
after-names tables flag uses start new by table names =
    subst (λ l1. NamesTable tables.header l1 table) (sym by.passes.l1_table) (names-to (pass_of tables.header tables.reftable flag uses) (l1_in tables.header start) table names)

pub before-names : (tables : ImageTables) (flag : Bool) (uses : ℕ → Option ℕ) (start new : Image) → PassedBy tables flag uses start new → (table : HostCluster)
    → NamesTable tables.header (l1_in tables.header new) table → NamesTable tables.header (l1_in tables.header start) table
before-names tables flag uses start new by table names =
    names-from (pass_of tables.header tables.reftable flag uses) (l1_in tables.header start) table (subst (λ l1. NamesTable tables.header l1 table) by.passes.l1_table names)

outside-after : (tables : ImageTables) (flag : Bool) (uses : ℕ → Option ℕ) (start new : Image) → PassedBy tables flag uses start new → (o : ℕ)
    → IsOutsideTables tables.header (l1_in tables.header start) o → IsOutsideTables tables.header (l1_in tables.header new) o
outside-after tables flag uses start new by o outside =
    record { l1_table = outside.l1_table; l2_tables = λ table names. outside.l2_tables table (before-names tables flag uses start new by table names) }

-- two passes, one after the other
pub passes-joined : (tables : ImageTables) (flag : Bool) (mid end : ℕ) (a b c : Image) → mid ≤ end
    → PassedBy tables flag (uses_between (λ k. uses_of (image_uses tables a) k) 0 mid) a b
    → PassesFlags (pass_between (tables_after tables b) b flag mid end) b c → PassesFlags (pass_between tables a flag 0 end) a c
passes-joined tables flag mid end a b c low by passes = record {
  l1_table = two.l1_table ∙ ap (map (passed_l1 later)) by.passes.l1_table ∙ map-joined _ _ _ (l1_in tables.header a) (λ v. l1-joined tables.header tables.reftable flag uses mid end v low);
  l2_tables = λ table names. two.l2_tables table (after-names tables flag _ a b by table names) ∙ ap (map (passed_l2 later)) (by.passes.l2_tables table names)
      ∙ map-joined _ _ _ (l2_in tables.header table a) (λ v. l2-joined tables.header tables.reftable flag uses mid end v low);
  others = λ o outside. two.others o (outside-after tables flag _ a b by o outside) ∙ by.passes.others o outside;
}
  where
    uses : ℕ → ℕ
    uses = λ k. uses_of (image_uses tables a) k

    later : FlagPassState
    later = pass_of tables.header tables.reftable flag (uses_between uses mid end)

    two : PassesFlags later b c
    two = subst (λ us. PassesFlags (pass_of tables.header tables.reftable flag (uses_between (λ k. uses_of us k) mid end)) b c) (uses-after tables flag _ a b by) passes

between-joined : (all : ℕ → ℕ) (a b c : List ℕ) → ((v : ℕ) → all (all v) ≡ all v) → IsBetween all a b → IsBetween all b c → IsBetween all a c
between-joined all a b c twice one two = record { count = two.count ∙ one.count; each = λ k. join k (one.each k) (two.each k) }
  where
    join : (k : ℕ) → (slice_index b k ≡ slice_index a k) ⊎ (slice_index b k ≡ all (slice_index a k))
        → (slice_index c k ≡ slice_index b k) ⊎ (slice_index c k ≡ all (slice_index b k))
        → (slice_index c k ≡ slice_index a k) ⊎ (slice_index c k ≡ all (slice_index a k))
    join k (inl same) (inl again) = inl (again ∙ same)
    join k (inl same) (inr passed) = inr (passed ∙ ap all same)
    join k (inr passed) (inl again) = inr (again ∙ passed)
    join k (inr passed) (inr twice_passed) = inr (twice_passed ∙ ap all passed ∙ twice (slice_index a k))

l1-twice : (pass : FlagPassState) (v : ℕ) → passed_l1 pass (passed_l1 pass v) ≡ passed_l1 pass v
l1-twice pass v = elim (passed_cases pass.flag (l1_due pass v) v) [
  | inl same ↦ ap (passed_l1 pass) same
  | inr turned ↦ ap (passed_l1 pass) turned ∙ has_flag pass.flag (l1_due pass (with_copied pass.flag v)) (with_copied pass.flag v) (with_copied-fits pass.flag v) (is_copied-with_copied pass.flag v) ∙ sym turned
]

-- uses before a cluster are a part of all
before-part : (uses : ℕ → ℕ) (mid : ℕ) → IsPart (uses_between uses 0 mid) (λ c. Some (uses c))
before-part uses mid c = elim (cases_lt c mid) [
  | inl less ↦ inr (grind (arith, nat_tests, less))
  | inr more ↦ inl (grind (arith, nat_tests, more))
]

-- a pass that broke off after another
pub breaks-joined : (tables : ImageTables) (flag : Bool) (mid : ℕ) (fault : Fault) (a b c : Image)
    → PassedBy tables flag (uses_between (λ k. uses_of (image_uses tables a) k) 0 mid) a b
    → BreaksOffFlags (pass_all (tables_after tables b) b flag) fault b c → BreaksOffFlags (pass_all tables a flag) fault a c
breaks-joined tables flag mid fault a b c by breaks = (
  two.0,
  record {
    l1_table = between-joined (passed_l1 all) _ _ _ (l1-twice all) l1_before two.1.l1_table;
    l2_tables = λ table names. between-joined (passed_l2 all) _ _ _ (twice-passed all) (l2_before table names) (two.1.l2_tables table (after-names tables flag _ a b by table names));
    others = λ o outside. two.1.others o (outside-after tables flag _ a b by o outside) ∙ by.passes.others o outside;
  },
  record { whole = two.2.whole; torn = torn two.2.torn },
)
  where
    uses : ℕ → ℕ
    uses = λ k. uses_of (image_uses tables a) k

    all : FlagPassState
    all = pass_of tables.header tables.reftable flag (λ k. Some (uses k))

    two : BreaksOffFlags all fault b c
    two = subst (λ us. BreaksOffFlags (pass_of tables.header tables.reftable flag (λ k. Some (uses_of us k))) fault b c) (uses-after tables flag _ a b by) breaks

    l1_before : IsBetween (passed_l1 all) (l1_in tables.header a) (l1_in tables.header b)
    l1_before = rw by.passes.l1_table (between-map _ _ (l1_in tables.header a) (l1-part tables.header tables.reftable flag _ _ (before-part uses mid)))

    l2_before : (table : HostCluster) → NamesTable tables.header (l1_in tables.header a) table → IsBetween (passed_l2 all) (l2_in tables.header table a) (l2_in tables.header table b)
    l2_before table names = rw (by.passes.l2_tables table names) (between-map _ _ (l2_in tables.header table a) (l2-part tables.header tables.reftable flag _ _ (before-part uses mid)))

    torn : (c ≡ two.0) ⊎ TearsTable tables.header (l1_in tables.header b) two.0 c → (c ≡ two.0) ⊎ TearsTable tables.header (l1_in tables.header a) two.0 c
    torn (inl same) = inl same
    torn (inr (inl l1)) = inr (inl l1)
    torn (inr (inr l2)) = inr (inr (l2.0, before-names tables flag _ a b by l2.0 l2.1, l2.2))
