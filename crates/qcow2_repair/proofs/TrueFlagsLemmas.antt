use Rattle.std.proofs.Common.{◌≡◌, ℕ, zero, suc, Bool, true, false, ◌==◌, List, [], ◌∷◌, map, slice_index, Option, Some, None, IsSome, ap, refl, sym, ◌∙◌, inl, inr, arith}
use Rattle.std.proofs.lemmas.Bool.{cases_Bool, cases_eq}
use Rattle.std.proofs.lemmas.Bool.Decides.{nat_tests}
use Rattle.std.proofs.lemmas.Option.{none-some}
use Rattle.qcow2_base.specs.Storage.{Image}
use Rattle.qcow2_base.specs.declared.types.HostCluster.{HostCluster}
use Rattle.qcow2_metadata.proofs.CopiedLemmas.{is_copied-with_copied}
use Rattle.qcow2_metadata.specs.Entries.{is_copied}
use Rattle.qcow2_metadata.specs.Header.{HeaderRecord, geometry_of}
use Rattle.qcow2_check.specs.Counters.{block_of_cluster}
use Rattle.qcow2_check.specs.Flags.{flagged_cluster}
use Rattle.qcow2_check.specs.NamedTables.{named_cluster}
use Rattle.qcow2_check.specs.Uses.{ImageTables, uses_of}
use Rattle.qcow2_repair.proofs.FlagWindowsLemmas.{named-passed, pass_of}
use Rattle.qcow2_repair.proofs.PassesLemmas.{before-names, flagged-passed, l1-due-by, l2-due-by}
use Rattle.qcow2_repair.proofs.RepairLemmas.{table-stays}
use Rattle.qcow2_repair.proofs.OrderLemmas.{l1-stays}
use Rattle.qcow2_repair.proofs.StagesLemmas.{counters-step, flags-passed, flags-step, stages}
use Rattle.qcow2_repair.specs.Repair.{Clears, IsRepairable, Repairs, Sets, image_uses_of, tables_in}
use Rattle.qcow2_repair.specs.Counters.{IsOutsideBlocks}
use Rattle.qcow2_repair.specs.Flags.{FlagPassState, NamesTable, PassesFlags, due_flag, l1_in, l2_due, l2_in, pass_all, passed_l1, passed_l2, with_due}
use Rattle.qcow2_repair.specs.Left.{HasTrueFlags, IsCounted}

-- an entry that has the flag after it is cleared where it isn't due
clear-true : (n v : ℕ) → is_copied (with_due false (Some (n == 1)) v) ≡ true → n ≡ 1
clear-true n v copied = elim (cases_eq n 1) [
  | inl one ↦ one
  | inr other ↦ absurd (grind (arith, nat_tests, other, copied, is_copied-with_copied false v))
]

-- and after it is set where it is due
set-right : (n v : ℕ) → (is_copied v ≡ true → n ≡ 1) → is_copied (with_due true (Some (n == 1)) v) ≡ (n == 1)
set-right n v was = elim (cases_eq n 1) [
  | inl one ↦ grind (arith, nat_tests, one, is_copied-with_copied true v)
  | inr other ↦ elim (cases_Bool (is_copied v)) [
    | inl set ↦ absurd (other (was set))
    | inr clear ↦ grind (arith, nat_tests, other, clear)
  ]
]

-- the flag that is due to an entry whose cluster is counted
due-counted : (header : HeaderRecord) (reftable : List ℕ) (flag : Bool) (uses : ℕ → ℕ) (cluster : HostCluster) → IsSome (block_of_cluster header reftable cluster.0)
    → due_flag (pass_of header reftable flag (λ c. Some (uses c))) cluster ≡ Some (uses cluster.0 == 1)
due-counted header reftable flag uses cluster some = by_block (block_of_cluster header reftable cluster.0) refl
  where
    by_block : (found : Option HostCluster) → block_of_cluster header reftable cluster.0 ≡ found
        → due_flag (pass_of header reftable flag (λ c. Some (uses c))) cluster ≡ Some (uses cluster.0 == 1)
    by_block None none = absurd (grind (arith, nat_tests, none, some))
    by_block (Some block) there = grind (arith, there)

-- the number at an index after a pass
passed-at : (f : ℕ → ℕ) (vs : List ℕ) (k : ℕ) → f 0 ≡ 0 → slice_index (map f vs) k ≡ f (slice_index vs k)
passed-at f [] k nothing = sym nothing
passed-at f (v ∷ vs) zero nothing = refl
passed-at f (v ∷ vs) (suc k) nothing = passed-at f vs k nothing

l1-nothing : (pass : FlagPassState) → passed_l1 pass 0 ≡ 0
l1-nothing pass = refl

l2-nothing : (pass : FlagPassState) → passed_l2 pass 0 ≡ 0
l2-nothing pass = by_file (geometry_of pass.header).external_data_file refl
  where
    by_file : (external : Bool) → (geometry_of pass.header).external_data_file ≡ external → passed_l2 pass 0 ≡ 0
    by_file true is = grind (arith, nat_tests, is)
    by_file false is = grind (arith, nat_tests, is)

-- an L1 entry of a counted cluster before and after a pass over all flags
l1-entry : (header : HeaderRecord) (reftable : List ℕ) (flag : Bool) (old new : Image) → IsRepairable (tables_in header reftable old) old
    → PassesFlags (pass_all (tables_in header reftable old) old flag) old new → (k : ℕ) (cluster : HostCluster)
    → named_cluster header.v2.cluster_bits (slice_index (l1_in header new) k) ≡ Some cluster → IsSome (block_of_cluster header reftable cluster.0)
    → (named_cluster header.v2.cluster_bits (slice_index (l1_in header old) k) ≡ Some cluster)
    × (slice_index (l1_in header new) k ≡ with_due flag (Some (image_uses_of (tables_in header reftable old) old cluster.0 == 1)) (slice_index (l1_in header old) k))
l1-entry header reftable flag old new is passes k cluster names some =
    let pass = pass_all (tables_in header reftable old) old flag in
    let uses = λ (c : ℕ). image_uses_of (tables_in header reftable old) old c in
    let v = slice_index (l1_in header old) k in
    let here : slice_index (l1_in header new) k ≡ passed_l1 pass v = ap (λ l1. slice_index l1 k) passes.l1_table ∙ passed-at (passed_l1 pass) (l1_in header old) k (l1-nothing pass) in
    let before : named_cluster header.v2.cluster_bits v ≡ Some cluster = sym (named-passed pass v) ∙ ap (named_cluster header.v2.cluster_bits) (sym here) ∙ names in
    (before, here ∙ ap (λ due. with_due flag due v) (l1-due-by header reftable flag (λ c. Some (uses c)) v (Some cluster) before ∙ due-counted header reftable flag uses cluster some))

-- and an L2 entry of guest data in the image
l2-entry : (header : HeaderRecord) (reftable : List ℕ) (flag : Bool) (old new : Image) → IsRepairable (tables_in header reftable old) old
    → PassesFlags (pass_all (tables_in header reftable old) old flag) old new → (table : HostCluster) (k : ℕ) (cluster : HostCluster)
    → NamesTable header (l1_in header new) table → (geometry_of header).external_data_file ≡ false
    → flagged_cluster (geometry_of header) (slice_index (l2_in header table new) k) ≡ Some cluster → IsSome (block_of_cluster header reftable cluster.0)
    → NamesTable header (l1_in header old) table × (flagged_cluster (geometry_of header) (slice_index (l2_in header table old) k) ≡ Some cluster)
    × (slice_index (l2_in header table new) k ≡ with_due flag (Some (image_uses_of (tables_in header reftable old) old cluster.0 == 1)) (slice_index (l2_in header table old) k))
l2-entry header reftable flag old new is passes table k cluster names_table inside names some =
    let pass = pass_all (tables_in header reftable old) old flag in
    let uses = λ (c : ℕ). image_uses_of (tables_in header reftable old) old c in
    let v = slice_index (l2_in header table old) k in
    let named = before-names (tables_in header reftable old) flag _ old new (flags-passed header reftable flag old new is passes) table names_table in
    let here : slice_index (l2_in header table new) k ≡ passed_l2 pass v = ap (λ l2. slice_index l2 k) (passes.l2_tables table named) ∙ passed-at (passed_l2 pass) (l2_in header table old) k (l2-nothing pass) in
    let before : flagged_cluster (geometry_of header) v ≡ Some cluster = sym (flagged-passed pass v inside) ∙ ap (flagged_cluster (geometry_of header)) (sym here) ∙ names in (
      named,
      before,
      here ∙ ap (λ due. with_due flag due v) (l2-due-by header reftable flag (λ c. Some (uses c)) v (Some cluster) inside before ∙ due-counted header reftable flag uses cluster some),
    )

-- after the first pass each set flag of a counted cluster is true
pub true-cleared : (header : HeaderRecord) (reftable : List ℕ) (old new : Image) → IsRepairable (tables_in header reftable old) old
    → Clears header reftable old new → HasTrueFlags (tables_in header reftable new) new
true-cleared header reftable old new is clears =
    let kept = (flags-step header reftable false old new is clears).uses in
    record {
      l1_entries = λ k cluster names some copied.
          let entry = l1-entry header reftable false old new is clears k cluster names some in
          ap (λ uses. uses_of uses cluster.0) kept ∙ clear-true _ _ (ap is_copied (sym entry.1) ∙ copied);
      l2_entries = λ table k cluster names_table inside names some copied.
          let entry = l2-entry header reftable false old new is clears table k cluster names_table inside names some in
          ap (λ uses. uses_of uses cluster.0) kept ∙ clear-true _ _ (ap is_copied (sym entry.2) ∙ copied);
    }

-- and stays so while counters change
pub true-stays : (header : HeaderRecord) (reftable : List ℕ) (old new : Image) → IsRepairable (tables_in header reftable old) old
    → ((o : ℕ) → IsOutsideBlocks (tables_in header reftable old) o → new o ≡ old o) → HasTrueFlags (tables_in header reftable old) old
    → HasTrueFlags (tables_in header reftable new) new
true-stays header reftable old new is others was =
    let tables = tables_in header reftable old in
    let kept = (counters-step header reftable old new is others).uses in
    let l1 : l1_in header new ≡ l1_in header old = l1-stays tables old new is others in
    record {
      l1_entries = λ k cluster names some copied.
          ap (λ uses. uses_of uses cluster.0) kept ∙ was.l1_entries k cluster (rw l1 at names) some (rw l1 at copied);
      l2_entries = λ table k cluster names_table inside names some copied.
          let named : NamesTable header (l1_in header old) table = rw l1 at names_table in
          let same : l2_in header table new ≡ l2_in header table old = table-stays tables old new named.0 table is others named.1 in
          ap (λ uses. uses_of uses cluster.0) kept ∙ was.l2_entries table k cluster named inside (rw same at names) some (rw same at copied);
    }

-- the flags of counted clusters say just whether there is one use, and all that guest data in an external data file has are set
pub record HasRightFlags (tables : ImageTables) (image : Image) : Type 0 where
  pub l1_entries : (k : ℕ) (cluster : HostCluster) → named_cluster tables.header.v2.cluster_bits (slice_index tables.l1 k) ≡ Some cluster
      → IsCounted tables cluster.0 → is_copied (slice_index tables.l1 k) ≡ (image_uses_of tables image cluster.0 == 1)
  pub l2_entries : (table : HostCluster) (k : ℕ) (cluster : HostCluster) → NamesTable tables.header tables.l1 table
      → (geometry_of tables.header).external_data_file ≡ false
      → flagged_cluster (geometry_of tables.header) (slice_index (l2_in tables.header table image) k) ≡ Some cluster
      → IsCounted tables cluster.0 → is_copied (slice_index (l2_in tables.header table image) k) ≡ (image_uses_of tables image cluster.0 == 1)
  pub external : (table : HostCluster) (k : ℕ) (cluster : HostCluster) → NamesTable tables.header tables.l1 table
      → (geometry_of tables.header).external_data_file ≡ true
      → flagged_cluster (geometry_of tables.header) (slice_index (l2_in tables.header table image) k) ≡ Some cluster
      → is_copied (slice_index (l2_in tables.header table image) k) ≡ true

-- an entry of guest data in an external data file is set
external-set : (header : HeaderRecord) (reftable : List ℕ) (uses : ℕ → Option ℕ) (v : ℕ) (cluster : HostCluster) → (geometry_of header).external_data_file ≡ true
    → flagged_cluster (geometry_of header) (passed_l2 (pass_of header reftable true uses) v) ≡ Some cluster → is_copied (passed_l2 (pass_of header reftable true uses) v) ≡ true
external-set header reftable uses v cluster external names = by_name (flagged_cluster (geometry_of header) v) refl
  where
    pass : FlagPassState
    pass = pass_of header reftable true uses

    by_name : (found : Option HostCluster) → flagged_cluster (geometry_of header) v ≡ found → is_copied (passed_l2 pass v) ≡ true
    by_name None none =
        let due : l2_due pass v ≡ None = grind (arith, none) in
        let same : passed_l2 pass v ≡ v = ap (λ due. with_due true due v) due in
        absurd (none-some cluster (sym none ∙ ap (flagged_cluster (geometry_of header)) (sym same) ∙ names))
    by_name (Some there) is =
        let due : l2_due pass v ≡ Some true = grind (arith, is, external) in
        ap is_copied (ap (λ due. with_due true due v) due) ∙ is_copied-with_copied true v

-- after the last pass all of this holds
pub right-set : (header : HeaderRecord) (reftable : List ℕ) (old new : Image) → IsRepairable (tables_in header reftable old) old
    → Sets header reftable old new → HasTrueFlags (tables_in header reftable old) old → HasRightFlags (tables_in header reftable new) new
right-set header reftable old new is sets was =
    let kept = (flags-step header reftable true old new is sets).uses in
    let pass = pass_all (tables_in header reftable old) old true in
    record {
      l1_entries = λ k cluster names some.
          let entry = l1-entry header reftable true old new is sets k cluster names some in
          ap is_copied entry.1 ∙ set-right _ _ (was.l1_entries k cluster entry.0 some) ∙ ap (λ uses. uses_of uses cluster.0 == 1) (sym kept);
      l2_entries = λ table k cluster names_table inside names some.
          let entry = l2-entry header reftable true old new is sets table k cluster names_table inside names some in
          ap is_copied entry.2 ∙ set-right _ _ (was.l2_entries table k cluster entry.0 inside entry.1 some) ∙ ap (λ uses. uses_of uses cluster.0 == 1) (sym kept);
      external = λ table k cluster names_table external names.
          let named = before-names (tables_in header reftable old) true _ old new (flags-passed header reftable true old new is sets) table names_table in
          let here : slice_index (l2_in header table new) k ≡ passed_l2 pass (slice_index (l2_in header table old) k)
          = ap (λ l2. slice_index l2 k) (sets.l2_tables table named) ∙ passed-at (passed_l2 pass) (l2_in header table old) k (l2-nothing pass) in
          ap is_copied here ∙ external-set header reftable pass.uses (slice_index (l2_in header table old) k) cluster external (ap (flagged_cluster (geometry_of header)) (sym here) ∙ names);
    }

right-true : (copied : Bool) (n : ℕ) → copied ≡ (n == 1) → copied ≡ true → n ≡ 1
right-true copied n is set = grind (arith, nat_tests, is, set)

-- so all set flags of counted clusters are true
pub true-where_right : (tables : ImageTables) (image : Image) → HasRightFlags tables image → HasTrueFlags tables image
true-where_right tables image right = record {
  l1_entries = λ k cluster names some copied. right-true _ _ (right.l1_entries k cluster names some) copied;
  l2_entries = λ table k cluster names_table inside names some copied. right-true _ _ (right.l2_entries table k cluster names_table inside names some) copied;
}

-- the flags at the steps of a repair
pub record HasFlags (header : HeaderRecord) (reftable : List ℕ) (cleared raised lowered new : Image) : Type 0 where
  pub cleared_true : HasTrueFlags (tables_in header reftable cleared) cleared
  pub raised_true : HasTrueFlags (tables_in header reftable raised) raised
  pub lowered_true : HasTrueFlags (tables_in header reftable lowered) lowered
  pub new_right : HasRightFlags (tables_in header reftable new) new

pub flags-repaired : (header : HeaderRecord) (reftable : List ℕ) (old new : Image) → IsRepairable (tables_in header reftable old) old
    → (repair : Repairs header reftable old new) → HasFlags header reftable repair.cleared repair.raised repair.lowered new
flags-repaired header reftable old new is repair =
    let all = stages header reftable old new repair is in
    let one = true-cleared header reftable old repair.cleared is repair.clears in
    let two = true-stays header reftable repair.cleared repair.raised all.one.is repair.raises.others one in
    let three = true-stays header reftable repair.raised repair.lowered all.two.is repair.lowers.others two in
    record { cleared_true = one; raised_true = two; lowered_true = three; new_right = right-set header reftable repair.lowered new all.three.is repair.sets three }

pub true-repaired : (header : HeaderRecord) (reftable : List ℕ) (old new : Image) (repair : Repairs header reftable old new)
    → IsRepairable (tables_in header reftable old) old
    → HasTrueFlags (tables_in header reftable repair.cleared) repair.cleared × HasTrueFlags (tables_in header reftable repair.raised) repair.raised
    × HasTrueFlags (tables_in header reftable repair.lowered) repair.lowered × HasTrueFlags (tables_in header reftable new) new
true-repaired header reftable old new repair is =
    let flags = flags-repaired header reftable old new is repair in
    (flags.cleared_true, flags.raised_true, flags.lowered_true, true-where_right (tables_in header reftable new) new flags.new_right)
