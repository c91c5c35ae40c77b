use Rattle.std.proofs.Common.{IsTrue, ◌≡◌, ◌⊎◌, ℕ, true, false, ◌<◌, List, length, IsSome, Ok, Err, ap, subst, sym, ◌∙◌, inl, inr}
use Rattle.qcow2_base.specs.Storage.{Image, OnImage, StorageState}
use Rattle.qcow2_base.specs.declared.fault.Fault.{Fault}
use Rattle.qcow2_base.specs.declared.fault.Fault.TheVariants.{CounterRange, NoMemory, Storage}
use Rattle.qcow2_metadata.specs.Header.{HeaderRecord}
use Rattle.qcow2_metadata.specs.Results.{IsFromOutside, and_then, unless_refused}
use Rattle.qcow2_metadata.specs.Table.{TableState}
use Rattle.qcow2_check.specs.Counters.{block_of_cluster, placed_reftable}
use Rattle.qcow2_check.specs.NamedTables.{loaded_l1_table}
use Rattle.qcow2_check.specs.Uses.{image_tables}
use Rattle.qcow2_apply.proofs.PlannedTablesLemmas.{unless-none, unless-some}
use Rattle.qcow2_apply.specs.ChangedClusters.{ListsChanges}
use Rattle.qcow2_apply.specs.Plan.{AreRead, ByCounters, ByTables, Counter, IsPlanOf, NoCounter, RefusesEdits, planned_tables}
use Rattle.qcow2_apply.specs.GuestEdits.{edits_refusal}
use Rattle.qcow2_apply.specs.PlannedChanges.{CannotCount, SomeIsUncounted}
use Rattle.qcow2_apply.specs.PlannedTables.{ComesTo, IsPlanned, lost_before, tables_refusal}
use Rattle.qcow2_apply.specs.declared.changed_clusters.ChangedClusters.{ChangedClusters}
use Rattle.qcow2_apply.specs.declared.edits_by_table.EditsByTable.{EditsByTable}
use Rattle.qcow2_apply.specs.declared.guest_edits.GuestEdit.{GuestEdit}
use Rattle.qcow2_apply.specs.declared.planned_changes.PlannedChanges.{PlannedChanges}

-- then those decide
planned-then : (header : HeaderRecord) (edits : List GuestEdit) (image : Image) (l1 reftable : List ℕ) → AreRead header edits image l1 reftable
    → planned_tables header edits image
    ≡ unless_refused (tables_refusal (image_tables header l1 reftable) edits image) (Ok (image_tables header l1 reftable))
planned-then header edits image l1 reftable read =
    let last = λ (l1 : List ℕ) (reftable : List ℕ).
    unless_refused (tables_refusal (image_tables header l1 reftable) edits image) (Ok (image_tables header l1 reftable)) in
    ap (λ found. unless_refused found (and_then (loaded_l1_table header image) (λ l1. and_then (placed_reftable header image) (last l1))))
    (unless-none (edits_refusal header edits) read.edits_fit)
    ∙ ap (λ found. and_then found (λ l1. and_then (placed_reftable header image) (last l1))) read.l1_is
    ∙ ap (λ found. and_then found (last l1)) read.reftable_is

-- the tables are planned by where they allow the edits
pub planned-is : (header : HeaderRecord) (edits : List GuestEdit) (image : Image) (l1 reftable : List ℕ) → AreRead header edits image l1 reftable
    → unless_refused (tables_refusal (image_tables header l1 reftable) edits image) (Ok (tt {0})) ≡ Ok tt
    → planned_tables header edits image ≡ Ok (image_tables header l1 reftable)
planned-is header edits image l1 reftable read allows = planned-then header edits image l1 reftable read
    ∙ ap (λ found. unless_refused found (Ok (image_tables header l1 reftable))) (unless-none (tables_refusal (image_tables header l1 reftable) edits image) allows)

-- or they refuse them
pub planned-refused : (header : HeaderRecord) (edits : List GuestEdit) (image : Image) (l1 reftable : List ℕ) (fault : Fault)
    → AreRead header edits image l1 reftable
    → (fault ≡ Storage) ⊎ (fault ≡ NoMemory) ⊎ (unless_refused (tables_refusal (image_tables header l1 reftable) edits image) (Ok (tt {0})) ≡ Err fault)
    → IsFromOutside fault ⊎ RefusesEdits header edits image fault
planned-refused header edits image l1 reftable fault read (inl failed) = inl (inr failed)
planned-refused header edits image l1 reftable fault read (inr (inl memory)) = inl (inl memory)
planned-refused header edits image l1 reftable fault read (inr (inr refused)) = inr (ByTables
    (planned-then header edits image l1 reftable read
    ∙ ap (λ found. unless_refused found (Ok (image_tables header l1 reftable))) (unless-some (tables_refusal (image_tables header l1 reftable) edits image) fault refused)))

-- counters can't count what is planned
pub counters-refuse : (header : HeaderRecord) (edits : List GuestEdit) (image : Image) (l1 reftable : List ℕ) (end : ℕ) (planned : PlannedChanges) (fault : Fault)
    → planned_tables header edits image ≡ Ok (image_tables header l1 reftable) → length l1 ≡ end
    → IsPlanned (image_tables header l1 reftable) edits image end planned
    → IsFromOutside fault ⊎ ((fault ≡ CounterRange) × ((planned.are_counted ≡ false) ⊎ ((planned.are_counted ≡ true)
    × (c : ℕ) × CannotCount (record { header = header; reftable = reftable }) planned.gains planned.losses image c)))
    → IsFromOutside fault ⊎ RefusesEdits header edits image fault
counters-refuse header edits image l1 reftable end planned fault is count plans (inl outside) = inl outside
counters-refuse header edits image l1 reftable end planned fault is count plans (inr (range, inl uncounted)) =
    let tables = image_tables header l1 reftable in
    inr (ByCounters tables is range (NoCounter
    (subst (λ n. SomeIsUncounted header reftable (lost_before tables edits image n)) (sym count) (plans.uncounted uncounted))))
counters-refuse header edits image l1 reftable end planned fault is count plans (inr (range, inr (counted, c, cannot))) =
    let tables = image_tables header l1 reftable in
    inr (ByCounters tables is range (Counter planned.gains planned.losses
    (subst (λ n. ComesTo tables edits image n planned.gains planned.losses) (sym count) (plans.counted counted)) c cannot))

-- all is planned
pub is-plan : (header : HeaderRecord) (edits : List GuestEdit) (image : Image) (l1_table : TableState) (by_table : EditsByTable) (table : TableState) (reftable : List ℕ) (end : ℕ)
    (planned : PlannedChanges)
    → table.numbers ≡ reftable → planned_tables header edits image ≡ Ok (image_tables header l1_table.numbers reftable) → length l1_table.numbers ≡ end
    → IsPlanned (image_tables header l1_table.numbers reftable) edits image end planned → planned.are_counted ≡ true
    → ((c : ℕ) → CannotCount (record { header = header; reftable = table.numbers }) planned.gains planned.losses image c → ⊥)
    → (clusters : ChangedClusters) → ListsChanges (record { header = header; reftable = table.numbers }) planned.gains planned.losses image clusters
    → IsPlanOf header edits image (record { l1_table = l1_table; by_table = by_table; reftable = table; gains = planned.gains; losses = planned.losses; clusters = clusters })
is-plan header edits image l1_table by_table table reftable end planned same is count plans counted counts clusters lists =
    let numbers = sym same in
    let tables = image_tables header l1_table.numbers reftable in
    let comes : ComesTo tables edits image (length l1_table.numbers) planned.gains planned.losses =
    subst (λ n. ComesTo tables edits image n planned.gains planned.losses) (sym count) (plans.counted counted) in
    record {
      tables = subst (λ r. planned_tables header edits image ≡ Ok (image_tables header l1_table.numbers r)) numbers is;
      changes = subst (λ r. ComesTo (image_tables header l1_table.numbers r) edits image (length l1_table.numbers) planned.gains planned.losses) numbers comes;
      counters = λ c some. subst (λ r. IsSome (block_of_cluster header r c)) numbers
          (plans.counters counted c (subst (λ n. 0 < n) (comes.lost_is c ∙ ap (λ n. lost_before tables edits image n c) count) some));
      count = counts;
      listed = lists;
    }

-- counters that can't count are those of the image, by the refcount table that was read
pub counts-at : (header : HeaderRecord) (planned : PlannedChanges) (fault : Fault) (numbers reftable : List ℕ) (state : StorageState) (image : Image)
    → numbers ≡ reftable → state.byte_at ≡ image → IsTrue state.tells
    → IsFromOutside fault ⊎ ((fault ≡ CounterRange) × ((planned.are_counted ≡ false) ⊎ ((planned.are_counted ≡ true) × OnImage state (λ bytes.
    (c : ℕ) × CannotCount (record { header = header; reftable = numbers }) planned.gains planned.losses bytes c))))
    → IsFromOutside fault ⊎ ((fault ≡ CounterRange) × ((planned.are_counted ≡ false) ⊎ ((planned.are_counted ≡ true)
    × (c : ℕ) × CannotCount (record { header = header; reftable = reftable }) planned.gains planned.losses image c)))
counts-at header planned fault numbers reftable state image same bytes told (inl outside) = inl outside
counts-at header planned fault numbers reftable state image same bytes told (inr (range, inl uncounted)) = inr (range, inl uncounted)
counts-at header planned fault numbers reftable state image same bytes told (inr (range, inr (counted, cannot))) =
    let found = cannot told in
    let there = subst (λ there. CannotCount (record { header = header; reftable = numbers }) planned.gains planned.losses there found.0) bytes found.1 in
    inr (range, inr (counted, found.0, subst (λ r. CannotCount (record { header = header; reftable = r }) planned.gains planned.losses image found.0) same there))
