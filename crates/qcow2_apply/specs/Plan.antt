-- What will edits of a disk do to an image, and when can't they be made of it?
use Rattle.qcow2_apply.specs.PlannedChanges.{SomeIsUncounted, AreSorted, CannotCount}
use Rattle.qcow2_apply.specs.PlannedTables.{AreReadBy, tables_refusal, lost_before, counter_tables, ComesTo}
use Rattle.std.specs.Prelude.{◌≡◌, ℕ, false, ◌<◌, List, length, IsSome, None, Result, Ok, Err}
use Rattle.qcow2_base.specs.Storage.{Image}
use Rattle.qcow2_base.specs.declared.fault.Fault.{Fault}
use Rattle.qcow2_base.specs.declared.fault.Fault.TheVariants.{CounterRange}
use Rattle.qcow2_metadata.specs.Header.{HeaderRecord, geometry_of, uses_external_data}
use Rattle.qcow2_metadata.specs.Results.{and_then, unless_refused}
use Rattle.qcow2_metadata.specs.Table.{TableState}
use Rattle.qcow2_check.specs.Counters.{CountersState, block_of_cluster, blocks_fault, counters_each, placed_reftable}
use Rattle.qcow2_check.specs.FileEnd.{tables_in_file}
use Rattle.qcow2_check.specs.NamedTables.{loaded_l1_table}
use Rattle.qcow2_check.specs.Uses.{ImageTables, image_tables}
use Rattle.qcow2_apply.specs.ChangedClusters.{ListsChanges}
use Rattle.qcow2_apply.specs.Changes.{losses_of}
use Rattle.qcow2_apply.specs.EditsByTable.{IsByTable}
use Rattle.qcow2_apply.specs.GuestEdits.{edits_refusal}
use Rattle.qcow2_apply.specs.Tables.{AllFit}
use Rattle.qcow2_apply.specs.declared.changes.Changes.{Changes}
use Rattle.qcow2_apply.specs.declared.plan.Plan.{Plan}
use Rattle.qcow2_apply.specs.declared.guest_edits.GuestEdit.{GuestEdit}

-- why edits can't be made of an image with this header and of this length, if they can't: they can't be made of any disk of
-- this header, or a table or block lies past the end
abbrev pub edits_within : HeaderRecord → List GuestEdit → ℕ → Image → Result (Unit {0}) Fault
edits_within header edits len image = unless_refused (edits_refusal header edits) (tables_in_file len header image)

-- the tables that edits are made by, or the first refusal but for counters that can't follow
abbrev pub planned_tables : HeaderRecord → List GuestEdit → Image → Result ImageTables Fault
planned_tables header edits image = unless_refused (edits_refusal header edits)
    (and_then (loaded_l1_table header image) (λ l1. and_then (placed_reftable header image) (λ reftable.
    let tables = image_tables header l1 reftable in unless_refused (tables_refusal tables edits image) (Ok tables))))

-- edits can be made of some disk of this header, and these are the entries of the image's L1 table and of its refcount table
pub record AreRead (header : HeaderRecord) (edits : List GuestEdit) (image : Image) (l1 reftable : List ℕ) : Type 0 where
  pub edits_fit : unless_refused (edits_refusal header edits) (Ok (tt {0})) ≡ Ok tt
  pub l1_is : loaded_l1_table header image ≡ Ok l1
  pub reftable_is : placed_reftable header image ≡ Ok reftable

-- edits can be planned by an L1 table and a reader of counters, which keeps no block yet
pub record CanBePlannedBy (header : HeaderRecord) (edits : List GuestEdit) (l1_table : TableState) (counters : CountersState) : Type 0 where
  pub no_data_file : uses_external_data header ≡ false
  pub fit : AllFit header edits
  pub tables : AreReadBy header l1_table counters
  pub unkept : counters.block ≡ None

-- counters can't count what edits do: one can't, or a cluster that loses a reference has none
pub data SomeCannotCount (tables : ImageTables) (edits : List GuestEdit) (image : Image) : Type 0 where
  Counter : (gains losses : Changes) → ComesTo tables edits image (length tables.l1) gains losses
      → (c : ℕ) → CannotCount (counter_tables tables) gains losses image c → SomeCannotCount tables edits image
  NoCounter : SomeIsUncounted tables.header tables.reftable (lost_before tables edits image (length tables.l1))
      → SomeCannotCount tables edits image

-- edits of a disk are refused by this fault: by the image's end, by one of the tables, or because counters can't count what they do
pub data RefusesEdits (header : HeaderRecord) (edits : List GuestEdit) (image : Image) (fault : Fault) : Type 0 where
  ByEnd : (len : ℕ) → edits_within header edits len image ≡ Err fault → RefusesEdits header edits image fault
  ByTables : planned_tables header edits image ≡ Err fault → RefusesEdits header edits image fault
  ByCounters : (tables : ImageTables) → planned_tables header edits image ≡ Ok tables → fault ≡ CounterRange
      → SomeCannotCount tables edits image → RefusesEdits header edits image fault

-- all that edits of a disk do to an image is known, and can be done: its tables, all changes of its counters, which these
-- can count, and what becomes of clusters
pub record IsPlanOf (header : HeaderRecord) (edits : List GuestEdit) (image : Image) (plan : Plan) : Type 0 where
  pub tables : planned_tables header edits image ≡ Ok (image_tables header plan.l1_table.numbers plan.reftable.numbers)
  pub changes : ComesTo (image_tables header plan.l1_table.numbers plan.reftable.numbers) edits image (length plan.l1_table.numbers)
      plan.gains plan.losses
  pub counters : (c : ℕ) → 0 < losses_of plan.losses c → IsSome (block_of_cluster header plan.reftable.numbers c)
  pub count : (c : ℕ) → CannotCount (record { header = header; reftable = plan.reftable.numbers }) plan.gains plan.losses image c → ⊥
  pub listed : ListsChanges (record { header = header; reftable = plan.reftable.numbers }) plan.gains plan.losses image plan.clusters

-- a plan is one of an image with this header
pub record IsPlanFor (header : HeaderRecord) (edits : List GuestEdit) (plan : Plan) : Type 0 where
  pub no_data_file : uses_external_data header ≡ false
  pub fit : AllFit header edits
  pub l1_table : plan.l1_table.geometry ≡ geometry_of header
  pub l1_count : length plan.l1_table.numbers ≡ header.v2.l1_size
  pub by_table : IsByTable header plan.l1_table.numbers edits plan.by_table
  pub reftable : plan.reftable.geometry ≡ geometry_of header
  pub blocks : blocks_fault header plan.reftable.numbers ≡ None
  pub changes : AreSorted (counters_each header) plan.gains plan.losses
