-- Which edits of L2 tables can't be made of an image, and what do they do to references?
use Rattle.qcow2_apply.specs.PlannedChanges.{AreSorted, SomeIsUncounted}
use Rattle.std.specs.Option.{option_or}
use Rattle.std.specs.Prelude.{◌≡◌, ◌⊎◌, ℕ, Bool, true, false, not, ◌==◌, ◌&&◌, ◌<◌, List, length, slice_get, slice_index, IsSome, is_some, if◌then◌else◌, Option, Some, None, option_map, Ok, Err}
use Rattle.std.specs.List.{list_any, position, range_with_len, sum_by}
use Rattle.qcow2_base.specs.Storage.{Image}
use Rattle.qcow2_base.specs.declared.fault.Fault.{Fault}
use Rattle.qcow2_base.specs.declared.fault.Fault.TheVariants.{BadEdit, NotPlaced, Shared}
use Rattle.qcow2_base.specs.declared.types.HostCluster.{HostCluster}
use Rattle.qcow2_metadata.specs.Entries.{is_copied}
use Rattle.qcow2_metadata.specs.Header.{HeaderRecord, geometry_of, uses_external_data}
use Rattle.qcow2_metadata.specs.Placed.{numbers_at}
use Rattle.qcow2_metadata.specs.Table.{TableState, first_fault, l2_layout, loaded_l2_table}
use Rattle.qcow2_metadata.specs.Table.L2Guards.{RunEnd, handed_back, times_gained}
use Rattle.qcow2_check.specs.Counters.{CountersState, block_of_cluster, counter_of, counters_each}
use Rattle.qcow2_check.specs.NamedTables.{named_cluster}
use Rattle.qcow2_check.specs.Uses.{ImageTables, image_tables}
use Rattle.qcow2_apply.specs.CounterTables.{CounterTablesState}
use Rattle.qcow2_apply.specs.Changes.{AddsChanges, gains_of, losses_of}
use Rattle.qcow2_apply.specs.EditsByTable.{IsByTable}
use Rattle.qcow2_apply.specs.GuestEdits.{edits_in, has_clusters_in}
use Rattle.qcow2_apply.specs.NeededTables.{are_more_needed, is_table_needed}
use Rattle.qcow2_apply.specs.MappedClusters.{HoldsMappings, times_mapped}
use Rattle.qcow2_apply.specs.Tables.{AllFit, run_in}
use Rattle.qcow2_apply.specs.declared.changes.Changes.{Changes}
use Rattle.qcow2_apply.specs.declared.edits_by_table.EditsByTable.{EditsByTable}
use Rattle.qcow2_apply.specs.declared.planned_changes.PlannedChanges.{PlannedChanges}
use Rattle.qcow2_apply.specs.declared.planned_tables.Sources.{Sources}
use Rattle.qcow2_apply.specs.declared.guest_edits.GuestEdit.{GuestEdit}
use Rattle.qcow2_apply.specs.declared.guest_edits.GuestEdit.TheVariants.{Discard, Map, Zero}

-- whether an L2 table belongs to the image alone: its L1 entry says so, and its counter
abbrev pub is_alone : ImageTables → Image → ℕ → HostCluster → Bool
is_alone tables image index table =
    is_copied (slice_index tables.l1 index) && counter_of tables.header tables.reftable image table.0 == 1

-- why the table that begins with a cluster can't be edited, unless it is alone: by the first edit that would
abbrev pub alone_fault : ImageTables → List GuestEdit → Image → ℕ → HostCluster → Option Fault
alone_fault tables edits image index table = if is_alone tables image index table then None
    else option_map Shared (position (has_clusters_in tables.header.v2.cluster_bits index) edits)

-- why the edit at a position can't map its host cluster: it has no counter, or it isn't free, or another edit maps it too
abbrev pub mapping_fault : ImageTables → List GuestEdit → Image → ℕ → GuestEdit → Option Fault
mapping_fault tables edits image at (Map offset host_cluster) =
    if not (is_some (block_of_cluster tables.header tables.reftable host_cluster.0)) then Some NotPlaced
    else if counter_of tables.header tables.reftable image host_cluster.0 == 0 && times_mapped edits host_cluster.0 == 1 then None
    else Some (BadEdit at)
mapping_fault tables edits image at (Zero offset length keep_allocation) = None
mapping_fault tables edits image at (Discard offset length) = None

-- the same of the edit at a position, where it has clusters of a table
abbrev pub mapping_fault_in : ImageTables → List GuestEdit → Image → ℕ → ℕ → Option Fault
mapping_fault_in tables edits image index at = elim (slice_get edits at) [
  | None ↦ None
  | Some edit ↦ if has_clusters_in tables.header.v2.cluster_bits index edit then mapping_fault tables edits image at edit else None
]

-- why edits can't map host clusters in a table, by the first that can't
abbrev pub mappings_fault : ImageTables → List GuestEdit → Image → ℕ → Option Fault
mappings_fault tables edits image index = first_fault (mapping_fault_in tables edits image index) (range_with_len 0 (length edits))

-- why a table can't be loaded
abbrev pub load_fault : HeaderRecord → Image → HostCluster → Option Fault
load_fault header image table = elim (loaded_l2_table (geometry_of header) table image) [
  | Ok numbers ↦ None
  | Err fault ↦ Some fault
]

-- why edits can't be made of the L2 table that begins with a cluster, which the L1 entry at an index names
abbrev pub named_table_refusal : ImageTables → List GuestEdit → Image → ℕ → HostCluster → Option Fault
named_table_refusal tables edits image index table = option_or (alone_fault tables edits image index table)
    (option_or (load_fault tables.header image table) (mappings_fault tables edits image index))

-- why they can't be made of the L2 table of the L1 entry at an index
abbrev pub table_refusal : ImageTables → List GuestEdit → Image → ℕ → Option Fault
table_refusal tables edits image index = let cb = tables.header.v2.cluster_bits in
    if list_any (has_clusters_in cb index) edits
    then elim (named_cluster cb (slice_index tables.l1 index)) [
      | None ↦ if is_table_needed cb edits index then Some NotPlaced else None
      | Some table ↦ named_table_refusal tables edits image index table
    ]
    else None

-- why they can't be made of all: by the first table in the order of the L1 table, and then since there are more than it has
abbrev pub tables_refusal : ImageTables → List GuestEdit → Image → Option Fault
tables_refusal tables edits image = option_or
    (first_fault (table_refusal tables edits image) (range_with_len 0 (length tables.l1)))
    (if are_more_needed tables.header.v2.cluster_bits edits (length tables.l1) then Some NotPlaced else None)

-- what edits leave of the L2 table of the L1 entry at an index, and of references, if there is one
abbrev pub run_at : ImageTables → List GuestEdit → Image → ℕ → Option RunEnd
run_at tables edits image index = let cb = tables.header.v2.cluster_bits in
    option_map (λ table. run_in tables.header (edits_in cb index edits) (numbers_at (l2_layout (geometry_of tables.header)) table image))
    (named_cluster cb (slice_index tables.l1 index))

-- how often cluster c gains a reference by that, and how often it loses one
abbrev pub run_gains : Option RunEnd → ℕ → ℕ
run_gains None c = 0
run_gains (Some run) c = times_gained run.gained c

abbrev pub run_losses : Option RunEnd → ℕ → ℕ
run_losses None c = 0
run_losses (Some run) c = handed_back run.freed c

-- the same of the table of the L1 entry at an index
abbrev pub gained_at : ImageTables → List GuestEdit → Image → ℕ → ℕ → ℕ
gained_at tables edits image c index = run_gains (run_at tables edits image index) c

abbrev pub lost_at : ImageTables → List GuestEdit → Image → ℕ → ℕ → ℕ
lost_at tables edits image c index = run_losses (run_at tables edits image index) c

-- how often cluster c gains a reference by edits of the L2 tables before an index, and how often it loses one
abbrev pub gained_before : ImageTables → List GuestEdit → Image → ℕ → ℕ → ℕ
gained_before tables edits image end c = sum_by (gained_at tables edits image c) (range_with_len 0 end)

abbrev pub lost_before : ImageTables → List GuestEdit → Image → ℕ → ℕ → ℕ
lost_before tables edits image end c = sum_by (lost_at tables edits image c) (range_with_len 0 end)

-- the tables that say where counters are
abbrev pub counter_tables : ImageTables → CounterTablesState
counter_tables tables = record { header = tables.header; reftable = tables.reftable }

-- what edits of the L2 table at an index do was added, unless a cluster without a counter lost a reference by it or before
pub record AddsTable (tables : ImageTables) (edits : List GuestEdit) (image : Image) (index : ℕ) (old new : PlannedChanges) : Type 0 where
  pub counted : new.are_counted ≡ true → old.are_counted ≡ true
  pub gains : new.are_counted ≡ true → AddsChanges (λ c. gained_at tables edits image c index) (λ c. 0) old.gains new.gains
  pub losses : new.are_counted ≡ true → AddsChanges (λ c. 0) (λ c. lost_at tables edits image c index) old.losses new.losses
  pub counters : new.are_counted ≡ true → (c : ℕ) → 0 < lost_at tables edits image c index →
      IsSome (block_of_cluster tables.header tables.reftable c)
  pub uncounted : new.are_counted ≡ false → (old.are_counted ≡ false)
      ⊎ SomeIsUncounted tables.header tables.reftable (λ c. lost_at tables edits image c index)

-- changes are what edits of the L2 tables before an index do: gains have what is gained, and losses what is lost
pub record ComesTo (tables : ImageTables) (edits : List GuestEdit) (image : Image) (end : ℕ) (gains losses : Changes) : Type 0 where
  pub gained_is : (c : ℕ) → gains_of gains c ≡ gained_before tables edits image end c
  pub lost_is : (c : ℕ) → losses_of losses c ≡ lost_before tables edits image end c

-- all that edits of the L2 tables before an index do is planned, or a cluster without a counter loses a reference by them
pub record IsPlanned (tables : ImageTables) (edits : List GuestEdit) (image : Image) (end : ℕ) (planned : PlannedChanges) : Type 0 where
  pub counted : planned.are_counted ≡ true → ComesTo tables edits image end planned.gains planned.losses
  pub counters : planned.are_counted ≡ true → (c : ℕ) → 0 < lost_before tables edits image end c →
      IsSome (block_of_cluster tables.header tables.reftable c)
  pub uncounted : planned.are_counted ≡ false → SomeIsUncounted tables.header tables.reftable (lost_before tables edits image end)

-- edits are known by the tables of an image, and what they do to counters by its blocks
pub record AreKnown (header : HeaderRecord) (l1 : List ℕ) (edits : List GuestEdit) (kept : EditsByTable) (planned : PlannedChanges) : Type 0 where
  pub by_table : IsByTable header l1 edits kept
  pub sorted : AreSorted (counters_each header) planned.gains planned.losses

-- the tables that edits are planned by
abbrev pub planning_tables : Sources → CountersState → ImageTables
planning_tables sources counters = image_tables sources.header.now sources.l1_table.now.numbers counters.reftable

-- an L1 table and a reader of counters are those of an image with this header
pub record AreReadBy (header : HeaderRecord) (l1_table : TableState) (counters : CountersState) : Type 0 where
  pub reader : counters.header ≡ header
  pub geometry : l1_table.geometry ≡ geometry_of header
  pub count : length l1_table.numbers ≡ header.v2.l1_size

-- edits are planned by the tables of one image, all fit it, and their mappings are known
pub record AreSources (sources : Sources) (counters : CountersState) : Type 0 where
  pub tables : AreReadBy sources.header.now sources.l1_table.now counters
  pub no_data_file : uses_external_data sources.header.now ≡ false
  pub fit : AllFit sources.header.now sources.edits.now
  pub by_table : IsByTable sources.header.now sources.l1_table.now.numbers sources.edits.now sources.by_table
  pub mapped : HoldsMappings sources.edits.now sources.mapped
