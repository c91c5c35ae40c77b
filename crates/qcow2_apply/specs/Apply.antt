-- What do edits of a disk leave of an image, with its tables and counters, and what is left where they break off?
use Rattle.std.specs.Prelude.{◌≡◌, ◌≢◌, ◌⊎◌, ◌<◌, ◌≤◌, ◌+◌, ℕ, List, Some, None, Result, IfErr, IfOk, IsErr, IsOk, MatchResult}
use Rattle.qcow2_base.specs.Storage.{Image, SameOutside, be}
use Rattle.qcow2_base.specs.declared.fault.Fault.{Fault}
use Rattle.qcow2_base.specs.declared.fault.Fault.TheVariants.{NoMemory, Storage}
use Rattle.qcow2_base.specs.declared.types.HostCluster.{HostCluster}
use Rattle.qcow2_check.specs.Uses.{ImageTables, image_tables, image_uses, uses_of}
use Rattle.qcow2_metadata.specs.Header.{HeaderRecord}
use Rattle.qcow2_apply.specs.Blocks.{FollowsChanges, StopsFollowing, blocks}
use Rattle.qcow2_apply.specs.CounterTables.{HasCounter, counter_of_cluster}
use Rattle.qcow2_apply.specs.Passes.{ArePlacesApart, IsOutside, PassBreaksOff, Passes, Places, TearsOne}
use Rattle.qcow2_metadata.specs.Results.{IsFromOutside, result_map}
use Rattle.qcow2_apply.specs.Plan.{IsPlanFor, IsPlanOf, RefusesEdits}
use Rattle.qcow2_metadata.specs.Header.Open.{without_autoclear}
use Rattle.qcow2_metadata.specs.Header.Pointers.{HasNameElsewhere}
use Rattle.qcow2_metadata.specs.Refblock.{block_geometry_of}
use Rattle.qcow2_apply.specs.PlannedChanges.{CannotCount}
use Rattle.qcow2_apply.specs.PlannedTables.{counter_tables, tables_refusal}
use Rattle.qcow2_apply.specs.declared.plan.Plan.{Plan}
use Rattle.qcow2_apply.specs.Tables.{IsEdited, IsL2TableOf, l2_tables}
use Rattle.qcow2_apply.specs.declared.apply.Workspace.{Workspace}
use Rattle.qcow2_apply.specs.declared.changed_clusters.ChangedClusters.{ChangedClusters}
use Rattle.qcow2_apply.specs.declared.changes.Changes.{Changes}
use Rattle.qcow2_apply.specs.declared.guest_edits.GuestEdit.{GuestEdit}

-- the L2 tables and the refcount blocks of an image with these tables
abbrev pub l2_tables_of : ImageTables → Places
l2_tables_of tables = l2_tables tables.header tables.l1

abbrev pub refblocks_of : ImageTables → Places
refblocks_of tables = blocks (counter_tables tables)

-- no cluster is that of two L2 tables, of two refcount blocks, or of one of both, and none is the header's
pub record AreAllApart (tables : ImageTables) : Type 0 where
  pub tables_apart : ArePlacesApart (l2_tables_of tables)
  pub blocks_apart : ArePlacesApart (refblocks_of tables)
  pub tables_after : (i : ℕ) (cluster : HostCluster) → (l2_tables_of tables).place i ≡ Some cluster → 0 < cluster.0
  pub blocks_after : (i : ℕ) (cluster : HostCluster) → (refblocks_of tables).place i ≡ Some cluster → 0 < cluster.0
  pub both_apart : (i j : ℕ) (cluster : HostCluster) → (l2_tables_of tables).place i ≡ Some cluster → (refblocks_of tables).place j ≢ Some cluster

-- the byte at an offset is in no L2 table and in no refcount block
abbrev pub IsElsewhere : ImageTables → ℕ → Type 0
IsElsewhere tables o = IsOutside (l2_tables_of tables) o × IsOutside (refblocks_of tables) o

-- edits of a disk were made: counters followed what clusters gain, then the tables were edited, then counters followed what
-- clusters lose
pub record Applies (tables : ImageTables) (edits : List GuestEdit) (gains losses : Changes) (old new : Image) : Type 0 where
  pub gained : Image
  pub edited : Image
  pub gains_counted : FollowsChanges (counter_tables tables) gains old gained
  pub tables_edited : Passes (l2_tables_of tables) (IsEdited tables.header edits) gained edited
  pub losses_counted : FollowsChanges (counter_tables tables) losses edited new

-- this ended in a fault before its time, in one of the three parts, with those before it done
pub data BreaksOffApplying (tables : ImageTables) (edits : List GuestEdit) (gains losses : Changes) (fault : Fault) (old new : Image) : Type 0 where
  InGains : StopsFollowing (counter_tables tables) gains fault old new → BreaksOffApplying tables edits gains losses fault old new
  InTables : (gained : Image) → FollowsChanges (counter_tables tables) gains old gained
      → PassBreaksOff (l2_tables_of tables) (IsEdited tables.header edits) fault gained new
      → BreaksOffApplying tables edits gains losses fault old new
  InLosses : (gained edited : Image) → FollowsChanges (counter_tables tables) gains old gained
      → Passes (l2_tables_of tables) (IsEdited tables.header edits) gained edited
      → StopsFollowing (counter_tables tables) losses fault edited new → BreaksOffApplying tables edits gains losses fault old new

-- edits can be made of all tables, and counters can count what they do
pub record CanBeMade (tables : ImageTables) (edits : List GuestEdit) (gains losses : Changes) (image : Image) : Type 0 where
  pub tables_allow : tables_refusal tables edits image ≡ None
  pub counters_count : (c : ℕ) → CannotCount (counter_tables tables) gains losses image c → ⊥

-- the tables of a plan, in an image with this header
abbrev pub tables_by : HeaderRecord → Plan → ImageTables
tables_by header plan = image_tables header plan.l1_table.numbers plan.reftable.numbers

-- those that edits are made by: with the header as it is left
abbrev pub plan_tables : HeaderRecord → Plan → ImageTables
plan_tables header plan = tables_by (without_autoclear header) plan

-- the table and the block of a workspace are of an image with this header
pub record IsWorkspaceOf (header : HeaderRecord) (workspace : Workspace) : Type 0 where
  pub table : IsL2TableOf header workspace.table
  pub block : workspace.block.geometry ≡ block_geometry_of header

-- edits of a disk were made by a plan, which ended in this answer: autoclear features are cleared by their field alone, then the
-- edits are made. Where tables and blocks are apart, only the storage can end this before its time, and memory never does
pub record FollowsPlan (header : HeaderRecord) (edits : List GuestEdit) (plan : Plan) (answer : Result (Unit {0}) Fault) (old new : Image) : Type 0 where
  pub cleared : Image
  pub clears : SameOutside 88 8 old cleared
  pub idle : header.base.autoclear_features ≡ 0 → cleared ≡ old
  pub wiped : header.base.autoclear_features ≢ 0 → IsOk answer → be cleared 88 8 ≡ 0
  pub ends : AreAllApart (plan_tables header plan) → MatchResult answer
      (λ _. Applies (plan_tables header plan) edits plan.gains plan.losses cleared new)
      (λ fault. BreaksOffApplying (plan_tables header plan) edits plan.gains plan.losses fault cleared new)
  pub others : (o : ℕ) → IsElsewhere (plan_tables header plan) o → new o ≡ cleared o
  pub faults : AreAllApart (plan_tables header plan) → IfErr answer (λ fault. fault ≡ Storage)
  pub memory : IfErr answer (λ fault. fault ≢ NoMemory)

-- clearing the autoclear features of a header, if it has any, changes no byte of the backing file's name
abbrev pub LosesNoName : HeaderRecord → Type 0
LosesNoName header = (header.base.autoclear_features ≡ 0) ⊎ HasNameElsewhere header

-- edits of a disk that ended in this answer left this header: one without autoclear features, or after a fault the one that was
abbrev pub LeavesHeader : {T : Type 0} → HeaderRecord → Result T Fault → HeaderRecord → Type 0
LeavesHeader header answer left =
    MatchResult answer (λ _. left ≡ without_autoclear header) (λ _. (left ≡ header) ⊎ (left ≡ without_autoclear header))

-- edits of a disk ended in this answer, and left this header: they were refused, and nothing changed, or they were planned and made,
-- and what becomes of clusters is what the plan says
pub data EditsDisk (header left : HeaderRecord) (edits : List GuestEdit) (answer : Result ChangedClusters Fault) (old new : Image) : Type 0 where
  Refuses : IfErr answer (λ fault. IsFromOutside fault ⊎ RefusesEdits header edits old fault) → IsErr answer → left ≡ header → new ≡ old
      → EditsDisk header left edits answer old new
  Makes : (plan : Plan) → IsPlanFor header edits plan → IsPlanOf header edits old plan
      → FollowsPlan header edits plan (result_map (λ _. tt) answer) old new → IfOk answer (λ clusters. clusters ≡ plan.clusters)
      → LeavesHeader header answer left → EditsDisk header left edits answer old new

-- one write was torn, of a table or of a block
abbrev pub TearsTableOrBlock : ImageTables → Image → Image → Type 0
TearsTableOrBlock tables old new = TearsOne (l2_tables_of tables) old new ⊎ TearsOne (refblocks_of tables) old new

-- counters keep at least their distance from the uses: what was counted besides these, as references of snapshots, is so still
abbrev pub KeepDistance : ImageTables → Image → Image → Type 0
KeepDistance tables old new = (c : ℕ) → HasCounter (counter_tables tables) c →
    counter_of_cluster (counter_tables tables) old c + uses_of (image_uses tables new) c
    ≤ counter_of_cluster (counter_tables tables) new c + uses_of (image_uses tables old) c
