-- Which L2 tables do an image's L1 entries name, one after another?
use Rattle.std.specs.Prelude.{◌≡◌, ◌⊎◌, ℕ, ◌+◌, ◌<◌, ◌≤◌, List, [], ◌∷◌, ◌++◌, drop, false, length, slice_index, Option, Some, None, option_map, option_to_list, Result, Ok, Err, IfErr, IfOk, MatchOption}
use Rattle.qcow2_base.specs.Format.{most_l1_entries}
use Rattle.qcow2_base.specs.Storage.{Image}
use Rattle.qcow2_base.specs.declared.fault.Fault.{Fault}
use Rattle.qcow2_base.specs.declared.fault.Fault.TheVariants.{NoMemory, Storage}
use Rattle.qcow2_base.specs.declared.types.HostCluster.{HostCluster}
use Rattle.qcow2_metadata.specs.Header.{Geometry, HeaderRecord, geometry_of}
use Rattle.qcow2_metadata.specs.Table.{TableState, l2_entries, loaded_l2_table}
use Rattle.qcow2_check.specs.NamedTables.{named_cluster}

-- L2 tables one after another: the index of the L1 entry that names each, and its numbers or why it can't be loaded
abbrev pub NamedTables : Type 0
NamedTables = List (ℕ × Result (List ℕ) Fault)

-- the L2 tables that L1 entries name, from an index on
abbrev pub named_tables : Geometry → ℕ → List ℕ → Image → NamedTables
named_tables g index [] image = []
named_tables g index (v ∷ vs) image =
    option_to_list (option_map (λ cluster. (index, loaded_l2_table g cluster image)) (named_cluster g.cluster_bits v))
    ++ named_tables g (index + 1) vs image

-- what a walk over L2 tables has: the image's header and L1 table, and the index of the L1 entry that it has come to
pub record WalkState : Type 0 where
  pub header : HeaderRecord
  pub l1 : List ℕ
  pub index : ℕ

-- the L2 tables that a walk comes to yet
abbrev pub tables_left : WalkState → Image → NamedTables
tables_left walk image = named_tables (geometry_of walk.header) walk.index (drop walk.index walk.l1) image

-- a table is one of a walk, with the index of its L1 entry: it begins with the cluster that the entry names, and wasn't
-- changed since it was loaded
pub record IsTableOf (walk : WalkState) (found : ℕ × TableState) : Type 0 where
  pub index : found.0 < most_l1_entries
  pub cluster : found.1.cluster ≡ named_cluster walk.header.v2.cluster_bits (slice_index walk.l1 found.0)
  pub unmodified : found.1.modified ≡ false
  pub geometry : found.1.geometry ≡ geometry_of walk.header
  pub entries : length found.1.numbers ≡ l2_entries walk.header.v2.cluster_bits

-- there is a table, and the first one can't be loaded, for this fault
abbrev pub RefusesTable : NamedTables → Fault → Type 0
RefusesTable [] fault = ⊥
RefusesTable (table ∷ tables) fault = (fault ≡ Storage) ⊎ (fault ≡ NoMemory) ⊎ (table.1 ≡ Err fault)

-- what a walk returns, by the tables that are left before and after: the first of them, or why it can't be loaded
abbrev pub TellsTable : NamedTables → NamedTables → Result (Option (ℕ × TableState)) Fault → Type 0
TellsTable before after (Ok None) = before ≡ []
TellsTable before after (Ok (Some found)) = before ≡ (found.0, Ok found.1.numbers) ∷ after
TellsTable before after (Err fault) = RefusesTable before fault

-- an L1 entry of a walk, by its index, names the L2 table at a cluster
pub record IsPlaceOf (walk : WalkState) (found : ℕ × HostCluster) : Type 0 where
  pub index : found.0 < most_l1_entries
  pub cluster : Some found.1 ≡ named_cluster walk.header.v2.cluster_bits (slice_index walk.l1 found.0)

-- what a walk passes: none at its end, else the first of the tables that were left, which begins with this cluster
abbrev pub PassesTable : WalkState → WalkState → Option (ℕ × HostCluster) → Type 0
PassesTable old new None = (image : Image) → tables_left old image ≡ []
PassesTable old new (Some found) = (image : Image) →
    tables_left old image ≡ (found.0, loaded_l2_table (geometry_of old.header) found.1 image) ∷ tables_left new image

-- how far a walk goes by an answer: just past the table that it finds. At the end and after a fault it is where it was
pub record GoesOn {T : Type 0} (answer : Result (Option (ℕ × T)) Fault) (old new : WalkState) : Type 0 where
  pub same : new ≡ record old { index = new.index }
  pub within : new.index ≤ length old.l1
  pub further : IfOk answer (λ next. MatchOption next (new ≡ old) (λ found. (old.index ≤ found.0) × (new.index ≡ found.0 + 1)))
  pub stays : IfErr answer (λ fault. new ≡ old)
