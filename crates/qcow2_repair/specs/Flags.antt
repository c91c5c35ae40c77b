-- What does a pass of a repair over copied flags change?
use Rattle.std.specs.Prelude.{◌≡◌, ◌≢◌, ◌⊎◌, ℕ, Bool, true, false, not, ◌==◌, ◌&&◌, ◌+◌, ◌/◌, ◌^◌, ◌<◌, ◌≤◌, nat_le, nat_lt, if◌then◌else◌, List, map, length, slice_index, Option, Some, None, option_map}
use Rattle.qcow2_base.specs.Storage.{Image, OnImage, SameOutside, StorageState}
use Rattle.qcow2_base.specs.declared.fault.Fault.{Fault}
use Rattle.qcow2_base.specs.declared.types.HostCluster.{HostCluster}
use Rattle.qcow2_metadata.specs.Entries.{with_copied}
use Rattle.qcow2_metadata.specs.Header.{HeaderRecord, geometry_of}
use Rattle.qcow2_metadata.specs.Placed.{numbers_at, offset_of}
use Rattle.qcow2_metadata.specs.Table.{TableState, l2_layout}
use Rattle.qcow2_check.specs.Counters.{block_of_cluster}
use Rattle.qcow2_check.specs.Flags.{flagged_cluster}
use Rattle.qcow2_check.specs.NamedTables.{l1_cluster, l1_layout, named_cluster}
use Rattle.qcow2_check.specs.Tally.{TallyState, cell_at}
use Rattle.qcow2_check.specs.Uses.{ImageTables, image_uses, uses_of}
use Rattle.qcow2_check.specs.Failures.{TearsAtMost}

-- a pass over flags: the image's header and refcount table, the uses of clusters as far as they are known, and the flag that the
-- pass gives to entries that it is due to
pub record FlagPassState : Type 0 where
  pub header : HeaderRecord
  pub reftable : List ℕ
  pub uses : ℕ → Option ℕ
  pub flag : Bool

-- the uses of the clusters of a tally that has counted them
abbrev pub tally_uses : TallyState → ℕ → Option ℕ
tally_uses tally c = if nat_le tally.first c && nat_lt c tally.end then Some (cell_at tally c / 8) else None

-- a pass by the uses that a tally has counted
pub record TallyPass : Type 0 where
  pub header : HeaderRecord
  pub reftable : List ℕ
  pub tally : TallyState
  pub flag : Bool

abbrev pub pass_by : TallyPass → FlagPassState
pass_by pass = record { header = pass.header; reftable = pass.reftable; uses = tally_uses pass.tally; flag = pass.flag }

-- the flag that is due to an entry which names a cluster: whether the cluster has one use. None is due where no block counts the
-- cluster, or its uses aren't known
abbrev pub due_flag : FlagPassState → HostCluster → Option Bool
due_flag pass cluster = elim (block_of_cluster pass.header pass.reftable cluster.0) [
  | None ↦ None
  | Some block ↦ option_map (λ n. n == 1) (pass.uses cluster.0)
]

-- the flag that is due to an L1 entry
abbrev pub l1_due : FlagPassState → ℕ → Option Bool
l1_due pass v = elim (named_cluster pass.header.v2.cluster_bits v) [
  | None ↦ None
  | Some cluster ↦ due_flag pass cluster
]

-- the flag that is due to an L2 entry. In an external data file each cluster of guest data has one use
abbrev pub l2_due : FlagPassState → ℕ → Option Bool
l2_due pass v = let g = geometry_of pass.header in elim (flagged_cluster g v) [
  | None ↦ None
  | Some cluster ↦ if g.external_data_file then Some true else due_flag pass cluster
]

-- an entry after a pass that gives it this flag, if it is due
abbrev pub with_due : Bool → Option Bool → ℕ → ℕ
with_due flag None v = v
with_due flag (Some due) v = if (if flag then due else not due) then with_copied flag v else v

-- an L1 entry after a pass, and an L2 entry
abbrev pub passed_l1 : FlagPassState → ℕ → ℕ
passed_l1 pass v = with_due pass.flag (l1_due pass v) v

abbrev pub passed_l2 : FlagPassState → ℕ → ℕ
passed_l2 pass v = with_due pass.flag (l2_due pass v) v

-- the L1 table in an image with this header, and the L2 table that begins with a cluster
abbrev pub l1_in : HeaderRecord → Image → List ℕ
l1_in header image = numbers_at (l1_layout header) (l1_cluster header) image

abbrev pub l2_in : HeaderRecord → HostCluster → Image → List ℕ
l2_in header table image = numbers_at (l2_layout (geometry_of header)) table image

-- an entry of an L1 table names the L2 table that begins with a cluster
abbrev pub NamesTable : HeaderRecord → List ℕ → HostCluster → Type 0
NamesTable header l1 table = (k : ℕ) × (named_cluster header.v2.cluster_bits (slice_index l1 k) ≡ Some table)

-- the byte at an offset is in no L2 table
abbrev pub IsOutsideL2Tables : HeaderRecord → List ℕ → ℕ → Type 0
IsOutsideL2Tables header l1 o = (table : HostCluster) → NamesTable header l1 table → o / 2 ^ header.v2.cluster_bits ≢ table.0

-- nor in the L1 table
pub record IsOutsideTables (header : HeaderRecord) (l1 : List ℕ) (o : ℕ) : Type 0 where
  pub l1_table : (o < offset_of (l1_layout header) (l1_cluster header))
      ⊎ (offset_of (l1_layout header) (l1_cluster header) + (l1_layout header).byte_count ≤ o)
  pub l2_tables : IsOutsideL2Tables header l1 o

-- a pass over the flags of the L2 tables: no byte outside them changes
pub record PassesL2 (pass : FlagPassState) (l1 : List ℕ) (old new : Image) : Type 0 where
  pub tables : (table : HostCluster) → NamesTable pass.header l1 table →
      l2_in pass.header table new ≡ map (passed_l2 pass) (l2_in pass.header table old)
  pub others : (o : ℕ) → IsOutsideL2Tables pass.header l1 o → new o ≡ old o

-- a part of it: each table is the old one or that after the pass
pub record PassesSomeL2 (pass : FlagPassState) (l1 : List ℕ) (old new : Image) : Type 0 where
  pub tables : (table : HostCluster) → NamesTable pass.header l1 table →
      (l2_in pass.header table new ≡ l2_in pass.header table old)
      ⊎ (l2_in pass.header table new ≡ map (passed_l2 pass) (l2_in pass.header table old))
  pub others : (o : ℕ) → IsOutsideL2Tables pass.header l1 o → new o ≡ old o

-- a write of an L2 table that an L1 table names was torn: no byte outside it changed
abbrev pub TearsL2 : HeaderRecord → List ℕ → Image → Image → Type 0
TearsL2 header l1 old new = let layout = l2_layout (geometry_of header) in (table : HostCluster) × NamesTable header l1 table
    × SameOutside (offset_of layout table) layout.byte_count old new

-- a pass over the flags of the L2 tables ended in this fault before its time: a part of it was done, and after that one write was
-- torn at most
abbrev pub BreaksOffL2 : FlagPassState → List ℕ → Fault → Image → Image → Type 0
BreaksOffL2 pass l1 fault old new =
    (mid : Image) × PassesSomeL2 pass l1 old mid × TearsAtMost fault (TearsL2 pass.header l1) mid new

-- each number of a table is the old one, or what a pass makes of that
pub record IsBetween (passed : ℕ → ℕ) (old new : List ℕ) : Type 0 where
  pub count : length new ≡ length old
  pub each : (k : ℕ) → (slice_index new k ≡ slice_index old k) ⊎ (slice_index new k ≡ passed (slice_index old k))

-- a pass over all flags: no byte outside the L1 table and the L2 tables changes
pub record PassesFlags (pass : FlagPassState) (old new : Image) : Type 0 where
  pub l1_table : l1_in pass.header new ≡ map (passed_l1 pass) (l1_in pass.header old)
  pub l2_tables : (table : HostCluster) → NamesTable pass.header (l1_in pass.header old) table →
      l2_in pass.header table new ≡ map (passed_l2 pass) (l2_in pass.header table old)
  pub others : (o : ℕ) → IsOutsideTables pass.header (l1_in pass.header old) o → new o ≡ old o

-- a part of a pass over all flags: each entry is the old one or that after the pass
pub record PassesSomeFlags (pass : FlagPassState) (old new : Image) : Type 0 where
  pub l1_table : IsBetween (passed_l1 pass) (l1_in pass.header old) (l1_in pass.header new)
  pub l2_tables : (table : HostCluster) → NamesTable pass.header (l1_in pass.header old) table →
      IsBetween (passed_l2 pass) (l2_in pass.header table old) (l2_in pass.header table new)
  pub others : (o : ℕ) → IsOutsideTables pass.header (l1_in pass.header old) o → new o ≡ old o

-- a write of the L1 table was torn, or of an L2 table that it names
abbrev pub TearsTable : HeaderRecord → List ℕ → Image → Image → Type 0
TearsTable header l1 old new = let layout = l1_layout header in
    SameOutside (offset_of layout (l1_cluster header)) layout.byte_count old new ⊎ TearsL2 header l1 old new

-- a pass over all flags ended in this fault before its time: a part of it was done, and after that one write was torn at most
abbrev pub BreaksOffFlags : FlagPassState → Fault → Image → Image → Type 0
BreaksOffFlags pass fault old new = (mid : Image) × PassesSomeFlags pass old mid
    × TearsAtMost fault (TearsTable pass.header (l1_in pass.header old)) mid new

-- the uses of the clusters from one to before another alone
abbrev pub uses_between : (ℕ → ℕ) → ℕ → ℕ → ℕ → Option ℕ
uses_between uses from to c = if nat_le from c && nat_lt c to then Some (uses c) else None

-- the pass over the flags of entries whose clusters are from one to before another, and that over all
abbrev pub pass_between : ImageTables → Image → Bool → ℕ → ℕ → FlagPassState
pass_between tables image flag from to = record {
  header = tables.header;
  reftable = tables.reftable;
  uses = uses_between (λ c. uses_of (image_uses tables image) c) from to;
  flag = flag;
}

abbrev pub pass_all : ImageTables → Image → Bool → FlagPassState
pass_all tables image flag = record {
  header = tables.header;
  reftable = tables.reftable;
  uses = λ c. Some (uses_of (image_uses tables image) c);
  flag = flag;
}

-- a table in memory is the L1 table of an image with this header, as it was loaded or written
pub record IsL1TableOf (header : HeaderRecord) (image : StorageState) (table : TableState) : Type 0 where
  pub numbers : OnImage image (λ bytes. table.numbers ≡ l1_in header bytes)
  pub count : length table.numbers ≡ header.v2.l1_size
  pub cluster : table.cluster ≡ Some (l1_cluster header)
  pub unmodified : table.modified ≡ false
  pub geometry : table.geometry ≡ geometry_of header
