-- What does a repair leave wrong, and what stays right while it lasts?
use Rattle.std.specs.Prelude.{◌≡◌, ◌≢◌, ◌⊎◌, ℕ, true, false, ◌<◌, ◌≤◌, List, slice_index, Some, None, IsSome}
use Rattle.std.specs.List.{All}
use Rattle.qcow2_base.specs.Format.{max_file_length}
use Rattle.qcow2_base.specs.Storage.{Image}
use Rattle.qcow2_base.specs.declared.types.HostCluster.{HostCluster}
use Rattle.qcow2_metadata.specs.Entries.{is_copied}
use Rattle.qcow2_metadata.specs.Header.{HeaderRecord, geometry_of}
use Rattle.qcow2_check.specs.Counters.{block_of_cluster}
use Rattle.qcow2_check.specs.Findings.{image_findings}
use Rattle.qcow2_check.specs.Flags.{flagged_cluster, image_flags}
use Rattle.qcow2_check.specs.NamedTables.{named_cluster}
use Rattle.qcow2_check.specs.Uses.{ImageTables}
use Rattle.qcow2_check.specs.declared.findings.Finding.{Finding}
use Rattle.qcow2_check.specs.declared.flags.WrongFlag.{WrongFlag}
use Rattle.qcow2_repair.specs.Repair.{Clears, Lowers, Raises, image_uses_of, tables_in}
use Rattle.qcow2_repair.specs.Counters.{IsEitherCounter, IsOutsideBlocks, counter_in}
use Rattle.qcow2_repair.specs.Flags.{NamesTable, PassesSomeFlags, l2_in, pass_all}
use Rattle.qcow2_repair.specs.declared.counters.CounterPass.{CounterPass}
use Rattle.qcow2_repair.specs.declared.counters.CounterPass.TheVariants.{Fall, Rise}

-- a block counts cluster c
abbrev pub IsCounted : ImageTables → ℕ → Type 0
IsCounted tables c = IsSome (block_of_cluster tables.header tables.reftable c)

-- each cluster that is used is counted
abbrev pub CountsUsed : ImageTables → Image → Type 0
CountsUsed tables image = (c : ℕ) → c < max_file_length → 0 < image_uses_of tables image c → IsCounted tables c

-- a finding that a repair leaves: its cluster is used, by uses that don't exclude each other, and no block counts it
pub record IsLeftFinding (tables : ImageTables) (finding : Finding) : Type 0 where
  pub uncounted : block_of_cluster tables.header tables.reftable finding.cluster.0 ≡ None
  pub counter : finding.counter ≡ 0
  pub used : 0 < finding.uses
  pub apart : finding.shared ≡ false

-- a wrong flag that a repair leaves: it is set, though no block counts its cluster, which is used. The cluster has a counter, so it is
-- none of an external data file
pub record IsLeftFlag (tables : ImageTables) (image : Image) (flag : WrongFlag) : Type 0 where
  pub uncounted : block_of_cluster tables.header tables.reftable flag.cluster.0 ≡ None
  pub counter : flag.counter ≡ Some 0
  pub is_set : flag.is_set ≡ true
  pub used : 0 < image_uses_of tables image flag.cluster.0

-- all is right where blocks count: there each counter is the number of its cluster's uses, and what is wrong with a cluster or a
-- flag is so where no block counts
pub record IsRightWhereCounted (tables : ImageTables) (image : Image) : Type 0 where
  pub counters : (c : ℕ) → c < max_file_length → IsCounted tables c → counter_in tables image c ≡ image_uses_of tables image c
  pub findings : All (IsLeftFinding tables) (image_findings tables image)
  pub flags : All (IsLeftFlag tables image) (image_flags tables image)

-- a flag that is set for a cluster says truly that it has one use, where a block counts it
abbrev pub IsTrueFlag : ImageTables → Image → HostCluster → ℕ → Type 0
IsTrueFlag tables image cluster v = IsCounted tables cluster.0 → is_copied v ≡ true → image_uses_of tables image cluster.0 ≡ 1

-- all flags of counted clusters that are set are true: those of L1 entries, and those of L2 entries of guest data in the image
pub record HasTrueFlags (tables : ImageTables) (image : Image) : Type 0 where
  pub l1_entries : (k : ℕ) (cluster : HostCluster) → let v = slice_index tables.l1 k in
      named_cluster tables.header.v2.cluster_bits v ≡ Some cluster → IsTrueFlag tables image cluster v
  pub l2_entries : (table : HostCluster) (k : ℕ) (cluster : HostCluster) → NamesTable tables.header tables.l1 table →
      let v = slice_index (l2_in tables.header table image) k in let g = geometry_of tables.header in
      g.external_data_file ≡ false → flagged_cluster g v ≡ Some cluster → IsTrueFlag tables image cluster v

-- the counter of cluster c is at least the number of its uses
abbrev pub IsHighEnough : HeaderRecord → List ℕ → ℕ → Image → Type 0
IsHighEnough header reftable c image = let tables = tables_in header reftable image in
    image_uses_of tables image c ≤ counter_in tables image c

-- no counter that was high enough is too low
abbrev pub MakesNoneTooLow : HeaderRecord → List ℕ → Image → Image → Type 0
MakesNoneTooLow header reftable old new = (c : ℕ) → c < max_file_length → IsHighEnough header reftable c old →
    IsHighEnough header reftable c new

-- none is, but of clusters that one block counts
abbrev pub MakesNoneTooLowBeside : HeaderRecord → List ℕ → HostCluster → Image → Image → Type 0
MakesNoneTooLowBeside header reftable block old new = (c : ℕ) → c < max_file_length →
    block_of_cluster header reftable c ≢ Some block → IsHighEnough header reftable c old → IsHighEnough header reftable c new

-- a part of a pass over counters left the counter of cluster c whole: it is the old one or that after the pass. No byte outside
-- the refcount blocks changed
abbrev pub LeavesCounterWhole : ImageTables → CounterPass → ℕ → Image → Image → Type 0
LeavesCounterWhole tables pass c old new = IsEitherCounter tables pass c old new
    × ((o : ℕ) → IsOutsideBlocks tables o → new o ≡ old o)

-- a part of a repair left the counter of cluster c and all entries of tables whole: each is the old one or that after the step
abbrev pub LeavesWhole : HeaderRecord → List ℕ → ℕ → Image → Image → Type 0
LeavesWhole header reftable c old new =
    PassesSomeFlags (pass_all (tables_in header reftable old) old false) old new
    ⊎ ((cleared : Image) × Clears header reftable old cleared
    × LeavesCounterWhole (tables_in header reftable cleared) Rise c cleared new)
    ⊎ ((cleared : Image) × (raised : Image) × Clears header reftable old cleared × Raises header reftable cleared raised
    × LeavesCounterWhole (tables_in header reftable raised) Fall c raised new)
    ⊎ ((cleared : Image) × (raised : Image) × (lowered : Image) × Clears header reftable old cleared × Raises header reftable cleared raised
    × Lowers header reftable raised lowered
    × PassesSomeFlags (pass_all (tables_in header reftable lowered) lowered true) lowered new)
