-- In which runs are the clusters of an image?
use Rattle.std.specs.Prelude.{◌≡◌, ◌≢◌, ℕ, ◌+◌, ◌-◌, ◌*◌, ◌^◌, ◌<◌, ◌≤◌, List, [], ◌∷◌, Option, Some, None, Result, Ok, Err, IfSome}
use Rattle.qcow2_base.specs.Storage.{Image, OnImage, StorageState}
use Rattle.qcow2_base.specs.declared.fault.Fault.{Fault}
use Rattle.qcow2_metadata.specs.Header.{HeaderRecord, geometry_of}
use Rattle.qcow2_check.specs.Counters.{CountersState, IsKeptBlockOf}
use Rattle.qcow2_summary.specs.ImageEnd.{most_clusters}
use Rattle.qcow2_check.specs.Tally.{TallyState}
use Rattle.qcow2_check.specs.Uses.{ImageTables, all_load}
use Rattle.qcow2_layout.specs.Parts.{taken_end, part_at}
use Rattle.qcow2_layout.specs.Window.{PlacesAll}
use Rattle.qcow2_layout.specs.declared.parts.Part.{Part}
use Rattle.qcow2_layout.specs.declared.parts.Part.TheVariants.{Data}
use Rattle.qcow2_layout.specs.declared.parts.Run.{Run}

-- what each cluster is
abbrev pub Parts : Type 0
Parts = ℕ → Part

-- what a cluster is that lies that many bytes after one of this part, where it goes on from there: guest data comes from as
-- many bytes further on in the guest's disk, and other parts stay
abbrev pub moved_part : ℕ → Part → Part
moved_part bytes (Data offset) = Data (record { 0 = offset.0 + bytes })
moved_part bytes part = part

-- that many clusters of 2 ^ cb bytes from one on are one: the first has this part, each later one as it moved on so far
abbrev pub AreOne : ℕ → Parts → ℕ → ℕ → Part → Type 0
AreOne cb parts from count part = (k : ℕ) → k < count → parts (from + k) ≡ moved_part (k * 2 ^ cb) part

-- a run of an image that ends before a cluster: it has clusters from one on, which are one. It ends with the image, or the next
-- cluster doesn't go on from them
pub record IsRun (cb : ℕ) (parts : Parts) (end from : ℕ) (run : Run) : Type 0 where
  pub first : run.first.0 ≡ from
  pub some : 0 < run.count
  pub within : from + run.count ≤ end
  pub one : AreOne cb parts from run.count run.part
  pub ends : from + run.count < end → parts (from + run.count) ≢ moved_part (run.count * 2 ^ cb) run.part

-- runs of an image that ends before a cluster, one after another, from one cluster on up to another
abbrev pub AreRunsTo : ℕ → Parts → ℕ → ℕ → List Run → ℕ → Type 0
AreRunsTo cb parts end from [] to = from ≡ to
AreRunsTo cb parts end from (run ∷ runs) to = IsRun cb parts end from run × AreRunsTo cb parts end (from + run.count) runs to

-- the same, up to the image's end
abbrev pub AreRuns : ℕ → Parts → ℕ → ℕ → List Run → Type 0
AreRuns cb parts end from runs = AreRunsTo cb parts end from runs end

-- a part and an end: the clusters from one on up to there, one at least, are one, the first of this part
abbrev pub IsStretch : ℕ → Parts → ℕ → Part × ℕ → Type 0
IsStretch cb parts from piece = (from < piece.1) × AreOne cb parts from (piece.1 - from) piece.0

-- the same, and the clusters end by a limit, or the next doesn't go on from them
abbrev pub IsWholeRun : ℕ → Parts → ℕ → ℕ → Part × ℕ → Type 0
IsWholeRun cb parts limit from piece = IsStretch cb parts from piece
    × (piece.1 < limit → parts piece.1 ≢ moved_part ((piece.1 - from) * 2 ^ cb) piece.0)

-- what a reader of a layout has: the image's header, its L1 table and its counters, what the clusters of a part of the image
-- are by their uses, where that was looked at, and the cluster that it has come to
pub record LayoutState : Type 0 where
  pub header : HeaderRecord
  pub l1 : List ℕ
  pub counters : CountersState
  pub window : Option TallyState
  pub position : ℕ

-- the tables of the image that a reader reads
abbrev pub layout_tables : LayoutState → ImageTables
layout_tables reader = record { header = reader.header; l1 = reader.l1; reftable = reader.counters.reftable }

-- what each cluster of an image is that a reader reads
abbrev pub parts_for : LayoutState → Image → Parts
parts_for reader image = part_at (layout_tables reader) image

-- a reader reads this image: what it keeps of it is the same as there, and all L2 tables can be loaded
pub record IsLayoutOf (image : Image) (reader : LayoutState) : Type 0 where
  pub kept : IsKeptBlockOf reader.header image reader.counters.block
  pub placed : IfSome reader.window (PlacesAll (layout_tables reader) image)
  pub loads : all_load (geometry_of reader.header) reader.l1 image ≡ Ok (tt {0})

-- a reader stays as it is, but for the cluster that it has come to, the block that it keeps and the clusters that it has looked at
pub record MovesLayout (image : StorageState) (old new : LayoutState) : Type 0 where
  pub same : new ≡ record old {
    counters = record old.counters { block = new.counters.block };
    window = new.window;
    position = new.position;
  }
  pub kept : OnImage image (λ bytes. IsLayoutOf bytes new)

-- what a reader returns, and the cluster that it comes to: the run at its cluster, which it passes, or nothing where the image
-- ends there or before. After a fault it stays
abbrev pub PassesRun : StorageState → LayoutState → Result (Option Run) Fault → ℕ → Type 0
PassesRun image reader (Ok None) to = (reader.position ≤ to) × (to ≡ most_clusters reader.header)
    × OnImage image (λ bytes. taken_end (layout_tables reader) bytes ≤ reader.position)
PassesRun image reader (Ok (Some run)) to = (run.first.0 ≡ reader.position) × (0 < run.count)
    × (to ≡ reader.position + run.count) × (to ≤ most_clusters reader.header)
    × OnImage image (λ bytes. IsRun reader.header.v2.cluster_bits (parts_for reader bytes)
    (taken_end (layout_tables reader) bytes) reader.position run)
PassesRun image reader (Err fault) to = to ≡ reader.position
