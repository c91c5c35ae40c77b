-- What is left of an image's L2 tables, and of references, by edits of its disk?
use Rattle.std.specs.Prelude.{◌≡◌, ◌≢◌, ◌⊎◌, ℕ, List, [], length, map, slice_index, Some, None, Result, Ok, Err, IfErr, OnOk, ◌<◌, true, false}
use Rattle.std.specs.List.{All}
use Rattle.qcow2_base.specs.Storage.{Image, OnImage, StorageState}
use Rattle.qcow2_base.specs.declared.fault.Fault.{Fault}
use Rattle.qcow2_base.specs.declared.fault.Fault.TheVariants.{Storage}
use Rattle.qcow2_base.specs.declared.types.HostCluster.{HostCluster}
use Rattle.qcow2_edits.specs.Edits.{cluster_numbers, table_edit}
use Rattle.qcow2_edits.specs.declared.edits.Edit.{Edit}
use Rattle.qcow2_edits.specs.declared.edits.Outcome.{Outcome}
use Rattle.qcow2_metadata.specs.Header.{HeaderRecord, geometry_of}
use Rattle.qcow2_metadata.specs.Placed.{numbers_at, place_fault}
use Rattle.qcow2_metadata.specs.Table.{IsEntryFault, TableState, l2_entries, l2_layout, loaded_l2_table}
use Rattle.qcow2_metadata.specs.Table.L2Guards.{RunEnd, fits_table, run_of}
use Rattle.qcow2_check.specs.NamedTables.{named_cluster}
use Rattle.qcow2_apply.specs.GuestEdits.{edits_in, first_unfit_of}
use Rattle.qcow2_apply.specs.Passes.{ArePlacesApart, Places}
use Rattle.qcow2_apply.specs.declared.guest_edits.GuestEdit.{GuestEdit}

-- the L2 tables that an L1 table names
abbrev pub l2_tables : HeaderRecord → List ℕ → Places
l2_tables header l1 = record {
  cluster_bits = header.v2.cluster_bits;
  place = λ index. named_cluster header.v2.cluster_bits (slice_index l1 index);
  numbers = λ table image. numbers_at (l2_layout (geometry_of header)) table image;
}

-- all edits can be made of a disk of this header
abbrev pub AllFit : HeaderRecord → List GuestEdit → Type 0
AllFit header edits = first_unfit_of header edits ≡ None

-- what edits of a table leave of its numbers and of references
abbrev pub run_in : HeaderRecord → List Edit → List ℕ → RunEnd
run_in header edits numbers = run_of (geometry_of header) (map table_edit edits) numbers

-- edits of a table with these numbers left this table, which has them still unless it counts as modified, and came to this outcome
pub record MakesRun (header : HeaderRecord) (edits : List Edit) (before : List ℕ) (table : TableState) (outcome : Outcome) : Type 0 where
  pub numbers : table.numbers ≡ (run_in header edits before).numbers
  pub freed : outcome.freed.items ≡ (run_in header edits before).freed
  pub gained : cluster_numbers outcome.gained.items ≡ (run_in header edits before).gained
  pub idle : table.modified ≡ false → table.numbers ≡ before

-- edits of a table with these numbers come to this outcome
pub record ComesToOutcome (header : HeaderRecord) (edits : List Edit) (before : List ℕ) (outcome : Outcome) : Type 0 where
  pub freed : outcome.freed.items ≡ (run_in header edits before).freed
  pub gained : cluster_numbers outcome.gained.items ≡ (run_in header edits before).gained

-- a table in memory is of an image with this header
pub record IsL2TableOf (header : HeaderRecord) (table : TableState) : Type 0 where
  pub geometry : table.geometry ≡ geometry_of header
  pub count : length table.numbers ≡ l2_entries header.v2.cluster_bits

-- a table in memory has the numbers that edits left, and is as it was unless it counts as modified
pub record IsLeftBy (header : HeaderRecord) (edits : List Edit) (old new : TableState) : Type 0 where
  pub numbers : new.numbers ≡ (run_in header edits old.numbers).numbers
  pub same : new ≡ record old { numbers = new.numbers; modified = new.modified }
  pub flag : (new ≡ old) ⊎ (new.modified ≡ true)

-- the edits of a disk were made of the L2 table of the L1 entry at an index
abbrev pub IsEdited : HeaderRecord → List GuestEdit → ℕ → List ℕ → List ℕ → Type 0
IsEdited header edits index old new = new ≡ (run_in header (edits_in header.v2.cluster_bits index edits) old).numbers

-- the L2 table of the L1 entry at an index, which edits of a disk change, can't be loaded, by this fault
abbrev pub FailsAt : HeaderRecord → List ℕ → List GuestEdit → ℕ → Fault → Image → Type 0
FailsAt header l1 edits index fault image = (cluster : HostCluster)
    × (named_cluster header.v2.cluster_bits (slice_index l1 index) ≡ Some cluster) × (edits_in header.v2.cluster_bits index edits ≢ [])
    × (loaded_l2_table (geometry_of header) cluster image ≡ Err fault)

-- the faults of a table that is read over another, at a place in the image: that of an entry, or the storage failed
abbrev pub IsRereadFault : Fault → Type 0
IsRereadFault fault = IsEntryFault fault ⊎ (fault ≡ Storage)

-- the edits of such a table ended in this answer: the table could be loaded, or it says why not
pub record LoadsAt (header : HeaderRecord) (l1 : List ℕ) (edits : List GuestEdit) (index : ℕ) (answer : Result (Unit {0}) Fault) (image : StorageState) : Type 0 where
  pub loads : OnOk answer (OnImage image (λ bytes. (fault : Fault) → FailsAt header l1 edits index fault bytes → ⊥))
  pub fault : IfErr answer (λ fault. IsRereadFault fault × OnImage image (λ bytes. (fault ≡ Storage) ⊎ FailsAt header l1 edits index fault bytes))

-- no such table before an index fails
abbrev pub NoneFailsBefore : HeaderRecord → List ℕ → List GuestEdit → ℕ → Image → Type 0
NoneFailsBefore header l1 edits index image = (i : ℕ) (fault : Fault) → i < index → FailsAt header l1 edits i fault image → ⊥

-- the first such table that can't be loaded fails by this fault
abbrev pub FirstFails : HeaderRecord → List ℕ → List GuestEdit → Fault → Image → Type 0
FirstFails header l1 edits fault image = (index : ℕ) × FailsAt header l1 edits index fault image × NoneFailsBefore header l1 edits index image

-- the edits of all tables ended in this answer: each that edits change could be loaded, or it says why the first of these
-- couldn't, where no two L1 entries name one
pub record LoadAll (header : HeaderRecord) (l1 : List ℕ) (edits : List GuestEdit) (answer : Result (Unit {0}) Fault) (image : StorageState) : Type 0 where
  pub loads : OnOk answer (ArePlacesApart (l2_tables header l1) → OnImage image (NoneFailsBefore header l1 edits (length l1)))
  pub fault : IfErr answer (λ fault. IsRereadFault fault × (ArePlacesApart (l2_tables header l1) → OnImage image (λ bytes.
      (fault ≡ Storage) ⊎ FirstFails header l1 edits fault bytes)))

-- all edits can be made of an L2 table of an image with this header
abbrev pub AreMade : HeaderRecord → List Edit → Type 0
AreMade header edits = All (λ edit. fits_table (geometry_of header) (l2_entries header.v2.cluster_bits) (table_edit edit) ≡ true) edits

-- a table in memory is that of a cluster of an image with this header
pub record IsHeldTable (header : HeaderRecord) (begin : HostCluster) (table : TableState) : Type 0 where
  pub count : length table.numbers ≡ l2_entries header.v2.cluster_bits
  pub cluster : table.cluster ≡ Some begin
  pub geometry : table.geometry ≡ geometry_of header
  pub placed : place_fault (l2_layout (geometry_of header)) begin ≡ None

-- edits were made of the L2 table that begins with a cluster, which could be loaded
pub record EditsTable (header : HeaderRecord) (edits : List Edit) (begin : HostCluster) (old new : Image) : Type 0 where
  pub loads : loaded_l2_table (geometry_of header) begin old ≡ Ok (numbers_at (l2_layout (geometry_of header)) begin old)
  pub numbers : numbers_at (l2_layout (geometry_of header)) begin new ≡ (run_in header edits (numbers_at (l2_layout (geometry_of header)) begin old)).numbers
