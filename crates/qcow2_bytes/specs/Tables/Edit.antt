-- What do edits leave of the bytes of an L2 table, and what do they do to references?
use Rattle.std.specs.Prelude.{◌≡◌, ◌⊎◌, ℕ, Bool, true, false, not, ◌&&◌, ◌||◌, ◌==◌, ◌-◌, ◌/◌, ◌%◌, ◌^◌, nat_le, List, [], ◌∷◌, length, map, Option, Some, None, if◌then◌else◌, Result, Ok, Err}
use Rattle.std.specs.List.{list_any}
use Rattle.qcow2_base.specs.Storage.{image_of}
use Rattle.qcow2_base.specs.declared.fault.Fault.{Fault}
use Rattle.qcow2_base.specs.declared.fault.Fault.TheVariants.{Marked, NoMemory, VersionNeeded, WrongLength}
use Rattle.qcow2_edits.specs.Edits.{edits_or_refusal}
use Rattle.qcow2_edits.specs.declared.edits.Edit.{Edit}
use Rattle.qcow2_edits.specs.declared.edits.Edit.TheVariants.{Discard, Map, Zero}
use Rattle.qcow2_metadata.specs.Header.{Geometry}
use Rattle.qcow2_metadata.specs.Placed.{new_placed}
use Rattle.qcow2_metadata.specs.Results.{after_conditions, and_then}
use Rattle.qcow2_metadata.specs.Table.{TableState, l2_entries, table_numbers}
use Rattle.qcow2_metadata.specs.Table.L2Guards.{RunEnd}
use Rattle.qcow2_metadata.specs.declared.entries.ClustersToFreeEntry.{ClustersToFreeEntry}
use Rattle.qcow2_bytes.specs.Entries.{IsFirstBad}
use Rattle.qcow2_bytes.specs.Header.{geometry_in}
use Rattle.qcow2_bytes.specs.Images.Extents.{IsPutOver}
use Rattle.qcow2_bytes.specs.declared.entries.BadEntry.{BadEntry}
use Rattle.qcow2_bytes.specs.declared.header.HeaderFields.{HeaderFields}
use Rattle.qcow2_bytes.specs.declared.refcounts.settled.HostClusters.{HostClusters}
use Rattle.qcow2_bytes.specs.declared.tables.edit.EditCounts.{EditCounts}
use Rattle.qcow2_bytes.specs.declared.tables.edit.EditFields.{EditFields}
use Rattle.qcow2_bytes.specs.declared.tables.edit.EditRefusal.{EditRefusal}
use Rattle.qcow2_bytes.specs.declared.tables.edit.EditRefusal.TheVariants as why

-- the edit that fields say, in an image with clusters of 2 ^ cb bytes. Where they say none, it is one of an entry past the end
-- of every table
abbrev pub edit_said : ℕ → EditFields → Edit
edit_said cb fields =
    if fields.kind == 1 && (fields.host_offset % 2 ^ cb == 0) then Map fields.index (record { 0 = fields.host_offset / 2 ^ cb })
    else if fields.kind == 2 then Zero fields.index false
    else if fields.kind == 3 then Zero fields.index true
    else if fields.kind == 4 then Discard fields.index
    else Discard (2 ^ 64 - 1)

-- whether these fields say zeros
abbrev pub says_zeros : EditFields → Bool
says_zeros fields = fields.kind == 2 || fields.kind == 3

-- whether these fields mark their image dirty or corrupt, by bits 0 and 1
abbrev pub is_marked_in : HeaderFields → Bool
is_marked_in fields = not (fields.incompatible_features % 4 == 0)

-- what the bytes of a table are edited by: the geometry of a header's fields, or why they aren't edited
abbrev pub edit_geometry : HeaderFields → List EditFields → List ℕ → Result Geometry Fault
edit_geometry fields edits bytes =
    after_conditions ((nat_le 3 fields.version || not (list_any says_zeros edits), VersionNeeded) ∷ []) (λ _.
    and_then (geometry_in fields) (λ g. after_conditions (
    (not (is_marked_in fields), Marked)
    ∷ (length bytes == 2 ^ g.cluster_bits, WrongLength)
    ∷ []) (λ _. Ok g)))

-- the L2 table that has these bytes
abbrev pub table_of_bytes : Geometry → List ℕ → TableState
table_of_bytes g bytes = new_placed (table_numbers (image_of bytes) 0 (l2_entries g.cluster_bits)) g

-- what edits leave of the table that has these bytes, or the refusal of the first that can't be made
abbrev pub run_of_bytes : Geometry → List EditFields → List ℕ → Result RunEnd Fault
run_of_bytes g edits bytes = edits_or_refusal (table_of_bytes g bytes) (map (edit_said g.cluster_bits) edits)

-- what a call that makes edits may change: the bytes of a table, and the lists of clusters that lose and that gain references
pub record EditPlaces : Type 0 where
  pub bytes : List ℕ
  pub freed : List HostClusters
  pub gained : List ℕ

-- clusters that are handed back, in plain numbers
abbrev pub host_clusters : ClustersToFreeEntry → HostClusters
host_clusters clusters = record { first = clusters.first.0; count = clusters.count.0 }

-- how long the lists are of what edits did to references
abbrev pub counts_of : RunEnd → EditCounts
counts_of run = record { freed = length run.freed; gained = length run.gained }

-- whether there is room for lists of that length
abbrev pub have_room : EditCounts → EditPlaces → Bool
have_room counts places = nat_le counts.freed (length places.freed) && nat_le counts.gained (length places.gained)

-- the bytes, as many as before, have the table's numbers as edits left them, and the lists begin with what they did to references
pub record HoldsRun (g : Geometry) (run : RunEnd) (old new : EditPlaces) : Type 0 where
  pub len : length new.bytes ≡ length old.bytes
  pub numbers : (table_of_bytes g new.bytes).numbers ≡ run.numbers
  pub freed : IsPutOver (map host_clusters run.freed) old.freed new.freed
  pub gained : IsPutOver run.gained old.gained new.gained

-- the answer to edits of a table of which this is left, if they can be made: they are, where there is room for what they did to
-- references. Else it says how much room that takes. After each refusal all places are as before
abbrev pub AnswersEdits : Geometry → Result RunEnd Fault → EditPlaces → EditPlaces → Result EditCounts EditRefusal → Type 0
AnswersEdits g expected old new (Ok counts) = (run : RunEnd) × (expected ≡ Ok run) × (counts ≡ counts_of run)
    × (have_room counts old ≡ true) × HoldsRun g run old new
AnswersEdits g expected old new (Err (why.NoRoom counts)) = (run : RunEnd) × (expected ≡ Ok run) × (counts ≡ counts_of run)
    × (have_room counts old ≡ false) × (new ≡ old)
AnswersEdits g expected old new (Err (why.Edits fault)) = ((fault ≡ NoMemory) ⊎ (expected ≡ Err fault)) × (new ≡ old)
AnswersEdits g expected old new (Err (why.Table bad)) = ⊥

-- the answer to edits of a table of whose numbers this is the first that is no entry, if there is one
abbrev pub EditsUnlessBad : Option BadEntry → Geometry → List EditFields → EditPlaces → EditPlaces → Result EditCounts EditRefusal → Type 0
EditsUnlessBad None g edits old new answer = AnswersEdits g (run_of_bytes g edits old.bytes) old new answer
EditsUnlessBad (Some bad) g edits old new answer = (answer ≡ Err (why.Table bad)) × (new ≡ old)

-- the bytes of an L2 table are edited by the fields of a header, and the lists have what that did to references; or the edits
-- are refused, and all places are as before
abbrev pub EditsBytes : HeaderFields → List EditFields → EditPlaces → EditPlaces → Result EditCounts EditRefusal → Type 0
EditsBytes fields edits old new answer = elim (edit_geometry fields edits old.bytes) [
  | Ok g ↦ (found : Option BadEntry) × IsFirstBad g.cluster_bits old.bytes found × EditsUnlessBad found g edits old new answer
  | Err fault ↦ (answer ≡ Err (why.Edits fault)) × (new ≡ old)
]
