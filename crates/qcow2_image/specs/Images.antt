-- What does a list of changes of a table or a block do to the image that has it?
use Rattle.std.specs.Prelude.{◌≡◌, ◌⊎◌, ℕ, false, not, IsErrOf, IsOkAnd, IsOkUnless, List, None, Ok, OnOk, Some, option_map, Result}
use Rattle.std.specs.List.{position}
use Rattle.qcow2_base.specs.Storage.{Image, OnImage, OnImages, OnlyWrites, StorageState}
use Rattle.qcow2_base.specs.declared.fault.Fault.{Fault}
use Rattle.qcow2_base.specs.declared.fault.Fault.TheVariants.{BadEdit, BadStep, Storage}
use Rattle.qcow2_base.specs.declared.types.HostCluster.{HostCluster}
use Rattle.qcow2_edits.specs.Edits.{Balances, edits_or_refusal, table_edit}
use Rattle.qcow2_edits.specs.Steps.{StepsEnd, first_unfit_step, steps_or_refusal}
use Rattle.qcow2_edits.specs.declared.edits.Edit.{Edit}
use Rattle.qcow2_edits.specs.declared.edits.Outcome.{Outcome}
use Rattle.qcow2_edits.specs.declared.steps.Step.{Step}
use Rattle.qcow2_metadata.specs.Results.{and_then, result_map}
use Rattle.qcow2_metadata.specs.Table.L2Guards.{RunEnd, fits_table}
use Rattle.qcow2_metadata.specs.Header.{HeaderRecord, geometry_of}
use Rattle.qcow2_metadata.specs.Placed.{IsTorn, Layout, Placed, RefusesPlace, loaded_numbers, numbers_at, offset_of, place_fault}
use Rattle.qcow2_metadata.specs.Refblock.{BlockState, IsBlockFault, block_entries, block_geometry_of, block_layout, loaded_block}
use Rattle.qcow2_metadata.specs.Table.{IsTableFault, TableState, l2_entries, l2_layout, loaded_l2_table}
use Rattle.qcow2_image.specs.WholeImage.{ChangesOwnLookups, HasTableApart, KeepsImageSound}
use Rattle.qcow2_metadata.specs.declared.entries.ClustersToFreeEntry.{ClustersToFreeEntry}

-- a table or a block of these numbers, as it is loaded from a cluster
abbrev pub loaded_from : {G : Type 0} → G → HostCluster → List ℕ → Placed G
loaded_from geometry cluster numbers =
    record { numbers = numbers; cluster = Some cluster; modified = false; geometry = geometry }

-- the L2 table at a cluster of an image with this header
abbrev pub table_in : HeaderRecord → HostCluster → Image → TableState
table_in header cluster image =
    let g = geometry_of header in loaded_from g cluster (numbers_at (l2_layout g) cluster image)

-- the refcount block there
abbrev pub block_in : HeaderRecord → HostCluster → Image → BlockState
block_in header cluster image =
    let g = block_geometry_of header in loaded_from g cluster (numbers_at (block_layout g) cluster image)

-- a change of the numbers at a cluster of an image ended in this answer. By the old bytes the change comes to this end, which
-- has these numbers. The new image has them then, and no byte outside them changed; after a failed storage it is as before,
-- or they are written up to a piece. The fault of the place comes before all others
pub record ChangesImage {T E : Type 0} (layout : Layout) (cluster : HostCluster) (end : Image → Result E Fault) (numbers_of : E → List ℕ) (answer : Result T Fault) (old new : StorageState) : Type 0 where
  pub decoded : OnImages old new (λ before after.
      OnOk answer (loaded_numbers layout cluster after ≡ result_map numbers_of (end before)))
  pub place : RefusesPlace layout cluster answer
  pub torn : OnImages old new (λ before after.
      IsErrOf answer Storage → (after ≡ before) ⊎ IsOkAnd (end before) (λ e. IsTorn layout (numbers_of e) cluster before after))
  pub storage : OnlyWrites answer (Some (offset_of layout cluster)) layout.byte_count old new

-- a table or a block of a cluster can be written there, and is there unless it is modified
pub record IsOfCluster {G : Type 0} (layout : Layout) (place : HostCluster) (image : StorageState) (held : Placed G) : Type 0 where
  pub valid : place_fault layout place ≡ None
  pub cluster : held.cluster ≡ Some place
  pub unmodified : held.modified ≡ false → OnImage image (λ bytes. loaded_numbers layout place bytes ≡ Ok held.numbers)

-- a write of it, if it is modified: the image has its numbers at the cluster then, or the write failed at a piece
pub record WritesBack {G T : Type 0} (layout : Layout) (place : HostCluster) (held : Placed G) (answer : Result T Fault) (old new : StorageState) : Type 0 where
  pub fault : IsOkUnless answer Storage
  pub loads : OnImages old new (λ _ after. OnOk answer (loaded_numbers layout place after ≡ Ok held.numbers))
  pub idle : held.modified ≡ false → new ≡ old
  pub torn : OnImages old new (λ before after. IsErrOf answer Storage → IsTorn layout held.numbers place before after)
  pub storage : OnlyWrites answer (Some (offset_of layout place)) layout.byte_count old new

-- what edits leave of the L2 table that begins with a cluster of an image, or the refusal. That is the load's, else
-- that of the first edit that can't be made
abbrev pub edits_end : HeaderRecord → HostCluster → List Edit → Image → Result RunEnd Fault
edits_end header cluster edits image = and_then (loaded_l2_table (geometry_of header) cluster image)
    (λ numbers. edits_or_refusal (loaded_from (geometry_of header) cluster numbers) edits)

-- what edits of the L2 table that begins with a cluster of an image do to references, or the refusal. It is the clusters
-- that lose one, and the numbers of those that gain one
abbrev pub references_of : HeaderRecord → HostCluster → List Edit → Image → Result (List ClustersToFreeEntry × List ℕ) Fault
references_of header cluster edits image = result_map (λ (end : RunEnd). (end.freed, end.gained)) (edits_end header cluster edits image)

-- no reference is lost by edits with this outcome, in the table that they change. Where the image's own header has the
-- same geometry, they reach the lookups of the table's own offsets alone, and no reference of the whole image is lost
pub record KeepsReferences (header : HeaderRecord) (cluster : HostCluster) (outcome : Outcome) (old new : Image) : Type 0 where
  pub balance : Balances outcome (table_in header cluster old) (table_in header cluster new)
  pub lookups : (own : HeaderRecord) → HasTableApart (geometry_of header) cluster own old → ChangesOwnLookups own cluster old new
  pub whole : KeepsImageSound (geometry_of header) cluster outcome old new

-- the refusals of edits of an image: those of the table's load, and that of the first edit that can't be made
abbrev pub IsEditsFault : HeaderRecord → HostCluster → List Edit → Fault → Type 0
IsEditsFault header cluster edits fault = let g = geometry_of header in IsTableFault (l2_layout g) cluster fault
    ⊎ (option_map BadEdit (position (λ edit. not (fits_table g (l2_entries g.cluster_bits) (table_edit edit))) edits) ≡ Some fault)

-- what steps leave of the block that begins with a cluster of an image, or the refusal. That is the load's, else that of
-- the first step whose index is past the block's end
abbrev pub steps_end : HeaderRecord → HostCluster → List Step → Image → Result StepsEnd Fault
steps_end header cluster steps image = and_then (loaded_block header cluster image)
    (λ counters. steps_or_refusal (loaded_from (block_geometry_of header) cluster counters) steps)

-- the refusals of steps of an image: that of the block's place, and that of the first step whose index is past its end
abbrev pub IsStepsFault : HeaderRecord → HostCluster → List Step → Fault → Type 0
IsStepsFault header cluster steps fault = IsBlockFault header cluster fault
    ⊎ (option_map BadStep (first_unfit_step (block_entries header.v2.cluster_bits header.base.refcount_order) steps) ≡ Some fault)
