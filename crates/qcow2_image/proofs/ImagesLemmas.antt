use Rattle.std.proofs.Common.{◌≡◌, ℕ, false, true, not, IsOk, Option, option_map, Some, Result, Ok, Err, List, length, arith, inl, inr}
use Rattle.std.proofs.lemmas.Bool.{cases_Bool}
use Rattle.std.specs.List.{position}
use Rattle.qcow2_base.specs.Storage.{Image, StorageState}
use Rattle.qcow2_base.specs.declared.fault.Fault.{Fault}
use Rattle.qcow2_base.specs.declared.fault.Fault.TheVariants.{BadEdit, BadStep}
use Rattle.qcow2_base.specs.declared.types.HostCluster.{HostCluster}
use Rattle.qcow2_edits.specs.Edits.{Balances, edits_or_refusal, table_edit}
use Rattle.qcow2_edits.specs.Steps.{first_unfit_step, steps_or_refusal}
use Rattle.qcow2_edits.specs.declared.edits.Edit.{Edit}
use Rattle.qcow2_edits.specs.declared.edits.Outcome.{Outcome}
use Rattle.qcow2_edits.specs.declared.steps.Step.{Step}
use Rattle.qcow2_metadata.specs.Results.{unless_refused}
use Rattle.qcow2_metadata.specs.Header.{Geometry, HeaderRecord, geometry_of}
use Rattle.qcow2_metadata.specs.Placed.{Layout, Placed, Writes, numbers_at}
use Rattle.qcow2_image.proofs.WholeImageLemmas.{SameOutsideTable, keeps-image-sound, keeps-other-lookups}
use Rattle.qcow2_metadata.specs.Refblock.{BlockState, block_entries}
use Rattle.qcow2_metadata.specs.Table.L2Guards.{fits_table}
use Rattle.qcow2_metadata.specs.Table.{TableState, l2_entries, l2_layout, loaded_l2_table}
use Rattle.qcow2_image.specs.Images.{IsOfCluster, KeepsReferences, WritesBack, table_in}

pub writes_back : {G T : Type 0} (layout : Layout) (place : HostCluster) (held : Placed G) (answer : Result T Fault) (old new : StorageState)
    → IsOfCluster layout place old held
    → (held.modified ≡ false → IsOk answer × (new ≡ old))
    → (held.modified ≡ true → Writes layout held.numbers held.cluster answer old new) → WritesBack layout place held answer old new
writes_back layout place held answer old new of idle wrote = elim (cases_Bool held.modified) [
  | inl is ↦ let left = rw of.cluster at (wrote is) in grind (arith, left, of.valid, is)
  | inr is ↦ let left = idle is in grind (arith, left, of.unmodified is)
]

-- a table that loads from a cluster has the numbers there
loads-numbers : (g : Geometry) (cluster : HostCluster) (image : Image) (numbers : List ℕ) → loaded_l2_table g cluster image ≡ Ok numbers → numbers ≡ numbers_at (l2_layout g) cluster image
loads-numbers g cluster image numbers loads = grind (arith, loads)

-- edits of a table that was loaded from a cluster, and that loads from there afterwards
pub references-kept : (header : HeaderRecord) (cluster : HostCluster) (outcome : Outcome) (before after : TableState) (old new : Image)
    → before.geometry ≡ geometry_of header → after.geometry ≡ geometry_of header → before.numbers ≡ numbers_at (l2_layout (geometry_of header)) cluster old
    → loaded_l2_table (geometry_of header) cluster new ≡ Ok after.numbers
    → SameOutsideTable (geometry_of header) cluster old new
    → Balances outcome before after → KeepsReferences header cluster outcome old new
references-kept header cluster outcome before after old new g g' is loads outside balance =
    let balances : Balances outcome (table_in header cluster old) (table_in header cluster new) = λ c.
    rw (g, g', is, loads-numbers (geometry_of header) cluster new after.numbers loads) at (balance c) in
    record {
      balance = balances;
      lookups = keeps-other-lookups (geometry_of header) cluster old new outside;
      whole = keeps-image-sound (geometry_of header) cluster outcome after.numbers old new outside loads balances;
    }

-- what a refusal is
refused-by : {T : Type 0} (refusal : Option Fault) (value : T) (fault : Fault) → unless_refused refusal (Ok value) ≡ Err fault → refusal ≡ Some fault
refused-by refusal value fault is = grind arith

-- the refusal of edits that can't be made of a table is the one by its geometry and the number of its entries
pub refused-edits : (header : HeaderRecord) (table : TableState) (edits : List Edit) (fault : Fault)
    → table.geometry ≡ geometry_of header → length table.numbers ≡ l2_entries header.v2.cluster_bits
    → edits_or_refusal table edits ≡ Err fault
    → option_map BadEdit (position (λ edit. not (fits_table (geometry_of header) (l2_entries header.v2.cluster_bits) (table_edit edit))) edits) ≡ Some fault
refused-edits header table edits fault g full refused = rw (← g, ← full) (refused-by _ _ fault refused)

-- the refusal of steps that aren't in a block's bounds is the one by the number of its counters
pub refused_steps : (header : HeaderRecord) (block : BlockState) (steps : List Step) (fault : Fault)
    → length block.numbers ≡ block_entries header.v2.cluster_bits header.base.refcount_order
    → steps_or_refusal block steps ≡ Err fault
    → option_map BadStep (first_unfit_step (block_entries header.v2.cluster_bits header.base.refcount_order) steps) ≡ Some fault
refused_steps header block steps fault full refused = rw (← full) (refused-by _ _ fault refused)
