-- What may a crash of the machine leave of an image while edits of its disk are made?
use Rattle.std.specs.Prelude.{◌≡◌, ◌⊎◌, ℕ, ◌/◌, List}
use Rattle.qcow2_base.specs.Storage.{Image, SameOutside}
use Rattle.qcow2_check.specs.Uses.{ImageTables}
use Rattle.qcow2_metadata.specs.Header.{HeaderRecord}
use Rattle.qcow2_apply.specs.Apply.{l2_tables_of, plan_tables}
use Rattle.qcow2_apply.specs.Blocks.{FollowsChanges, FollowsSome}
use Rattle.qcow2_apply.specs.Passes.{Passes, PassesSome}
use Rattle.qcow2_apply.specs.PlannedTables.{counter_tables}
use Rattle.qcow2_apply.specs.Tables.{IsEdited}
use Rattle.qcow2_apply.specs.declared.changes.Changes.{Changes}
use Rattle.qcow2_apply.specs.declared.guest_edits.GuestEdit.{GuestEdit}
use Rattle.qcow2_apply.specs.declared.plan.Plan.{Plan}

-- the two images agree in a sector of 512 bytes
abbrev pub IsSameSector : ℕ → Image → Image → Type 0
IsSameSector sector old new = (o : ℕ) → o / 512 ≡ sector → new o ≡ old o

-- each sector is that of one of two images, so some of what was written between them is lost
abbrev pub MixesSectors : Image → Image → Image → Type 0
MixesSectors old new mixed = (sector : ℕ) → IsSameSector sector old mixed ⊎ IsSameSector sector new mixed

-- a crash came in one of the three parts of edits of a disk, with all of those before it on the device: some of this part was done,
-- and any sectors of that are lost
pub data CrashesApplying (tables : ImageTables) (edits : List GuestEdit) (gains losses : Changes) (old crashed : Image) : Type 0 where
  WhileGainsAreCounted : (counted : Image) → FollowsSome (counter_tables tables) gains old counted → MixesSectors old counted crashed
      → CrashesApplying tables edits gains losses old crashed
  WhileTablesAreEdited : (gained edited : Image) → FollowsChanges (counter_tables tables) gains old gained
      → PassesSome (l2_tables_of tables) (IsEdited tables.header edits) gained edited → MixesSectors gained edited crashed
      → CrashesApplying tables edits gains losses old crashed
  WhileLossesAreCounted : (gained edited counted : Image) → FollowsChanges (counter_tables tables) gains old gained
      → Passes (l2_tables_of tables) (IsEdited tables.header edits) gained edited → FollowsSome (counter_tables tables) losses edited counted
      → MixesSectors edited counted crashed → CrashesApplying tables edits gains losses old crashed

-- a crash came while edits of a disk were made by a plan: while autoclear features were cleared by their field alone, or with that
-- on the device in the edits
pub record CrashesInPlan (header : HeaderRecord) (edits : List GuestEdit) (plan : Plan) (old crashed : Image) : Type 0 where
  pub cleared : Image
  pub clears : SameOutside 88 8 old cleared
  pub leaves : MixesSectors old cleared crashed
      ⊎ CrashesApplying (plan_tables header plan) edits plan.gains plan.losses cleared crashed
