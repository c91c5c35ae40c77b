-- Which list in memory holds cells one after another?
use Rattle.std.specs.Prelude.{◌≡◌, ◌⊎◌, ℕ, ◌+◌, ◌<◌, ◌≤◌, List, length, slice_index}
use Rattle.qcow2_check.specs.Tally.{with_use}
use Rattle.qcow2_check.specs.declared.tally.TallyKind.TheVariants.{Guest}
use Rattle.qcow2_check.specs.declared.tally.cells.Cells.{Cells}
use Rattle.qcow2_check.specs.declared.tally.cells.Cells.TheVariants.{Narrow, Wide}

-- the numbers of a list of cells
abbrev pub kept_cells : Cells → List ℕ
kept_cells (Narrow list) = list.items
kept_cells (Wide list) = list.items

-- 16 cells from an index on count one use by guest data more, and no other cell changes
pub record AddsGroup (first : ℕ) (old new : List ℕ) : Type 0 where
  pub within : first + 16 ≤ length old
  pub count : length new ≡ length old
  pub each : (k : ℕ) → k < 16 → slice_index new (first + k) ≡ with_use Guest (slice_index old (first + k))
  pub others : (i : ℕ) → (i < first) ⊎ (first + 16 ≤ i) → slice_index new i ≡ slice_index old i
