-- Which list in memory holds the cells of clusters one after another?
use Rattle.std.specs.Prelude.{◌≡◌, ◌==◌, ◌⊎◌, ℕ, ◌+◌, ◌<◌, ◌≤◌, if◌then◌else◌, List, length, slice_index}
use Rattle.qcow2_layout.specs.declared.window.cells.Cells.{Cells}
use Rattle.qcow2_layout.specs.declared.window.cells.Cells.TheVariants.{Narrow, Wide}

-- the numbers of a list of cells
abbrev pub window_cells : Cells → List ℕ
window_cells (Narrow list) = list.items
window_cells (Wide list) = list.items

-- 16 cells from an index on get a number where they are 0, the first this one and each next one more, and no other cell changes
pub record PlacesGroup (first code : ℕ) (old new : List ℕ) : Type 0 where
  pub within : first + 16 ≤ length old
  pub count : length new ≡ length old
  pub each : (k : ℕ) → k < 16
      → slice_index new (first + k) ≡ (if slice_index old (first + k) == 0 then code + k else slice_index old (first + k))
  pub others : (i : ℕ) → (i < first) ⊎ (first + 16 ≤ i) → slice_index new i ≡ slice_index old i
