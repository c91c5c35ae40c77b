-- Which clusters' uses are counted at once, in memory of a bounded size?
use Rattle.std.specs.Prelude.{◌≡◌, ℕ, Bool, ◌+◌, ◌*◌, ◌^◌, ◌<◌, ◌≤◌, if◌then◌else◌}
use Rattle.qcow2_base.specs.Format.{max_file_length}
use Rattle.qcow2_check.specs.declared.windows.Window.{Window}
use Rattle.qcow2_check.specs.declared.windows.Windows.{Windows}

-- how many bytes a cell takes, which is wide or narrow
abbrev pub cell_bytes : Bool → ℕ
cell_bytes is_wide = if is_wide then 8 else 4

-- how many bytes the cells take at most that lie one after another
abbrev pub most_cell_bytes : ℕ
most_cell_bytes = 68 * 2 ^ 20

-- clusters from one on, one at least, which end by the greatest end. Their cells are as wide as all of the image's, and take
-- a bounded memory: those that lie one after another most_cell_bytes, and there are 2 ^ 20 others at most
pub record IsWindow (windows : Windows) (from : ℕ) (window : Window) : Type 0 where
  pub first : window.first ≡ from
  pub some : 0 < window.dense
  pub fits : from + window.dense ≤ max_file_length
  pub is_wide : window.is_wide ≡ windows.is_wide
  pub bytes : window.dense * cell_bytes window.is_wide ≤ most_cell_bytes
  pub others : window.most ≤ 2 ^ 20
