-- Which clusters are looked at at once, in memory of a bounded size?
use Rattle.std.specs.Prelude.{ℕ, ◌+◌, ◌*◌, ◌^◌, ◌<◌, ◌≤◌}
use Rattle.qcow2_base.specs.Format.{max_file_length}
use Rattle.qcow2_check.specs.Windows.{cell_bytes}
use Rattle.qcow2_layout.specs.declared.windows.Size.{Size}

-- how many bytes the cells take at most that lie one after another
abbrev pub most_window_bytes : ℕ
most_window_bytes = 68 * 2 ^ 20

-- clusters from one on, one at least, which end by the greatest end, and have a bounded memory: that of cells of 4 or 8 bytes one
-- after another, and of 2 ^ 20 others at most
pub record IsSize (from : ℕ) (size : Size) : Type 0 where
  pub some : 0 < size.dense
  pub fits : from + size.dense ≤ max_file_length
  pub bytes : size.dense * cell_bytes size.is_wide ≤ most_window_bytes
  pub others : size.most ≤ 2 ^ 20
