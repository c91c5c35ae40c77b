-- What is known of the runs of a table that a reader keeps?
use Rattle.std.specs.Prelude.{◌≡◌, ℕ, ◌≤◌}
use Rattle.qcow2_metadata.specs.Table.{TableState, place_in_table}
use Rattle.qcow2_metadata.specs.Table.L2Table.{IsMappedRun}

-- a run of this length begins with each guest cluster whose entry has this index, unless the length is 0
abbrev pub IsKnownRun : TableState → ℕ → ℕ → Type 0
IsKnownRun table index length = (cluster : ℕ) → place_in_table table cluster ≡ index → 1 ≤ length → IsMappedRun table cluster length
