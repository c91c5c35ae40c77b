use Rattle.std.proofs.Common.{◌≡◌, ℕ, ◌+◌, ◌<◌, length, slice_index}
use Rattle.qcow2_check.specs.Tally.{cell_at}
use Rattle.qcow2_repair.proofs.counters.cells_from.Given as goal

-- the cells before this one are those of the tally
abbrev pub invariant-loop-k : goal.invariant-loop-k
invariant-loop-k l = record {
  count : length l.cells ≡ 64;
  copied : (k : ℕ) → k < l.k → slice_index l.cells k ≡ cell_at l.tally (l.first + k);
}
