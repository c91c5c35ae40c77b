use Rattle.std.proofs.Common.{◌≡◌, ℕ, ◌+◌, ◌/◌, ◌<◌, false, slice_index}
use Rattle.qcow2_check.specs.Tally.{cell_at, is_shared_cell}
use Rattle.qcow2_check.proofs.findings.right_clusters.Given as goal

-- nothing is wrong with the clusters before this one
abbrev pub invariant-loop-k : goal.invariant-loop-k
invariant-loop-k l = (k : ℕ) → k < l.k →
    (slice_index l.block.numbers (l.index + k) ≡ cell_at l.tally (l.first + k) / 8) × (is_shared_cell (cell_at l.tally (l.first + k)) ≡ false)
