use Rattle.std.proofs.Common.{◌≡◌, ◌+◌, ◌/◌, false, slice_index, rules}
use Rattle.qcow2_check.proofs.FindingsLemmas.{below_next}
use Rattle.qcow2_check.specs.Tally.{cell_at, is_shared_cell}
use Rattle.qcow2_check.proofs.findings.right_clusters.Goals as goal

pub loop-k-preserved : goal.loop-k-preserved
loop-k-preserved c = λ k below.
    let tally = c.args.tally.now in
    let numbers = c.args.block.now.numbers in
    below_next (λ j. (slice_index numbers (c.args.index + j) ≡ cell_at tally (c.args.first + j) / 8) × (is_shared_cell (cell_at tally (c.args.first + j)) ≡ false))
    c.loop-k.k k c.loop-k.invariant (search rules) below
