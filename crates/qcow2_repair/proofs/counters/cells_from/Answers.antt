use Rattle.std.proofs.Common.{◌+◌, rules}
use Rattle.qcow2_check.proofs.FindingsLemmas.{copied_next}
use Rattle.qcow2_check.specs.Tally.{cell_at}
use Rattle.qcow2_repair.proofs.counters.cells_from.Goals as goal

pub loop-k-preserved : goal.loop-k-preserved
loop-k-preserved c = record {
  count = search rules;
  copied =
      copied_next (λ k. cell_at c.args.tally.now (c.args.first + k)) c.loop-k.cells c.loop-k.k c.dense_cell.result
      (search rules) c.loop-k.invariant.copied c.dense_cell.ensures;
}
