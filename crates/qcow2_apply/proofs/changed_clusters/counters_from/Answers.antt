use Rattle.std.proofs.Common.{◌+◌, slice_index, rules}
use Rattle.qcow2_check.proofs.FindingsLemmas.{copied_next}
use Rattle.qcow2_apply.proofs.changed_clusters.counters_from.Goals as goal

pub loop-k-preserved : goal.loop-k-preserved
loop-k-preserved c = record {
  count = search rules;
  copied =
      copied_next (λ k. slice_index c.args.block.now.numbers (c.args.index + k)) c.loop-k.counters c.loop-k.k c.get.result
      (search rules) c.loop-k.invariant.copied c.get.ensures.counter;
}
