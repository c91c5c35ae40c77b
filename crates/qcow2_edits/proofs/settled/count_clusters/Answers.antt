use Rattle.std.proofs.Common.{refl, arith}
use Rattle.std.proofs.lemmas.Bool.Decides.{nat_tests}
use Rattle.qcow2_edits.specs.Settled.{change_in, is_between}
use Rattle.qcow2_edits.proofs.SettledLemmas.{among-between, changes-as, clusters-short, moves-back}
use Rattle.qcow2_edits.proofs.settled.count_clusters.Goals as goal
use Rattle.qcow2_metadata.specs.Table.L2Guards.{one_if}

pub returns-in_default-clause-changed : goal.returns-in_default-clause-changed
returns-in_default-clause-changed c = grind (arith, changes-as, among-between)

pub returns-clause-back : goal.returns-clause-back
returns-clause-back c = (
  refl,
  moves-back (change_in c.args.direction) _ (λ i. one_if (is_between c.counters_before-start.result c.in-Err.stopped i)) c.args.block.now c.step_range.new.block c.step_range-2.new.block
      c.back.ensures c.in-Err.ensures.stopped.2 (rw c.unwrap.ensures at c.step_range-2.ensures.changed).counters,
)

pub returns-clause-out_of_range : goal.returns-clause-out_of_range
returns-clause-out_of_range c = grind (arith, nat_tests, among-between, clusters-short)
