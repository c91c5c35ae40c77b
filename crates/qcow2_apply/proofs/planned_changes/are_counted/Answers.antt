use Rattle.std.proofs.Common.{◌-◌, arith, rules}
use Rattle.qcow2_apply.proofs.PlannedChangesLemmas.{all-counted, block-counted, late-end}
use Rattle.qcow2_apply.proofs.planned_changes.are_counted.Goals as goal

pub returns-in_default-clause-uncounted : goal.returns-in_default-clause-uncounted
returns-in_default-clause-uncounted c = λ no. late-end c.args.counters.now.header c.args.counters.now.reftable c.args.clusters (search rules)
    (search rules)

pub loop-end-init : goal.loop-end-init
loop-end-init c = record {
  each = λ cluster from before. absurd (omega (arith, from, before));
  within = omega arith;
}

pub loop-end-preserved : goal.loop-end-preserved
loop-end-preserved c = record {
  each = block-counted c.args.counters.now.header c.args.counters.now.reftable c.block_start-end.result (c.loop-end.end - 1) c.loop-end.end c.in-Some.limit
      (omega (arith, c.loop-end-test.true)) c.block_start-end.ensures.same (search rules) c.loop-end.invariant.each;
  within = omega (arith, c.block_start-end.ensures.before, c.loop-end.invariant.within);
}

pub returns-clause-counted : goal.returns-clause-counted
returns-clause-counted c = λ yes. all-counted c.args.counters.now.header c.args.counters.now.reftable c.args.clusters c.loop-end.end c.in-Some.limit
    (search rules) (search rules) c.loop-end-test.false c.loop-end.invariant.each
