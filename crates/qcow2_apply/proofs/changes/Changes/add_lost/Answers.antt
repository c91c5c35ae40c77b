use Rattle.std.proofs.Common.{inl, arith, rules}
use Rattle.qcow2_apply.proofs.ChangesLemmas.{all-added, none-added, parts-added}
use Rattle.qcow2_apply.proofs.changes.Changes.add_lost.Goals as goal

pub loop-first-init : goal.loop-first-init
loop-first-init c = record {
  added = none-added c.args.clusters.first.0 c.args.self.now;
  from = search rules;
  end = search rules;
}

pub loop-first-preserved : goal.loop-first-preserved
loop-first-preserved c = record {
  added = parts-added c.args.clusters.first.0 c.loop-first.first c.in_ok-first.first c.args.self.now c.loop-first.self c.add_part.new.self
      c.loop-first.invariant.from (search rules) c.loop-first.invariant.added c.in_ok-first.ensures.added;
  from = omega (arith, c.loop-first.invariant.from, c.in_ok-first.ensures.further);
  end = inl (search rules);
}

pub returns-clause-added : goal.returns-clause-added
returns-clause-added c = all-added c.args.clusters c.loop-first.first c.in-Some.end c.args.self.now c.loop-first.self (search rules) (omega (arith, c.loop-first-test.false))
    c.loop-first.invariant.end c.loop-first.invariant.added
