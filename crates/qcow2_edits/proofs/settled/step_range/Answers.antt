use Rattle.std.proofs.Common.{arith, inl}
use Rattle.qcow2_edits.specs.Settled.{change_in}
use Rattle.qcow2_edits.proofs.SettledLemmas.{between-end, changes-as, range-next, range-stops}
use Rattle.qcow2_edits.proofs.settled.step_range.Goals as goal

pub loop-index-preserved : goal.loop-index-preserved
loop-index-preserved c = record {
  changed = range-next (change_in c.args.direction) c.args.start c.loop-index.index c.in_default.field-0 c.step.result c.args.block.now c.loop-index.block c.step.new.block
      c.loop-index.auto.index (omega (arith, c.loop-index-test.true, c.requires)) c.loop-index.invariant.changed c.step.ensures c.in_default.is;
  end = inl (omega (arith, c.loop-index-test.true));
}

pub returns-in-Err-clause-stopped : goal.returns-in-Err-clause-stopped
returns-in-Err-clause-stopped c =
    let stops = range-stops (change_in c.args.direction) c.args.start c.loop-index.index c.in-Err.field-0 c.step.result c.args.block.now c.loop-index.block c.step.new.block
    (omega (arith, c.loop-index-test.true, c.requires)) c.loop-index.invariant.changed.counters c.step.ensures c.in-Err.is in
    (c.loop-index.auto.index, c.loop-index-test.true, stops.0)

pub returns-clause-changed : goal.returns-clause-changed
returns-clause-changed c = grind (arith, changes-as, between-end)
