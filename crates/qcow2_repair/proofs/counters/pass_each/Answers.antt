use Rattle.std.proofs.Common.{◌/◌, ◌+◌, rules, arith}
use Rattle.qcow2_check.specs.Tally.{cell_at}
use Rattle.qcow2_repair.proofs.CountersLemmas.{passes-next}
use Rattle.qcow2_repair.proofs.counters.pass_each.Goals as goal

pub loop-index-preserved : goal.loop-index-preserved
loop-index-preserved c = record {
  counters = passes-next c.args.pass (λ k. cell_at c.args.tally.now (c.args.part.first + k) / 8) c.args.part.from c.loop-index.index
      c.args.block.now.numbers c.loop-index.block.numbers c.pass_counter.new.block.numbers (search rules) (search rules) c.loop-index.invariant.counters (search rules);
  same = search rules;
  unused = λ k after before. c.uses_in_order-uses.ensures.unused k (omega (arith, after)) before;
  modified = search rules;
}
