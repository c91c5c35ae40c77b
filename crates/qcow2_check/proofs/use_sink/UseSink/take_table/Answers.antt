use Rattle.std.proofs.Common.{◌≤◌, length, rules}
use Rattle.std.proofs.lemmas.List.{take_all}
use Rattle.qcow2_check.proofs.use_sink.UseSink.take_table.Goals as goal

pub loop-index-init : goal.loop-index-init
loop-index-init g c = record {
  within = search rules;
  taken = g.met.Self.UseSink.takes_none c.args.self.now;
}

pub loop-index-preserved : goal.loop-index-preserved
loop-index-preserved g c = record {
  within = search rules;
  taken = c.in_ok-index.ensures.taken c.args.self.now c.loop-index.invariant.taken;
}

pub returns-clause-taken : goal.returns-clause-taken
returns-clause-taken g c =
    let past : length c.args.table.now.numbers ≤ c.loop-index.index = search rules in
    rw (take_all c.loop-index.index c.args.table.now.numbers past) at c.loop-index.invariant.taken
