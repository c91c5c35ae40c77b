use Rattle.std.proofs.Common.{rules}
use Rattle.qcow2_repair.proofs.FlagsLemmas.{maps_next, maps_same}
use Rattle.qcow2_repair.specs.Flags.{pass_by, passed_l2}
use Rattle.qcow2_repair.proofs.flags.FlagPass.pass_l2.Goals as goal

pub loop-index-preserved-then-starts_unchanged : goal.loop-index-preserved-then-starts_unchanged
loop-index-preserved-then-starts_unchanged c = record {
  numbers = maps_same (passed_l2 (pass_by c.args.self.now)) c.loop-index.index 16 c.args.table.now.numbers c.loop-index.table.numbers
      c.loop-index.invariant.numbers (search rules);
  same = search rules;
  modified = search rules;
  within = search rules;
}

pub loop-index-preserved : goal.loop-index-preserved
loop-index-preserved c = record {
  numbers = maps_next (passed_l2 (pass_by c.args.self.now)) c.loop-index.index c.args.table.now.numbers c.loop-index.table.numbers
      c.pass_l2_entry.new.table.numbers (search rules) c.loop-index.invariant.numbers (search rules);
  same = search rules;
  modified = search rules;
  within = search rules;
}
