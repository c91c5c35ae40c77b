use Rattle.std.proofs.Common.{refl, take}
use Rattle.qcow2_edits.specs.Settled.{change_in, times_counted}
use Rattle.qcow2_edits.proofs.SettledLemmas.{moves-back}
use Rattle.qcow2_edits.proofs.settled.count_all.Goals as goal

pub returns-clause-back : goal.returns-clause-back
returns-clause-back g c = (
  refl,
  moves-back (change_in c.args.direction) _ (times_counted g.C.Counted.clusters (take c.in-Err.stopped c.args.list.now) c.args.first) c.args.block.now c.count_list.new.block c.count_list-2.new.block
      c.back.ensures c.in-Err.ensures.stopped.1 (rw c.unwrap.ensures at c.count_list-2.ensures.changed).counters,
)
