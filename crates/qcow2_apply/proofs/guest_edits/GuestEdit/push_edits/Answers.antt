use Rattle.std.proofs.Common.{inl, arith, rules}
use Rattle.qcow2_apply.proofs.GuestEditsLemmas.{edits-next, edits-all}
use Rattle.qcow2_apply.proofs.guest_edits.GuestEdit.push_edits.Goals as goal

pub loop-cluster-preserved : goal.loop-cluster-preserved
loop-cluster-preserved c = record {
  appended = edits-next _ c.args.edits.now.items c.loop-cluster.edits.items c.push.new.self.items _ c.loop-cluster.cluster
      (search rules) c.loop-cluster.invariant.appended (search rules);
  end = inl (omega (arith, c.loop-cluster-test.true));
}

pub returns : goal.returns
returns c = rw (c.clusters_in-start.ensures.start, c.clusters_in-start.ensures.end) at
    (edits-all _ c.args.edits.now.items c.loop-cluster.edits.items c.clusters_in-start.result.0 c.loop-cluster.cluster c.clusters_in-start.result.1
    (omega (arith, c.loop-cluster-test.false)) c.loop-cluster.invariant.end c.loop-cluster.invariant.appended)
