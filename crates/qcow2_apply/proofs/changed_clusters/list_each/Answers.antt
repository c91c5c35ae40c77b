use Rattle.std.proofs.Common.{◌≡◌, ◌+◌, subst, arith}
use Rattle.qcow2_apply.proofs.ChangedClustersLemmas.{lists-next, lists-none}
use Rattle.qcow2_apply.proofs.OrderLemmas.{end-later, stay-on}
use Rattle.qcow2_apply.specs.ChangedClusters.{ListsCounters, StayInOrder}
use Rattle.qcow2_apply.proofs.changed_clusters.list_each.Goals as goal

pub loop-k-init : goal.loop-k-init
loop-k-init c = record {
  listed = lists-none c.args.first c.args.before.now c.args.risen.now c.args.after.now c.args.clusters.now;
  order = end-later c.args.first (c.args.first + 0) c.args.clusters.now (omega arith);
  within = omega arith;
}

pub loop-k-preserved : goal.loop-k-preserved
loop-k-preserved c = record {
  listed = lists-next c.args.first c.loop-k.k c.args.before.now c.args.risen.now c.args.after.now c.args.clusters.now c.loop-k.clusters
      c.list_cluster.new.clusters c.loop-k.invariant.listed c.in_ok-list_cluster.ensures.listed;
  order = subst (λ n. StayInOrder c.args.first n c.args.clusters.now c.list_cluster.new.clusters) (omega arith)
      (stay-on c.args.first (c.args.first + c.loop-k.k) (c.args.first + c.loop-k.k + 1) c.args.clusters.now c.loop-k.clusters c.list_cluster.new.clusters
      c.loop-k.invariant.order c.in_ok-list_cluster.ensures.order);
  within = omega (arith, c.loop-k-test.true);
}

pub returns-clause-listed : goal.returns-clause-listed
returns-clause-listed c =
    let end : c.loop-k.k ≡ 64 = omega (arith, c.loop-k.invariant.within, c.loop-k-test.false) in
    subst (λ k. ListsCounters c.args.first k c.args.before.now c.args.risen.now c.args.after.now c.args.clusters.now c.loop-k.clusters) end c.loop-k.invariant.listed

pub returns-clause-order : goal.returns-clause-order
returns-clause-order c =
    let end : c.loop-k.k ≡ 64 = omega (arith, c.loop-k.invariant.within, c.loop-k-test.false) in
    subst (λ k. StayInOrder c.args.first (c.args.first + k) c.args.clusters.now c.loop-k.clusters) end c.loop-k.invariant.order
