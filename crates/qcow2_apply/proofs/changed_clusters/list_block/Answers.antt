use Rattle.std.proofs.Common.{◌≡◌, ◌+◌, ◌*◌, length, subst, arith, rules}
use Rattle.qcow2_apply.proofs.ChangedClustersLemmas.{lists-none, lists-on, whole-groups}
use Rattle.qcow2_apply.proofs.OrderLemmas.{end-later, stay-on}
use Rattle.qcow2_apply.specs.ChangedClusters.{ListsCounters, StayInOrder}
use Rattle.qcow2_apply.proofs.changed_clusters.list_block.Goals as goal

pub loop-group-init : goal.loop-group-init
loop-group-init c = record {
  listed = lists-none c.args.first c.args.before.now.numbers c.args.risen.now.numbers c.args.after.now.numbers c.args.clusters.now;
  order = end-later c.args.first (c.args.first + 64 * 0) c.args.clusters.now (omega arith);
  within = omega arith;
}

pub loop-group-preserved : goal.loop-group-preserved
loop-group-preserved c =
    let k = 64 * c.loop-group.group in
    let next : k + 64 ≡ 64 * (c.loop-group.group + 1) = omega arith in
    record {
      listed = subst (λ end. ListsCounters c.args.first end c.args.before.now.numbers c.args.risen.now.numbers c.args.after.now.numbers c.args.clusters.now c.list_group.new.clusters) next
          (lists-on c.args.first k 64 c.args.before.now.numbers c.args.risen.now.numbers c.args.after.now.numbers c.counters_from.result c.counters_from-in-loop-group.result c.counters_from-in-loop-group-2.result
          c.args.clusters.now c.loop-group.clusters c.list_group.new.clusters c.loop-group.invariant.listed c.counters_from.ensures c.counters_from-in-loop-group.ensures c.counters_from-in-loop-group-2.ensures
          c.in_ok-list_group.ensures.listed);
      order = subst (λ end. StayInOrder c.args.first end c.args.clusters.now c.list_group.new.clusters) (omega arith)
          (stay-on c.args.first (c.args.first + k) (c.args.first + k + 64) c.args.clusters.now c.loop-group.clusters c.list_group.new.clusters
          c.loop-group.invariant.order c.in_ok-list_group.ensures.order);
      within = omega (arith, c.loop-group-test.true);
    }

pub returns-clause-listed : goal.returns-clause-listed
returns-clause-listed c =
    let g = c.args.before.now.geometry in
    let whole = whole-groups g.cluster_bits g.refcount_order (search rules) (search rules) in
    let end : 64 * c.loop-group.group ≡ length c.args.before.now.numbers =
    omega (arith, whole, c.entries-group-end.ensures.count, c.entries-group-end.ensures.value, c.loop-group.invariant.within, c.loop-group-test.false) in
    subst (λ k. ListsCounters c.args.first k c.args.before.now.numbers c.args.risen.now.numbers c.args.after.now.numbers c.args.clusters.now c.loop-group.clusters) end
    c.loop-group.invariant.listed

pub returns-clause-order : goal.returns-clause-order
returns-clause-order c =
    let g = c.args.before.now.geometry in
    let whole = whole-groups g.cluster_bits g.refcount_order (search rules) (search rules) in
    let end : 64 * c.loop-group.group ≡ length c.args.before.now.numbers =
    omega (arith, whole, c.entries-group-end.ensures.count, c.entries-group-end.ensures.value, c.loop-group.invariant.within, c.loop-group-test.false) in
    subst (λ k. StayInOrder c.args.first (c.args.first + k) c.args.clusters.now c.loop-group.clusters) end c.loop-group.invariant.order
