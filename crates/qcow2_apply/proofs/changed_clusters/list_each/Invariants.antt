use Rattle.std.proofs.Common.{◌+◌, ◌≤◌}
use Rattle.qcow2_apply.specs.ChangedClusters.{ListsCounters, StayInOrder}
use Rattle.qcow2_apply.proofs.changed_clusters.list_each.Given as goal

-- the clusters before this one are listed, in their order
abbrev pub invariant-loop-k : goal.invariant-loop-k
invariant-loop-k l = record {
  listed : ListsCounters l.first l.k l.before l.risen l.after l.fn.clusters l.clusters;
  order : StayInOrder l.first (l.first + l.k) l.fn.clusters l.clusters;
  within : l.k ≤ 64;
}
