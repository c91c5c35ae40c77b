use Rattle.std.proofs.Common.{◌+◌, ◌*◌, ◌≤◌, length}
use Rattle.qcow2_apply.specs.ChangedClusters.{ListsCounters, StayInOrder}
use Rattle.qcow2_apply.proofs.changed_clusters.list_block.Given as goal

-- the clusters before this group are listed, in their order
abbrev pub invariant-loop-group : goal.invariant-loop-group
invariant-loop-group l = record {
  listed : ListsCounters l.first (64 * l.group) l.before.numbers l.risen.numbers l.after.numbers l.fn.clusters l.clusters;
  order : StayInOrder l.first (l.first + 64 * l.group) l.fn.clusters l.clusters;
  within : 64 * l.group ≤ length l.before.numbers;
}
