use Rattle.std.proofs.Common.{◌-◌, ◌≤◌}
use Rattle.qcow2_check.specs.Tally.{CountsTimes}
use Rattle.qcow2_check.specs.Tally.{used_clusters}
use Rattle.qcow2_check.proofs.counting.count_clusters.Given as goal

-- the clusters before this one are counted
abbrev pub invariant-loop-cluster : goal.invariant-loop-cluster
invariant-loop-cluster l = record {
  counted : CountsTimes l.times (used_clusters l.kind l.fn.first (l.cluster - l.fn.first.0)) l.initial.tally l.tally;
  within : l.cluster ≤ l.cluster-end;
}
