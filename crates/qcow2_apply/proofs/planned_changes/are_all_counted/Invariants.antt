use Rattle.std.proofs.Common.{take}
use Rattle.std.specs.List.{All}
use Rattle.qcow2_apply.specs.PlannedChanges.{HaveCounters}
use Rattle.qcow2_apply.proofs.planned_changes.are_all_counted.Given as goal

-- the clusters of the items before this one have counters
abbrev pub invariant-loop-clusters : goal.invariant-loop-clusters
invariant-loop-clusters l = All (HaveCounters l.counters.header l.counters.reftable) (take l.clusters-index l.list)
