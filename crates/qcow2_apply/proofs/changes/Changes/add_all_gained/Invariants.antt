use Rattle.std.proofs.Common.{take}
use Rattle.qcow2_edits.specs.Edits.{cluster_numbers}
use Rattle.qcow2_metadata.specs.Table.L2Guards.{times_gained}
use Rattle.qcow2_apply.specs.Changes.{AddsChanges}
use Rattle.qcow2_apply.proofs.changes.Changes.add_all_gained.Given as goal

-- the clusters before this one are counted
abbrev pub invariant-loop-cluster : goal.invariant-loop-cluster
invariant-loop-cluster l = AddsChanges (times_gained (cluster_numbers (take l.cluster-index l.clusters))) (λ c. 0) l.initial.self l.self
