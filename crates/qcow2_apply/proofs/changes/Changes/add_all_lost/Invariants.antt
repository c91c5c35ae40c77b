use Rattle.std.proofs.Common.{take}
use Rattle.qcow2_metadata.specs.Table.L2Guards.{handed_back}
use Rattle.qcow2_apply.specs.Changes.{AddsChanges}
use Rattle.qcow2_apply.proofs.changes.Changes.add_all_lost.Given as goal

-- the items before this one are counted
abbrev pub invariant-loop-clusters : goal.invariant-loop-clusters
invariant-loop-clusters l = AddsChanges (λ c. 0) (handed_back (take l.clusters-index l.list)) l.initial.self l.self
