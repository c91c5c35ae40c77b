use Rattle.std.proofs.Common.{take}
use Rattle.qcow2_apply.specs.MappedClusters.{HoldsMappings}
use Rattle.qcow2_apply.proofs.mapped_clusters.MappedClusters.of.Given as goal

-- the edits before this one are counted
abbrev pub invariant-loop-edit : goal.invariant-loop-edit
invariant-loop-edit l = HoldsMappings (take l.edit-index l.edits) l.mapped
