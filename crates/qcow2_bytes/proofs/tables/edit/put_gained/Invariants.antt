use Rattle.std.proofs.Common.{take}
use Rattle.qcow2_edits.specs.Edits.{cluster_numbers}
use Rattle.qcow2_bytes.specs.Images.Extents.{IsPutOver}
use Rattle.qcow2_bytes.proofs.tables.edit.put_gained.Given as goal

-- the clusters before this one are put
abbrev pub invariant-loop-index : goal.invariant-loop-index
invariant-loop-index l = IsPutOver (cluster_numbers (take l.index l.clusters)) l.fn.gained l.gained
