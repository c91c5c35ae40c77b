use Rattle.std.proofs.Common.{map, take}
use Rattle.qcow2_bytes.specs.Images.Extents.{IsPutOver}
use Rattle.qcow2_bytes.specs.Tables.Edit.{host_clusters}
use Rattle.qcow2_bytes.proofs.tables.edit.put_freed.Given as goal

-- the ranges before this one are put
abbrev pub invariant-loop-index : goal.invariant-loop-index
invariant-loop-index l = IsPutOver (map host_clusters (take l.index l.clusters)) l.fn.freed l.freed
