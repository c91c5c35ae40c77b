use Rattle.std.proofs.Common.{flat_map, take}
use Rattle.qcow2_apply.proofs.EditsByTableLemmas.{edits_by_at}
use Rattle.qcow2_apply.specs.Tables.{IsLeftBy}
use Rattle.qcow2_apply.proofs.tables.make_edits.Given as goal

-- the edits at the positions before this one are made
abbrev pub invariant-loop-position : goal.invariant-loop-position
invariant-loop-position l = IsLeftBy l.header (flat_map (edits_by_at l.header.v2.cluster_bits l.index l.edits) (take l.position-index l.positions)) l.initial.table l.table
