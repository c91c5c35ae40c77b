use Rattle.std.proofs.Common.{◌≡◌, flat_map, take}
use Rattle.qcow2_apply.proofs.EditsByTableLemmas.{edits_by_at}
use Rattle.qcow2_apply.proofs.guest_edits.edits_at.Given as goal

-- the list has the edits of this table that those at the positions before are
abbrev pub invariant-loop-position : goal.invariant-loop-position
invariant-loop-position l = l.list.items ≡ flat_map (edits_by_at l.cluster_bits l.l1_index l.edits) (take l.position-index l.positions)
