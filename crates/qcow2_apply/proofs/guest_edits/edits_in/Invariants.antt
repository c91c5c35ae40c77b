use Rattle.std.proofs.Common.{◌≡◌, flat_map, take}
use Rattle.qcow2_apply.specs.GuestEdits.{edits_by}
use Rattle.qcow2_apply.proofs.guest_edits.edits_in.Given as goal

-- the list has the edits of this table that those before are
abbrev pub invariant-loop-edit : goal.invariant-loop-edit
invariant-loop-edit l = l.list.items ≡ flat_map (edits_by l.cluster_bits l.l1_index) (take l.edit-index l.edits)
