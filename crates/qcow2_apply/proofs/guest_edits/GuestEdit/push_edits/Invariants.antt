use Rattle.std.proofs.Common.{◌≡◌, ◌≤◌, ◌⊎◌, ◌++◌, ◌-◌, ◌%◌, map}
use Rattle.std.specs.List.{range_with_len}
use Rattle.qcow2_metadata.specs.Table.{l2_entries}
use Rattle.qcow2_apply.specs.GuestEdits.{edit_at}
use Rattle.qcow2_apply.proofs.guest_edits.GuestEdit.push_edits.Given as goal

-- the edits of the guest clusters before this one are appended
abbrev pub invariant-loop-cluster : goal.invariant-loop-cluster
invariant-loop-cluster l = record {
  appended : l.edits.items ≡ l.initial.edits.items
      ++ map (λ guest_cluster. edit_at l.self (guest_cluster % l2_entries l.cluster_bits)) (range_with_len l.start (l.cluster - l.start));
  end : (l.cluster ≤ l.end) ⊎ (l.cluster ≡ l.start);
}
