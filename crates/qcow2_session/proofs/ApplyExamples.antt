use Rattle.std.proofs.Common.{◌≡◌, ◌∷◌, [], false, true, None, Some, refl}
use Rattle.std.specs.Prelude.{codes}
use Rattle.qcow2_apply.specs.declared.guest_edits.GuestEdit.TheVariants.{Discard, Map, Zero}
use Rattle.qcow2_session.specs.Commands.Apply.{apply_command, disk_edit_of, guest_edit, maps_within}
use Rattle.qcow2_session.specs.declared.commands.Command.TheVariants.{Apply}
use Rattle.qcow2_session.specs.declared.commands.apply.ApplyForm.TheVariants.{Make, Plan}
use Rattle.qcow2_session.specs.declared.commands.apply.DiskEdit.TheVariants.{DiscardCluster, Range}

-- words that say an edit, by decimal and by hexadecimal numbers
mapped : disk_edit_of (codes "map:1024:9") ≡ Some (Range (Map (record { 0 = 1024 }) (record { 0 = 9 })))
mapped = refl

in-hexadecimal : disk_edit_of (codes "keep:0x5000:0x1F") ≡ Some (Range (Zero (record { 0 = 20480 }) 31 true))
in-hexadecimal = refl

zeros : disk_edit_of (codes "zero:512:1024") ≡ Some (Range (Zero (record { 0 = 512 }) 1024 false))
zeros = refl

discarded : disk_edit_of (codes "discard:512:1024") ≡ Some (Range (Discard (record { 0 = 512 }) 1024))
discarded = refl

-- a discard without a length is of one cluster
one-cluster : disk_edit_of (codes "discard:512") ≡ Some (DiscardCluster (record { 0 = 512 }))
one-cluster = refl

of-its-size : guest_edit 65536 (DiscardCluster (record { 0 = 131072 })) ≡ Discard (record { 0 = 131072 }) 65536
of-its-size = refl

-- words that say none: another name, one number where there are two, a sign, no digit, and 17 hexadecimal digits
other-name : disk_edit_of (codes "move:1:2") ≡ None
other-name = refl

one-number : disk_edit_of (codes "zero:512") ≡ None
one-number = refl

signed : disk_edit_of (codes "map:+1:2") ≡ None
signed = refl

no-digit : disk_edit_of (codes "map:0x:2") ≡ None
no-digit = refl

too-many-digits : disk_edit_of (codes "discard:0x00000000000000000") ≡ None
too-many-digits = refl

-- edits are made, or with `plan` planned, and there is one at least
made : apply_command (codes "discard:0" ∷ []) ≡ Some (Apply Make (DiscardCluster (record { 0 = 0 }) ∷ []))
made = refl

planned : apply_command (codes "plan" ∷ codes "discard:0" ∷ []) ≡ Some (Apply Plan (DiscardCluster (record { 0 = 0 }) ∷ []))
planned = refl

none-made : apply_command [] ≡ None
none-made = refl

none-planned : apply_command (codes "plan" ∷ []) ≡ None
none-planned = refl

-- a file of 5000 bytes has clusters 0 to 9 of 512 bytes, the last of which is cut
in-cut-cluster : maps_within 5000 9 (Map (record { 0 = 0 }) (record { 0 = 9 })) ≡ true
in-cut-cluster = refl

past-end : maps_within 5000 9 (Map (record { 0 = 0 }) (record { 0 = 10 })) ≡ false
past-end = refl
