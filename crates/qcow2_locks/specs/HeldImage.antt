-- Why can't an image be held?
use Rattle.std.specs.Prelude.{◌≡◌, ◌⊎◌}
use Rattle.qcow2_base.specs.declared.fault.Fault.{Fault}
use Rattle.qcow2_base.specs.declared.fault.Fault.TheVariants.{InUse, NoMemory, Storage}

-- somebody else has the image, a call of the system failed, or memory ran out
abbrev pub IsHoldFault : Fault → Type 0
IsHoldFault fault = (fault ≡ InUse) ⊎ (fault ≡ Storage) ⊎ (fault ≡ NoMemory)
