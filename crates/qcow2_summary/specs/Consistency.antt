-- When is an image consistent?
use Rattle.std.specs.Prelude.{◌≡◌, Bool, true, false, []}
use Rattle.qcow2_base.specs.Storage.{Image}
use Rattle.qcow2_check.specs.Findings.{image_findings}
use Rattle.qcow2_check.specs.Flags.{image_flags}
use Rattle.qcow2_check.specs.Uses.{ImageTables}

-- nothing is wrong with a cluster of an image with these tables, nor with a flag
abbrev pub IsConsistent : ImageTables → Image → Type 0
IsConsistent tables image = (image_findings tables image ≡ []) × (image_flags tables image ≡ [])

-- whether an image is consistent was found
abbrev pub Judges : Bool → ImageTables → Image → Type 0
Judges true tables image = IsConsistent tables image
Judges false tables image = IsConsistent tables image → ⊥
