-- When has an image no errors, and when no leaks?
use Rattle.std.specs.Prelude.{◌≡◌, ◌≤◌, false}
use Rattle.std.specs.List.{All}
use Rattle.qcow2_base.specs.Storage.{Image}
use Rattle.qcow2_check.specs.Findings.{image_findings}
use Rattle.qcow2_check.specs.Flags.{image_flags}
use Rattle.qcow2_check.specs.Uses.{ImageTables}
use Rattle.qcow2_check.specs.declared.findings.Finding.{Finding}
use Rattle.qcow2_check.specs.declared.flags.WrongFlag.{WrongFlag}

-- a cluster is neither missing nor shared: its counter is at least the number of its uses, and these don't exclude each other
abbrev pub IsNoError : Finding → Type 0
IsNoError finding = (finding.uses ≤ finding.counter) × (finding.shared ≡ false)

-- a cluster isn't leaked: its counter is at most the number of its uses
abbrev pub IsNoLeak : Finding → Type 0
IsNoLeak finding = finding.counter ≤ finding.uses

-- a wrong flag isn't false, but late: it isn't set
abbrev pub IsLate : WrongFlag → Type 0
IsLate flag = flag.is_set ≡ false

-- nothing is found of an image with these tables but leaked clusters and late flags: no cluster is missing or shared, and no flag
-- is false
pub record HasNoErrors (tables : ImageTables) (image : Image) : Type 0 where
  pub findings : All IsNoError (image_findings tables image)
  pub flags : All IsLate (image_flags tables image)

-- no leaked cluster is found of it
abbrev pub HasNoLeaks : ImageTables → Image → Type 0
HasNoLeaks tables image = All IsNoLeak (image_findings tables image)
