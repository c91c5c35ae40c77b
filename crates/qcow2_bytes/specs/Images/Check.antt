-- What does a check of a whole image in memory put into a list, and which totals does it return?
use Rattle.std.specs.Prelude.{◌≡◌, ◌⊎◌, ℕ, ◌+◌, ◌*◌, ◌≤◌, List, length, map, take, Result, Ok, Err, IsErrAnd}
use Rattle.qcow2_base.specs.Fault.{fault_number}
use Rattle.qcow2_base.specs.Storage.{Image}
use Rattle.qcow2_base.specs.declared.fault.Fault.{Fault}
use Rattle.qcow2_check.specs.Findings.{checked_tables, image_findings, is_leaked, is_missing}
use Rattle.qcow2_check.specs.Totals.{totals_on}
use Rattle.qcow2_check.specs.Uses.{ImageTables}
use Rattle.qcow2_check.specs.declared.findings.Finding.{Finding}
use Rattle.qcow2_check.specs.declared.totals.Totals.{Totals}
use Rattle.qcow2_metadata.specs.Results.{IsFromOutside, and_then}
use Rattle.qcow2_metadata.specs.Table.L2Guards.{one_if}
use Rattle.qcow2_bytes.specs.Header.{any_header_of}
use Rattle.qcow2_bytes.specs.Images.Extents.{IsPutOver}
use Rattle.qcow2_bytes.specs.declared.images.check.CheckTotals.{CheckTotals}
use Rattle.qcow2_bytes.specs.declared.images.check.FindingFields.{FindingFields}

-- a finding in fields
abbrev pub finding_fields : Finding → FindingFields
finding_fields finding = record {
  kinds = one_if (is_leaked finding) + 2 * one_if (is_missing finding) + 4 * one_if finding.shared;
  reserved = 0;
  cluster = finding.cluster.0;
  counter = finding.counter;
  uses = finding.uses;
}

-- how many findings there are, and totals, in fields
abbrev pub totals_in_fields : ℕ → Totals → CheckTotals
totals_in_fields findings totals = record {
  findings = findings;
  leaked = totals.leaked;
  missing = totals.missing;
  shared = totals.shared;
  false_flags = totals.false_flags;
  late_flags = totals.late_flags;
}

-- those of an image with these tables
abbrev pub check_totals : ImageTables → Image → CheckTotals
check_totals tables image = totals_in_fields (length (image_findings tables image)) (totals_on tables image)

-- the tables of an image that can be checked, or the first fault, of its header or of its tables
abbrev pub tables_at : Image → Result ImageTables Fault
tables_at image = and_then (any_header_of image) (λ header. checked_tables header image)

-- a list begins with the first of these items, as many as it has room for, and goes on as it was
abbrev pub AreFirstPut : {T : Type 0} → List T → List T → List T → Type 0
AreFirstPut items old new = IsPutOver (take (length old) items) old new

-- what a check of an image with these tables returns and puts: totals, and findings, as many as there is room for; unless a
-- fault comes from outside. Where it can't be checked the list stays, and the fault says why, or comes from outside
abbrev pub PutsFindings : Result ImageTables Fault → Image → List FindingFields → List FindingFields → Result CheckTotals Fault → Type 0
PutsFindings (Ok tables) image old new (Ok totals) = (totals ≡ check_totals tables image)
    × AreFirstPut (map finding_fields (image_findings tables image)) old new
PutsFindings (Ok tables) image old new (Err fault) = IsFromOutside fault
PutsFindings (Err refusal) image old new answer = (new ≡ old)
    × IsErrAnd answer (λ fault. IsFromOutside fault ⊎ (fault ≡ refusal))

-- the refusals of a check: those of a header, of a place and of an entry, which have the numbers 1 to 21, and that of a part
-- of the image that isn't read, 37
abbrev pub IsCheckRefusal : Fault → Type 0
IsCheckRefusal fault = (fault_number fault ≤ 21) ⊎ (fault_number fault ≡ 37)
