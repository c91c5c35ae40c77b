-- Which findings does a repair refuse, and what are the tables of an image that none of them is refused of?
use Rattle.std.specs.Prelude.{◌≡◌, ◌⊎◌, ℕ, Bool, true, ◌&&◌, ◌==◌, nat_lt, if◌then◌else◌, is_some, List, [], ◌∷◌, length, Option, Some, None, option_map, Result, Ok}
use Rattle.std.specs.Option.{option_or}
use Rattle.qcow2_base.specs.Storage.{Image}
use Rattle.qcow2_base.specs.declared.fault.Fault.{Fault}
use Rattle.qcow2_base.specs.declared.fault.Fault.TheVariants.{CounterRange, Overlap, Uncounted}
use Rattle.qcow2_metadata.specs.Header.{HeaderRecord, uncounted_part}
use Rattle.qcow2_metadata.specs.Refblock.{greatest_counter}
use Rattle.qcow2_metadata.specs.Results.{and_then, unless_refused}
use Rattle.qcow2_metadata.specs.Table.{IsEntryFault}
use Rattle.qcow2_check.specs.Counters.{block_of_cluster}
use Rattle.qcow2_check.specs.FileEnd.{tables_in_file}
use Rattle.qcow2_check.specs.Findings.{IsCheckFault, checked_tables, image_findings, past_findings}
use Rattle.qcow2_check.specs.L1Length.{short_l1_refusal}
use Rattle.qcow2_check.specs.Uses.{ImageTables}
use Rattle.qcow2_check.specs.declared.findings.Finding.{Finding}

-- why what is found at a cluster can't be repaired: its uses exclude each other, or a block counts it and no counter there
-- holds that many
abbrev pub refusal_of : HeaderRecord → List ℕ → Finding → Option Fault
refusal_of header reftable finding =
    let is_counted = is_some (block_of_cluster header reftable finding.cluster.0) in
    let is_past = nat_lt (greatest_counter header.base.refcount_order) finding.uses in
    if finding.shared then Some Overlap else if is_counted && is_past then Some CounterRange else None

-- why findings can't be repaired, by the first that can't
abbrev pub findings_refusal : HeaderRecord → List ℕ → List Finding → Option Fault
findings_refusal header reftable [] = None
findings_refusal header reftable (finding ∷ findings) =
    option_or (refusal_of header reftable finding) (findings_refusal header reftable findings)

-- whether blocks count the clusters of all these findings, so that each can be made right
abbrev pub are_counted : HeaderRecord → List ℕ → List Finding → Bool
are_counted header reftable [] = true
are_counted header reftable (finding ∷ findings) =
    is_some (block_of_cluster header reftable finding.cluster.0) && are_counted header reftable findings

-- whether a repair leaves nothing wrong in an image with these tables, in a file of that many clusters: blocks count all that is
-- found, and no cluster past the file's end is used
abbrev pub leaves_nothing : ℕ → ImageTables → Image → Bool
leaves_nothing file tables image = are_counted tables.header tables.reftable (image_findings tables image)
    && (length (past_findings file tables image) == 0)

-- why an image with this header can't be repaired, whatever its tables say: a part that isn't read here, or an L1 table that is
-- too short for the disk
abbrev pub header_refusal : HeaderRecord → Option Fault
header_refusal header = option_or (option_map Uncounted (uncounted_part header)) (short_l1_refusal header)

-- why an image with this header and of this length can't be repaired, if it can't: by the header alone, or by a table or block
-- past the end
abbrev pub repair_within : HeaderRecord → ℕ → Image → Result (Unit {0}) Fault
repair_within header len image = unless_refused (header_refusal header) (tables_in_file len header image)

-- the tables of an image by which it can be repaired, or the first fault: that of a check, or of a finding
abbrev pub unrefused_tables : HeaderRecord → Image → Result ImageTables Fault
unrefused_tables header image = and_then (checked_tables header image) (λ tables.
    unless_refused (findings_refusal header tables.reftable (image_findings tables image)) (Ok tables))

-- the same of an image with this header that can be repaired
abbrev pub repairable_tables : HeaderRecord → Image → Result ImageTables Fault
repairable_tables header image = unless_refused (header_refusal header) (unrefused_tables header image)

-- the faults of findings that are looked at: a table's entry is refused, or a finding is
abbrev pub IsFindingRefusal : Fault → Type 0
IsFindingRefusal fault = IsEntryFault fault ⊎ (fault ≡ Overlap) ⊎ (fault ≡ CounterRange)

-- the refusals of a repair before it writes
abbrev pub IsRepairRefusal : HeaderRecord → Fault → Type 0
IsRepairRefusal header fault = IsCheckFault header fault ⊎ (fault ≡ Overlap) ⊎ (fault ≡ CounterRange)
    ⊎ (short_l1_refusal header ≡ Some fault)
