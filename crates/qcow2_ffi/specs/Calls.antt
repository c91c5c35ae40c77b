-- What does a call from C return, and what does it leave in the places that it writes to?
use Rattle.std.specs.Prelude.{◌≡◌, ◌⊎◌, ℕ, List, length, min, Option, Some, None, Result, Ok, Err, IfErr, MatchResult}
use Rattle.qcow2_base.specs.Fault.{fault_number}
use Rattle.qcow2_base.specs.Storage.{Image}
use Rattle.qcow2_base.specs.declared.fault.Fault.{Fault}
use Rattle.qcow2_base.specs.declared.fault.Fault.TheVariants.{NoMemory}
use Rattle.qcow2_bytes.specs.Entries.{IsFirstBad, flag_number, l1_entry_in, table_geometry}
use Rattle.qcow2_bytes.specs.Header.{ReadsHeader}
use Rattle.qcow2_bytes.specs.Refcounts.{refcounts_of}
use Rattle.qcow2_bytes.specs.Images.Check.{IsCheckRefusal, PutsFindings, tables_at}
use Rattle.qcow2_bytes.specs.Images.Extents.{GuestDisk, PutsDiskExtents}
use Rattle.qcow2_bytes.specs.declared.entries.BadEntry.{BadEntry}
use Rattle.qcow2_bytes.specs.declared.entries.L2Pointer.{L2Pointer}
use Rattle.qcow2_bytes.specs.declared.header.HeaderFields.{HeaderFields}
use Rattle.qcow2_bytes.specs.declared.images.check.CheckTotals.{CheckTotals}
use Rattle.qcow2_bytes.specs.declared.images.check.FindingFields.{FindingFields}
use Rattle.qcow2_bytes.specs.declared.images.extents.CutShort.{CutShort}
use Rattle.qcow2_bytes.specs.declared.images.extents.ExtentFields.{ExtentFields}
use Rattle.qcow2_image.specs.Lookups.{IsImageFault}
use Rattle.qcow2_metadata.specs.Results.{Computes, result_map}

-- a call returns 0 and leaves the value, or the fault's number and what was there before
abbrev pub HandsOver : {T : Type 0} → Result T Fault → ℕ → T → T → Type 0
HandsOver (Ok value) status old new = (status ≡ 0) × (new ≡ value)
HandsOver (Err fault) status old new = (status ≡ fault_number fault) × (new ≡ old)

-- the same of an answer that reads the header of these bytes
abbrev pub HandsOverHeader : List ℕ → ℕ → HeaderFields → HeaderFields → Type 0
HandsOverHeader bytes status old new =
    (answer : Result HeaderFields Fault) × ReadsHeader bytes answer × HandsOver answer status old new

-- the same of an answer that is the expected one, unless memory ran out
abbrev pub HandsOverComputed : {T : Type 0} → Result T Fault → ℕ → T → T → Type 0
HandsOverComputed {T} expected status old new =
    (answer : Result T Fault) × Computes (λ value. value) answer expected × HandsOver answer status old new

-- what a number in an L1 table says, as two numbers
abbrev pub l1_numbers : HeaderFields → ℕ → Result (ℕ × ℕ) Fault
l1_numbers fields entry = result_map (λ (pointer : L2Pointer). (pointer.offset, flag_number pointer.copied)) (l1_entry_in fields entry)

-- a check returns 0 where all numbers are entries. Else it returns the first fault, and leaves where that is
abbrev pub HandsOverBad : Option BadEntry → ℕ → ℕ → ℕ → Type 0
HandsOverBad None status old new = (status ≡ 0) × (new ≡ old)
HandsOverBad (Some bad) status old new = (status ≡ fault_number bad.fault) × (new ≡ bad.index)

-- the same of the bytes of entries, which are looked at by a header's fields; or it is refused, and leaves what was there before
abbrev pub ChecksEntries : HeaderFields → List ℕ → ℕ → ℕ → ℕ → Type 0
ChecksEntries fields bytes status old new = elim (table_geometry fields bytes) [
  | Ok g ↦ (found : Option BadEntry) × IsFirstBad g.cluster_bits bytes found × HandsOverBad found status old new
  | Err fault ↦ (status ≡ fault_number fault) × (new ≡ old)
]

-- a call returns 0 and leaves the expected counters in the bytes of a block, unless memory ran out. Or it returns the fault's
-- number, and leaves the bytes that were there before
abbrev pub SettlesCounters : ℕ → Result (List ℕ) Fault → ℕ → List ℕ → List ℕ → Type 0
SettlesCounters order expected status old new =
    (answer : Result (Unit {0}) Fault) × Computes (λ done. refcounts_of new order) answer expected × (length new ≡ length old)
    × MatchResult answer (λ done. status ≡ 0) (λ fault. (status ≡ fault_number fault) × (new ≡ old))

-- a call returns 0 where a list wasn't cut short by a fault, else the fault's number, and leaves how many items were put
abbrev pub HandsOverCount : Result ℕ CutShort → ℕ → ℕ → Type 0
HandsOverCount (Ok put) status count = (status ≡ 0) × (count ≡ put)
HandsOverCount (Err cut) status count = (status ≡ fault_number cut.fault) × (count ≡ cut.count)

-- the same of the extents of a disk from an offset on, which a list gets
abbrev pub HandsOverDiskExtents : Result GuestDisk Fault → ℕ → List ExtentFields → List ExtentFields → ℕ → ℕ → Type 0
HandsOverDiskExtents disk from old new status count =
    (answer : Result ℕ CutShort) × PutsDiskExtents disk from old new answer
    × IfErr answer (λ cut. (cut.fault ≡ NoMemory) ⊎ IsImageFault cut.fault) × HandsOverCount answer status count

-- a check of an image returns 0 and leaves how many findings it put into a list, and the totals; or the fault's number and what
-- was there before
abbrev pub HandsOverCheck : Image → List FindingFields → List FindingFields → ℕ → ℕ × CheckTotals → ℕ × CheckTotals → Type 0
HandsOverCheck image before after status old new =
    (answer : Result CheckTotals Fault) × PutsFindings (tables_at image) image before after answer
    × IfErr answer (λ fault. (fault ≡ NoMemory) ⊎ IsCheckRefusal fault)
    × HandsOver (result_map (λ (totals : CheckTotals). (min totals.findings (length before), totals)) answer) status old new
