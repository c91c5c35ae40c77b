use Rattle.std.proofs.Common.{◌≡◌, ℕ, ◌++◌, ◌∷◌, [], List, false, true, Some, Result, Ok, refl}
use Rattle.std.specs.Prelude.{⊤}
use Rattle.qcow2_base.specs.Storage.{Image, be}
use Rattle.qcow2_base.specs.declared.fault.Fault.{Fault}
use Rattle.qcow2_metadata.specs.Header.{uncounted_part}
use Rattle.qcow2_metadata.specs.Header.Chain.{extensions_at}
use Rattle.qcow2_metadata.specs.Header.Grammar.{accepted_header, header_of}
use Rattle.qcow2_metadata.specs.Results.{and_then, result_map}
use Rattle.qcow2_check.specs.Findings.{checked_tables, findings_from, sought_from}
use Rattle.qcow2_check.specs.Flags.{image_flags}
use Rattle.qcow2_check.specs.Uses.{ImageTables, key_clusters}
use Rattle.qcow2_check.specs.declared.findings.Finding.{Finding}
use Rattle.qcow2_check.specs.declared.flags.FlagPlace.TheVariants.{L1Index, Offset}
use Rattle.qcow2_check.specs.declared.flags.WrongFlag.{WrongFlag}
use Rattle.qcow2_summary.proofs.SampleImage.{Part, byte, counted, entry, laid}

-- `unfolding computing` opens what is needed to compute what is found in an image that is written out
unfoldable computing : ⊤
unfolding accepted_header extensions_at be sought_from key_clusters uncounted_part
computing = tt

-- what a check finds: the findings among clusters 0 to 11, and all wrong flags
record Found : Type 0 where
  findings : List Finding
  flags : List WrongFlag

abbrev found : Image → ImageTables → Found
found image tables = record { findings = findings_from tables image 0 12; flags = image_flags tables image }

-- that of the counted sample image with changes
abbrev found_with : List Part → Result Found Fault
found_with parts = let image = laid (parts ++ counted) in
    and_then (header_of image) (λ header. result_map (found image) (checked_tables header image))

-- a cluster by its number, its counter and its uses
abbrev finding : ℕ → ℕ → ℕ → Finding
finding cluster counter uses = record { cluster = record { 0 = cluster }; counter = counter; uses = uses; shared = false }

-- nothing is found in the image as it is
pub consistent : found_with [] ≡ Ok (record { findings = []; flags = [] })
unfolding computing
consistent = refl

-- cluster 9 is counted 7 times, and nothing refers to it
pub leaked : found_with (byte 2067 7) ≡ Ok (record { findings = finding 9 7 0 ∷ []; flags = [] })
unfolding computing
leaked = refl

-- the data isn't counted, and its flag says that it is counted once
pub missing : found_with (byte 2059 0) ≡ Ok (record {
  findings = finding 5 0 1 ∷ [];
  flags = record { place = Offset (record { 0 = 1536 }); cluster = record { 0 = 5 }; counter = Some 0; is_set = true } ∷ [];
})
unfolding computing
missing = refl

-- an entry names the L1 table, which is counted for both
pub shared : found_with (entry 1056 0 2 0 ++ byte 2051 2) ≡ Ok (record {
  findings = record { cluster = record { 0 = 1 }; counter = 2; uses = 2; shared = true } ∷ [];
  flags = [];
})
unfolding computing
shared = refl

-- two entries name the data, which is counted for both, and the first has the flag
pub false_flag : found_with (entry 1056 0 0x0a 0 ++ byte 2059 2) ≡ Ok (record {
  findings = [];
  flags = record { place = Offset (record { 0 = 1536 }); cluster = record { 0 = 5 }; counter = Some 2; is_set = true } ∷ [];
})
unfolding computing
false_flag = refl

-- the entry of the L2 table doesn't have the flag
pub late_flag : found_with (byte 512 0) ≡ Ok (record {
  findings = [];
  flags = record { place = L1Index 0; cluster = record { 0 = 2 }; counter = Some 1; is_set = false } ∷ [];
})
unfolding computing
late_flag = refl
