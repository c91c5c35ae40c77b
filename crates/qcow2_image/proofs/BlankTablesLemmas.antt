use Rattle.std.proofs.lemmas.Bool.Decides.{nat_tests}
use Rattle.std.proofs.Common.{◌≡◌, ℕ, Bool, true, IsTrue, List, Ok, ap, inl, inr, nat_eq, ◌+◌, ◌*◌, ◌^◌, length, slice_index, zero-add, arith}
use Rattle.std.proofs.Math.Nat.{mod-eq_of_lt}
use Rattle.qcow2_base.specs.Storage.{Image}
use Rattle.qcow2_base.specs.declared.types.HostCluster.{HostCluster}
use Rattle.qcow2_metadata.specs.Entries.Runs.{reads_on}
use Rattle.qcow2_metadata.specs.Entries.L2Mapping.{Mapping, backing, mapping}
use Rattle.qcow2_metadata.specs.Header.{Geometry}
use Rattle.qcow2_metadata.specs.Table.{TableState, l2_entries, loaded_l2_table, mapping_at, place_in_table}
use Rattle.qcow2_metadata.specs.Table.L2Table.{IsMappedRun}
use Rattle.qcow2_image.specs.BlankTables.{AddsBlank, AreBlankIn, IsBlank}
use Rattle.qcow2_image.specs.declared.blank_tables.BlankTables.{BlankTables}

-- an entry that reads on from one left to the backing file is left to it, whichever guest cluster it is for
pub left_as_well : (g : Geometry) (offset c other v k : ℕ) → reads_on k (backing offset) (mapping g c v) ≡ true → mapping g other v ≡ backing (other * 2 ^ g.cluster_bits)
left_as_well g offset c other v k reads = grind (arith, reads)

-- a table of one run that begins with such an entry is blank
pub blank_run : (table : TableState) (count entries offset : ℕ) (found : Mapping) → found ≡ mapping_at table 0 → found ≡ backing offset → IsMappedRun table 0 count → IsTrue (nat_eq count entries)
    → entries ≡ length table.numbers → length table.numbers ≡ l2_entries table.geometry.cluster_bits → IsBlank table.geometry table.numbers
blank_run table count entries offset found first is run whole same full = λ guest_cluster i below.
    let all : count ≡ length table.numbers = grind (arith, nat_tests, whole, same) in
    let place : place_in_table table (0 + i) ≡ i = rw (zero-add i) (mod-eq_of_lt (rw full at below)) in
    let reads = run.each i (rw all below) in
    left_as_well table.geometry offset (0 + i) guest_cluster (slice_index table.numbers i) i (rw (← first, is, place) at reads)

-- one more table was noted, if it is blank
pub blank_more : (g : Geometry) (image : Image) (old new : BlankTables) (blank : Bool) (cluster : HostCluster) (numbers : List ℕ) → AreBlankIn g image old → AddsBlank blank cluster.0 old new
    → loaded_l2_table g cluster image ≡ Ok numbers → (IsTrue blank → IsBlank g numbers) → AreBlankIn g image new
blank_more g image old new blank cluster numbers before adds loaded is = λ other noted. elim (adds other.0 noted) [
  | inl earlier ↦ before other earlier
  | inr now ↦
      let same : other ≡ cluster = ap (λ (c : ℕ). record { 0 = c }) now.1 in
      rw (same, loaded) (is now.0)
]
