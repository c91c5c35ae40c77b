use Rattle.std.proofs.lemmas.Bool.Decides.{nat_tests}
use Rattle.std.proofs.Common.{◌≡◌, ℕ, ◌+◌, ◌%◌, ap, sym, ◌∙◌, slice_index, arith}
use Rattle.std.proofs.Math.Nat.{mod-add-mod}
use Rattle.qcow2_metadata.specs.Entries.Runs.{reads_on}
use Rattle.qcow2_metadata.specs.Entries.L2Mapping.{mapping}
use Rattle.qcow2_metadata.specs.Header.{Geometry}
use Rattle.qcow2_metadata.specs.Table.{TableState, l2_entries, mapping_at, place_in_table}
use Rattle.qcow2_metadata.specs.Table.L2Table.{IsMappedRun}

-- whether entries read on doesn't depend on the guest clusters that they are for
reads_on_anywhere : (g : Geometry) (a b c d v w k : ℕ) → reads_on k (mapping g a v) (mapping g b w) ≡ reads_on k (mapping g c v) (mapping g d w)
reads_on_anywhere g a b c d v w k = grind (arith, nat_tests)

same_place : (a b k n : ℕ) → a % n ≡ b % n → (a + k) % n ≡ (b + k) % n
same_place a b k n same = sym (mod-add-mod a n k) ∙ ap (λ m. (m + k) % n) same ∙ mod-add-mod b n k

-- entries are as many in a run for each guest cluster that the first of them is for
pub run_again : (table : TableState) (first other count : ℕ) → IsMappedRun table first count → place_in_table table other ≡ place_in_table table first → IsMappedRun table other count
run_again table first other count run same =
    let size = l2_entries table.geometry.cluster_bits in
    let read : (k : ℕ) → reads_on k (mapping_at table other) (mapping_at table (other + k)) ≡ reads_on k (mapping_at table first) (mapping_at table (first + k)) =
    λ k. rw (same, same_place other first k size same) (reads_on_anywhere table.geometry other (other + k) first (first + k) (slice_index table.numbers (place_in_table table first)) (slice_index table.numbers (place_in_table table (first + k))) k) in
    record {
      some = run.some;
      within = rw same run.within;
      each = λ k below. read k ∙ run.each k below;
      ends = λ more. read count ∙ run.ends (rw same at more);
    }
