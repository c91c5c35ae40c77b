use Rattle.std.proofs.Common.{map-id, ◌≡◌, ℕ, Bool, ◌-◌, ◌^◌, ◌≤◌, List, [], ◌∷◌, map, Option, None, Some, refl, ap, arith, pow_mono}
use Rattle.std.proofs.lemmas.Bool.Decides.{nat_tests}
use Rattle.std.proofs.lemmas.List.Sums.{sum_by-cons}
use Rattle.qcow2_base.specs.Format.{most_l2_entries}
use Rattle.qcow2_base.specs.declared.fault.Fault.{Fault}
use Rattle.qcow2_base.specs.declared.fault.Fault.TheVariants.{TablePlace}
use Rattle.qcow2_metadata.specs.Table.L2Guards.{one_if, references}
use Rattle.qcow2_metadata.specs.Entries.L2Entry.{byte_range, l2_fault, meets, entry_in_copy}
use Rattle.qcow2_metadata.specs.Header.{Geometry}
use Rattle.qcow2_metadata.specs.Table.{entries_fault, first_fault, l2_entries}
use Rattle.qcow2_metadata.proofs.CopiedLemmas.{lawful_without_copied, low_bits, low_field}
use Rattle.qcow2_metadata.proofs.TableLemmas.{no_fault_at_all}

-- an entry refers to the same bytes where a second table has it too
shared-byte_range : (g : Geometry) (v : ℕ) → 9 ≤ g.cluster_bits → g.cluster_bits ≤ 21 → byte_range g (entry_in_copy g.external_data_file v) ≡ byte_range g v
shared-byte_range g v low high = grind (arith, nat_tests, low_field, low_bits)

pub shared-meets : (g : Geometry) (v c : ℕ) → 9 ≤ g.cluster_bits → g.cluster_bits ≤ 21 → meets g (entry_in_copy g.external_data_file v) c ≡ meets g v c
shared-meets g v c low high = rw (shared-byte_range g v low high) refl

-- the references stay where each entry refers to the same clusters
references-map : (g : Geometry) (f : ℕ → ℕ) (numbers : List ℕ) (c : ℕ) → ((v : ℕ) → meets g (f v) c ≡ meets g v c) → references g (map f numbers) c ≡ references g numbers c
references-map g f [] c same = refl
references-map g f (v ∷ vs) c same =
    let refer : ℕ → ℕ = λ w. one_if (meets g w c) in
    omega (arith, ap one_if (same v), references-map g f vs c same, sum_by-cons refer (f v) (map f vs), sum_by-cons refer v vs)

pub references-shared : (g : Geometry) (numbers : List ℕ) (c : ℕ) → 9 ≤ g.cluster_bits → g.cluster_bits ≤ 21 → references g (map (entry_in_copy g.external_data_file) numbers) c ≡ references g numbers c
references-shared g numbers c low high = grind (arith, references-map, shared-meets)

shared_is_lawful : (external : Bool) (cb v : ℕ) → l2_fault cb v ≡ None → l2_fault cb (entry_in_copy external v) ≡ None
shared_is_lawful external cb v lawful = grind (arith, lawful_without_copied)

first_fault-map : (fault : ℕ → Option Fault) (f : ℕ → ℕ) (numbers : List ℕ) → ((v : ℕ) → fault v ≡ None → fault (f v) ≡ None) → first_fault fault numbers ≡ None → first_fault fault (map f numbers) ≡ None
first_fault-map fault f [] keeps_clusters none = refl
first_fault-map fault f (v ∷ vs) keeps_clusters none =
    let both = no_fault_at_all (fault v) (first_fault fault vs) none in
    rw (keeps_clusters v both.0) (first_fault-map fault f vs keeps_clusters both.1)

pub shared-lawful : (external : Bool) (cb : ℕ) (numbers : List ℕ) → first_fault (l2_fault cb) numbers ≡ None → first_fault (l2_fault cb) (map (entry_in_copy external) numbers) ≡ None
shared-lawful external cb numbers none =
    first_fault-map (l2_fault cb) (entry_in_copy external) numbers (λ v lawful. shared_is_lawful external cb v lawful) none

-- what a copy of a table is
pub ruleset clones = (map-id, shared-lawful, references-shared)

-- an L2 table never has too many entries, so only its end can refuse its place
pub refused-by_end : (cb n offset : ℕ) (fault : Fault) → cb ≤ 21 → n ≡ l2_entries cb → entries_fault most_l2_entries offset n ≡ Some fault → fault ≡ TablePlace
refused-by_end cb n offset fault high count refused =
    let bits : cb - 3 ≤ 18 = omega arith in
    let few : 2 ^ (cb - 3) ≤ 2 ^ 18 = pow_mono bits in
    grind (arith, nat_tests)
