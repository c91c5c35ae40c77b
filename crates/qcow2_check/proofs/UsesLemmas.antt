use Rattle.std.proofs.Common.{◌≡◌, ℕ, true, false, zero, suc, ◌+◌, ◌-◌, ◌*◌, ◌/◌, ◌%◌, ◌^◌, ◌<◌, ◌≤◌, List, [], ◌∷◌, ◌++◌, flat_map, take, length, get_or, slice_index, Some, None, Result, Ok, Err, add-zero, div-add-mod', ap, refl, ◌∙◌, le_refl, arith, Bool, IsTrue, Option, IfSome, OnOk}
use Rattle.std.proofs.lemmas.List.{append-nil}
use Rattle.std.proofs.lemmas.Bool.Decides.{nat_tests}
use Rattle.std.proofs.Math.Pow.{pow_mono}
use Rattle.std.proofs.lemmas.Nat.{div-mul-add, mod-pow-add, mul-add-lt, pow-add, pow_pos}
use Rattle.std.proofs.Math.Nat.{div-div-eq-div-mul, mod-eq_of_lt}
use Rattle.qcow2_metadata.specs.Entries.{offset_field}
use Rattle.qcow2_base.specs.Bits.{field}
use Rattle.qcow2_base.specs.Format.{max_file_length}
use Rattle.qcow2_base.specs.Types.{IsClusterBits}
use Rattle.qcow2_metadata.specs.Entries.L2Entry.{allocation, compressed_length, compressed_offset, is_compressed, l2_fault}
use Rattle.qcow2_metadata.specs.declared.entries.ClustersToFreeEntry.{ClustersToFreeEntry}
use Rattle.std.specs.Prelude.{is_some}
use native.Mathlib.Numerals.{unary_clauses}
use Rattle.std.proofs.Math.Seq.{take-suc}
use Rattle.std.proofs.lemmas.Grind.{flat_map-append}
use Rattle.qcow2_base.specs.Storage.{Image}
use Rattle.qcow2_base.specs.declared.fault.Fault.{Fault}
use Rattle.qcow2_metadata.specs.Header.{Geometry, geometry}
use Rattle.qcow2_metadata.specs.Results.{and_then}
use Rattle.qcow2_check.proofs.TallyLemmas.{counts_then, nothing_counts, times_count}
use Rattle.qcow2_check.specs.Tally.{CountsMore, CountsTimes, TallyState, ClusterUse, repetition, used_clusters}
use Rattle.qcow2_check.specs.Uses.{all_load, entry_uses, l1_entry_loads}
use Rattle.qcow2_check.specs.declared.tally.TallyKind.TheVariants.{Guest}

-- the tables of L1 entries and of one more can be loaded just where those of both can
pub all_load_more : (g : Geometry) (image : Image) (vs : List ℕ) (v : ℕ)
    → all_load g (vs ++ v ∷ []) image ≡ and_then (all_load g vs image) (λ _. l1_entry_loads g image v)
all_load_more g image [] v = grind arith
all_load_more g image (w ∷ vs) v = grind (arith, all_load_more g image vs v)

-- where those of the first entries can, and not that of the next, the fault is that of all
pub all_load_until : (g : Geometry) (image : Image) (vs : List ℕ) (i : ℕ) (fault : Fault) → i < length vs
    → all_load g (take i vs) image ≡ Ok tt → l1_entry_loads g image (slice_index vs i) ≡ Err fault → all_load g vs image ≡ Err fault
all_load_until g image [] i fault below loads refused =
    let never : ⊥ = omega (arith, below) in elim never [ ]
all_load_until g image (v ∷ vs) zero fault below loads refused = grind (arith, refused)
all_load_until g image (v ∷ vs) (suc i) fault below loads refused =
    grind (arith, loads, all_load_until g image vs i fault (omega (arith, below)))

-- the first elements of a list and the next
pub take_more : {X : Type 0} (xs : List X) (i : ℕ) (d : X) → i < length xs → take (i + 1) xs ≡ take i xs ++ get_or xs i d ∷ []
take_more xs i d below = simp unary_clauses (take-suc xs i d below)

-- what the first entries and the next use
pub uses_more : {X : Type 0} (f : X → List ClusterUse) (xs : List X) (i : ℕ) (d : X) → i < length xs
    → flat_map f (take (i + 1) xs) ≡ flat_map f (take i xs) ++ f (get_or xs i d)
uses_more f xs i d below =
    rw (take_more xs i d below, flat_map-append f (take i xs) (get_or xs i d ∷ []))
    (ap (λ ys. flat_map f (take i xs) ++ ys) (append-nil (f (get_or xs i d))))

-- no entry uses clusters of an image whose guest data lies in an external data file
pub no_entry_uses : (g : Geometry) (numbers : List ℕ) → g.external_data_file ≡ true → flat_map (entry_uses g) numbers ≡ []
no_entry_uses g [] external = refl
no_entry_uses g (v ∷ vs) external = grind (arith, external, no_entry_uses g vs external)

pub no_entries_count : (g : Geometry) (numbers : List ℕ) (tally : TallyState) → g.external_data_file ≡ true
    → CountsMore (flat_map (entry_uses g) numbers) tally tally
no_entries_count g numbers tally external = rw (no_entry_uses g numbers external) (record { first = refl; end = omega arith; cells = λ c from before. refl })

-- the answer where all could be loaded
abbrev pub loaded : Result (Unit {0}) Fault
loaded = Ok tt

-- uses of one element of a list, counted after those of the elements before it
pub counts_entry : {X : Type 0} (f : X → List ClusterUse) (xs : List X) (i : ℕ) (d : X) (a b c : TallyState) → i < length xs
    → CountsMore (flat_map f (take i xs)) a b → CountsMore (f (get_or xs i d)) b c → CountsMore (flat_map f (take (i + 1) xs)) a c
counts_entry f xs i d a b c below one other =
    rw (uses_more f xs i d below) (counts_then (flat_map f (take i xs)) (f (get_or xs i d)) a b c one other)

-- a range of one cluster's length that begins with a cluster ends with it
one_cluster : (cb offset : ℕ) → offset % 2 ^ cb ≡ 0 → (offset + 2 ^ cb - 1) / 2 ^ cb ≡ offset / 2 ^ cb
one_cluster cb offset whole =
    let w = 2 ^ cb in
    let q = offset / w in
    let some : 0 < w = pow_pos _ in
    let parts : q * w + offset % w ≡ offset = div-add-mod' offset w in
    let sum : offset + w - 1 ≡ q * w + (w - 1) = omega (arith, parts, whole, some) in
    rw sum (div-mul-add q w (w - 1) (omega (arith, some)))

standard_aligned : (cb v : ℕ) → is_compressed v ≡ false → l2_fault cb v ≡ None → offset_field v % 2 ^ cb ≡ 0
standard_aligned cb v standard valid = grind (arith, nat_tests, standard, valid)

-- a byte of a sector of 512 bytes, in clusters
sector_cluster : (cb sector byte : ℕ) → 9 ≤ cb → byte < 512 → (512 * sector + byte) / 2 ^ cb ≡ sector / 2 ^ (cb - 9)
sector_cluster cb sector byte low within =
    let size : 2 ^ cb ≡ 512 * 2 ^ (cb - 9) = ap (λ n. 2 ^ n) (omega (arith, low)) ∙ pow-add 2 9 (cb - 9) in
    let whole : (512 * sector + byte) / 512 ≡ sector = omega (arith, within) in
    rw (size, ← div-div-eq-div-mul (512 * sector + byte) 512 (2 ^ (cb - 9)), whole) refl

-- a compressed entry's offset, by the sector that it is in
compressed_sector : (cb v : ℕ) → cb ≤ 21 → is_compressed v ≡ true → l2_fault cb v ≡ None
    → compressed_offset cb v ≡ 512 * field v 9 (70 - cb - 9) + v % 512
compressed_sector cb v high compressed valid =
    let bits : 70 - cb ≡ 70 - cb - 9 + 9 = omega (arith, high) in
    let parts : v % 2 ^ (70 - cb - 9 + 9) ≡ field v 9 (70 - cb - 9) * 2 ^ 9 + v % 2 ^ 9 = mod-pow-add v (70 - cb - 9) 9 in
    let low : v % 2 ^ (70 - cb) ≡ field v 9 (70 - cb - 9) * 512 + v % 512 = ap (λ n. v % 2 ^ n) bits ∙ parts in
    let below : v % 2 ^ (70 - cb) < max_file_length = grind (arith, nat_tests, compressed, valid) in
    let same : compressed_offset cb v ≡ v % 2 ^ (70 - cb) = mod-eq_of_lt below in
    omega (arith, same, low)

-- the clusters that a compressed entry refers to
pub compressed_ends : (cb v : ℕ) (clusters : ClustersToFreeEntry) → 9 ≤ cb → cb ≤ 21 → is_compressed v ≡ true → l2_fault cb v ≡ None
    → allocation (geometry cb false) v ≡ Some clusters
    → (clusters.first.0 ≡ field v 9 (70 - cb - 9) / 2 ^ (cb - 9))
    × (clusters.count.0 ≡ (field v 9 (70 - cb - 9) + field v (70 - cb) (cb - 8)) / 2 ^ (cb - 9) - field v 9 (70 - cb - 9) / 2 ^ (cb - 9) + 1)
compressed_ends cb v clusters low high compressed valid refers =
    let sector = field v 9 (70 - cb - 9) in
    let more = field v (70 - cb) (cb - 8) in
    let offset = compressed_sector cb v high compressed valid in
    let within : v % 512 < 512 = omega arith in
    let byte : compressed_offset cb v % 512 ≡ v % 512 = omega (arith, offset) in
    let end : compressed_offset cb v + compressed_length cb v - 1 ≡ 512 * (sector + more) + 511 = omega (arith, offset, byte, within) in
    let first : compressed_offset cb v / 2 ^ cb ≡ sector / 2 ^ (cb - 9) = rw offset (sector_cluster cb sector (v % 512) low within) in
    let last : (compressed_offset cb v + compressed_length cb v - 1) / 2 ^ cb ≡ (sector + more) / 2 ^ (cb - 9) = rw end (sector_cluster cb (sector + more) 511 low (omega arith)) in
    grind (arith, nat_tests, compressed, refers, first, last)

-- the cluster that a standard entry refers to
pub standard_ends : (cb v : ℕ) (clusters : ClustersToFreeEntry) → 9 ≤ cb → is_compressed v ≡ false → l2_fault cb v ≡ None
    → allocation (geometry cb false) v ≡ Some clusters
    → (clusters.first.0 ≡ field v 9 47 / 2 ^ (cb - 9)) × (clusters.count.0 ≡ 1)
standard_ends cb v clusters low standard valid refers =
    let sum : offset_field v ≡ 512 * field v 9 47 + 0 = omega arith in
    let first : offset_field v / 2 ^ cb ≡ field v 9 47 / 2 ^ (cb - 9) = rw sum (sector_cluster cb (field v 9 47) 0 low (omega arith)) in
    let last = one_cluster cb (offset_field v) (standard_aligned cb v standard valid) in
    grind (arith, nat_tests, standard, refers, first, last)

-- and that it refers to, where it isn't the header's
pub standard_cluster : (cb v c : ℕ) → IsClusterBits cb → is_compressed v ≡ false → l2_fault cb v ≡ None → offset_field v / 2 ^ cb ≡ c → 0 < c
    → allocation (geometry cb false) v ≡ Some (record { first = record { 0 = c }; count = record { 0 = 1 } })
standard_cluster cb v c bits standard valid at some =
    let last = one_cluster cb (offset_field v) (standard_aligned cb v standard valid) in
    grind (arith, nat_tests, standard, last, at, some)

-- an entry that refers to one cluster uses that
pub single_use : (cb v first : ℕ) (clusters : ClustersToFreeEntry) → allocation (geometry cb false) v ≡ Some clusters → clusters.first.0 ≡ first → clusters.count.0 ≡ 1
    → entry_uses (geometry cb false) v ≡ used_clusters Guest (record { 0 = first }) 1 ∷ []
single_use cb v first clusters refers at one = grind (arith, nat_tests, refers, at, one)

-- one that refers to none uses none
no_use : (cb v : ℕ) → is_some (allocation (geometry cb false) v) ≡ false → entry_uses (geometry cb false) v ≡ []
no_use cb v none = grind (arith, nat_tests, none)

-- so a use of its one cluster is counted, if it refers to any
pub single_counted : (cb v first last : ℕ) (used : Bool) (old new : TallyState) → first ≡ last → used ≡ is_some (allocation (geometry cb false) v)
    → IfSome (allocation (geometry cb false) v) (λ clusters. (clusters.first.0 ≡ first) × (clusters.count.0 ≡ last - first + 1))
    → (IsTrue used → CountsMore (used_clusters Guest (record { 0 = first }) 1 ∷ []) old new) → (used ≡ false → new ≡ old)
    → CountsMore (entry_uses (geometry cb false) v) old new
single_counted cb v first last used old new single refers bounds counts same = by_clusters (allocation (geometry cb false) v) refl
  where
    by_clusters : (found : Option ClustersToFreeEntry) → allocation (geometry cb false) v ≡ found → CountsMore (entry_uses (geometry cb false) v) old new
    by_clusters None none =
        let unused : used ≡ false = refers ∙ rw none refl in
        rw (no_use cb v (rw none refl), same unused) (record { first = refl; end = le_refl old.end; cells = λ c from before. refl })
    by_clusters (Some clusters) some =
        let ends : (clusters.first.0 ≡ first) × (clusters.count.0 ≡ last - first + 1) = rw some at bounds in
        let one : clusters.count.0 ≡ 1 = omega (arith, ends.1, single) in
        let is_used : used ≡ true = refers ∙ rw some refl in
        rw (single_use cb v first clusters some ends.0 one) (counts is_used)

-- the entry 0 uses none
pub unallocated_uses : (g : Geometry) → g.external_data_file ≡ false → entry_uses g 0 ≡ []
unallocated_uses g inside = rw inside refl

-- and so entries 0 add none to those before them
pub unallocated_more : (f : ℕ → List ClusterUse) (numbers : List ℕ) (i k : ℕ) → f 0 ≡ [] → i + k ≤ length numbers
    → ((j : ℕ) → j < k → slice_index numbers (i + j) ≡ 0) → flat_map f (take (i + k) numbers) ≡ flat_map f (take i numbers)
unallocated_more f numbers i zero none within zeros = rw (add-zero i) refl
unallocated_more f numbers i (suc k) none within zeros =
    let sum : i + suc k ≡ i + k + 1 = omega arith in
    let last : get_or numbers (i + k) 0 ≡ 0 = zeros k (omega arith) in
    rw (sum, uses_more f numbers (i + k) 0 (omega (arith, within)), last, none, append-nil (flat_map f (take (i + k) numbers)))
    (unallocated_more f numbers i k none (omega (arith, within)) (λ j below. zeros j (omega (arith, below))))

-- the number of the guest cluster of each entry that an L1 table of the most entries leads to fits 40 bits
pub guest_fits : (cb index l2_index : ℕ) → cb ≤ 21 → index < 4194304 → l2_index < 2 ^ (cb - 3) → index * 2 ^ (cb - 3) + l2_index < 2 ^ 40
guest_fits cb index l2_index low l1 l2 =
    let few : cb - 3 ≤ 18 = omega (arith, low) in
    let entries : 2 ^ (cb - 3) ≤ 2 ^ 18 = pow_mono few in
    let below = mul-add-lt index (2 ^ (cb - 3)) l2_index 4194304 l1 l2 in
    omega (arith, below, entries)

-- what an entry uses, that many times over
pub entry_counts : (cb v times : ℕ) (clusters : ClustersToFreeEntry) (answer : Result (Unit {0}) Fault) (a b : TallyState)
    → allocation (geometry cb false) v ≡ Some clusters → OnOk answer (CountsTimes times (record { kind = Guest; clusters = clusters }) a b)
    → OnOk answer (CountsMore (repetition times (entry_uses (geometry cb false) v)) a b)
entry_counts cb v times clusters (Ok done) a b is counts = rw is (times_count times (record { kind = Guest; clusters = clusters }) a b counts)
entry_counts cb v times clusters (Err fault) a b is counts = tt

pub no_entry_counts : (cb v times : ℕ) (tally : TallyState) → allocation (geometry cb false) v ≡ None
    → CountsMore (repetition times (entry_uses (geometry cb false) v)) tally tally
no_entry_counts cb v times tally none = rw none (nothing_counts times tally)
