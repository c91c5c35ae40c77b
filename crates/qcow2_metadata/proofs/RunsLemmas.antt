use Rattle.std.proofs.Common.{add-zero, ◌≡◌, ℕ, Bool, true, false, ◌&&◌, nat_eq, if◌then◌else◌, ◌≢◌, ◌+◌, ◌-◌, ◌*◌, ◌/◌, ◌%◌, ◌^◌, ◌<◌, ◌≤◌, List, length, get_or, take, drop, Option, Some, None, refl, ap, sym, ◌∙◌, inl, inr, arith, length-drop, bit_and, is_some, mod-eq_of_lt, mod-lt, pow_mono, All, get_or-drop, get_or-take, map-id, length-take}
use Rattle.std.proofs.lemmas.Bool.{cases_Bool, cases_lt, ne_eqb, eqb-false}
use Rattle.std.proofs.lemmas.Bool.Decides.{same_from_decides, Decides-eqb, nat_tests}
use Rattle.std.proofs.lemmas.Nat.{and_mask, pow_pos, mul-le, mod-mul-add, same_from_place, div-add-mod'}
use Rattle.std.proofs.lemmas.Nat.Bits.{and_pow}
use Rattle.std.proofs.lemmas.List.Elements.{All-get_or}
use Rattle.qcow2_base.specs.Types.{IsClusterBits}
use Rattle.qcow2_base.specs.declared.types.HostOffset.{HostOffset}
use Rattle.qcow2_metadata.specs.Header.{geometry}
use Rattle.qcow2_metadata.specs.Entries.L2Mapping.{Mapping, compressed, mapping, standard_mapping, host_cluster}
use Rattle.qcow2_metadata.specs.Entries.{is_copied, offset_field}
use Rattle.qcow2_metadata.specs.Entries.L2Entry.{compressed_length, compressed_offset, host_offset, is_allocated, is_compressed, is_zero, l2_fault}
use Rattle.qcow2_metadata.specs.Entries.Runs.{FollowJust, IsPatternOf, follows, reads_on}
use Rattle.qcow2_metadata.specs.Table.{TableState, first_fault, mapping_at}
use Rattle.qcow2_metadata.specs.Table.L2Table.{IsMappedRun}
use Rattle.qcow2_metadata.specs.declared.entries.runs.RunPattern.{RunPattern}
use Rattle.qcow2_metadata.proofs.L2MappingLemmas.{bit, bit_below}
use Rattle.qcow2_metadata.proofs.TableLemmas.{no_fault_item}

-- compressed data reads on from no standard entry
before_compressed : (z cp : Bool) (h : Option ℕ) (k p o m : ℕ) → reads_on k (standard_mapping z h cp p) (compressed o m) ≡ false
before_compressed z cp h k p o m = grind arith

-- an entry with a cluster, and one after it, have the same flag and the cluster that many further on
same_place : (n q q0 k z z0 : ℕ) → 2 ≤ n → z < 2 → z0 < 2 → nat_eq (q * n + z) (q0 * n + z0 + k * n) ≡ (nat_eq z z0 && nat_eq q (q0 + k))
same_place n q q0 k z z0 some low low0 =
    let moved : q0 * n + z0 + k * n ≡ (q0 + k) * n + z0 = omega arith in
    let parts = same_from_place q z (q0 + k) z0 n (omega arith) (omega arith) in
    rw moved (same_from_decides _ _ (Decides-eqb (q * n + z) ((q0 + k) * n + z0)) (λ t. let both : (q ≡ q0 + k) × (z ≡ z0) = grind (arith, nat_tests) in rw (both.0, both.1) refl, λ e. let both = parts e in grind (arith, nat_tests)))

after_cluster : (zb zb0 alloc cp cp0 : Bool) (n q q0 k o p : ℕ) → 2 ≤ n → 1 ≤ k → (1 ≤ q → alloc ≡ true)
    → nat_eq (q * n + bit zb) (q0 * n + bit zb0 + k * n)
    ≡ reads_on k (standard_mapping zb0 (Some q0) cp0 o) (standard_mapping zb (if alloc then Some q else None) cp p)
after_cluster zb zb0 alloc cp cp0 n q q0 k o p some far told = grind (arith, nat_tests, same_place, bit, bit_below)

-- the parts of a valid standard entry
record Parts (cb v : ℕ) : Type 0 where
  lower : v % 2 ^ 63 ≡ offset_field v / 2 ^ cb * 2 ^ cb + bit (is_zero v)
  offset : offset_field v ≡ offset_field v / 2 ^ cb * 2 ^ cb
  small : offset_field v < 2 ^ 56

parts_of : (cb v : ℕ) → l2_fault cb v ≡ None → is_compressed v ≡ false → Parts cb v
parts_of cb v lawful standard = grind (arith, nat_tests, eqb-false, bit, div-add-mod')

-- a compressed number is larger than those that go on from a standard one
compressed_large : (v : ℕ) → is_compressed v ≡ true → 2 ^ 62 ≤ v % 2 ^ 63
compressed_large v is = grind (arith, nat_tests)

standard_low : (cb v k : ℕ) → cb ≤ 21 → k ≤ 262144 → Parts cb v → v % 2 ^ 63 + k * 2 ^ cb < 2 ^ 62
standard_low cb v k high few parts = grind (arith, nat_tests, pow_mono, mul-le, bit_below)

-- what a test of an entry's offset says
pub has_offset : (external : Bool) (v : ℕ) (found : Option HostOffset) (test : Bool) → found ≡ host_offset external v → test ≡ is_some found → test ≡ is_allocated external v
has_offset external v found test is same = rw (same, is) (grind arith)

-- the patterns find just the entries that go on
pub after_a_compressed_entry : (cb : ℕ) (external : Bool) (k v v0 c other : ℕ) → is_compressed v0 ≡ true
    → nat_eq (bit_and v 4611686018427387904) (4611686018427387904 + k * 0) ≡ reads_on k (mapping (geometry cb external) c v0) (mapping (geometry cb external) other v)
after_a_compressed_entry cb external k v v0 c other is =
    let test : nat_eq (bit_and v 4611686018427387904) (4611686018427387904 + k * 0) ≡ is_compressed v =
    grind (arith, nat_tests, and_pow v 62) in
    rw is (test ∙ grind arith)

pub after_an_entry_with_a_cluster : (cb : ℕ) (external : Bool) (k v v0 c other : ℕ) → cb ≤ 21 → 9 ≤ cb → 1 ≤ k → k ≤ 262144 → v < 2 ^ 64
    → l2_fault cb v ≡ None → l2_fault cb v0 ≡ None → is_compressed v0 ≡ false → is_allocated external v0 ≡ true
    → nat_eq (bit_and v 9223372036854775807) (v0 % 2 ^ 63 + k * 2 ^ cb) ≡ reads_on k (mapping (geometry cb external) c v0) (mapping (geometry cb external) other v)
after_an_entry_with_a_cluster cb external k v v0 c other high low far few fits lawful lawful0 standard0 allocated =
    let parts0 = parts_of cb v0 lawful0 standard0 in
    let masked : bit_and v 9223372036854775807 ≡ v % 2 ^ 63 = and_mask v 63 in
    elim (cases_Bool (is_compressed v)) [
      | inl packed ↦
          let large = compressed_large v packed in
          let below = standard_low cb v0 k high few parts0 in
          let differs : nat_eq (bit_and v 9223372036854775807) (v0 % 2 ^ 63 + k * 2 ^ cb) ≡ false = ne_eqb _ _ (λ e. omega (arith, e, masked, large, below)) in
          differs ∙ rw (packed, standard0) (sym (before_compressed (is_zero v0) (is_copied v0) (host_cluster (geometry cb external) v0) k (c * 2 ^ cb) (compressed_offset cb v) (compressed_length cb v)))
      | inr standard ↦
          let parts = parts_of cb v lawful standard in
          let power : 2 ^ 9 ≤ 2 ^ cb = pow_mono low in
          let size : 2 ≤ 2 ^ cb = omega (arith, power) in
          let told : 1 ≤ offset_field v / 2 ^ cb → is_allocated external v ≡ true = λ some. has_cluster external cb v parts some in
          let tests : nat_eq (bit_and v 9223372036854775807) (v0 % 2 ^ 63 + k * 2 ^ cb) ≡ nat_eq (offset_field v / 2 ^ cb * 2 ^ cb + bit (is_zero v)) (offset_field v0 / 2 ^ cb * 2 ^ cb + bit (is_zero v0) + k * 2 ^ cb) =
          rw (masked, parts.lower, parts0.lower) refl in
          tests ∙ after_cluster (is_zero v) (is_zero v0) (is_allocated external v) (is_copied v) (is_copied v0) (2 ^ cb) (offset_field v / 2 ^ cb) (offset_field v0 / 2 ^ cb) k (c * 2 ^ cb) (other * 2 ^ cb) size far told
          ∙ rw (standard, standard0, allocated) refl
    ]
  where
    has_cluster : (external : Bool) (cb v : ℕ) → Parts cb v → 1 ≤ offset_field v / 2 ^ cb → is_allocated external v ≡ true
    has_cluster external cb v parts some =
        let above : offset_field v ≢ 0 = λ zero. omega (arith, mul-le 1 1 (offset_field v / 2 ^ cb) (2 ^ cb) some (pow_pos cb), parts.offset, zero) in
        rw (ne_eqb (offset_field v) 0 above) refl

after_an_entry_without : (cb : ℕ) (external : Bool) (x k v v0 c other : ℕ) → (is_compressed v ≡ true → 2 ≤ x)
    → (is_compressed v ≡ false → (is_allocated external v ≡ true → 2 ≤ x) × (is_allocated external v ≡ false → x ≡ bit (is_zero v)))
    → l2_fault cb v0 ≡ None → is_compressed v0 ≡ false → is_allocated external v0 ≡ false
    → nat_eq x (v0 % 2 ^ 63 + k * 0) ≡ reads_on k (mapping (geometry cb external) c v0) (mapping (geometry cb external) other v)
after_an_entry_without cb external x k v v0 c other packed_large tested lawful0 standard0 none = grind (arith, nat_tests, parts_of, bit, bit_below, before_compressed)

pub after_an_entry_without_one : (cb k v v0 c other : ℕ) → l2_fault cb v ≡ None → l2_fault cb v0 ≡ None → is_compressed v0 ≡ false → is_allocated false v0 ≡ false
    → nat_eq (bit_and v 9223372036854775807) (v0 % 2 ^ 63 + k * 0) ≡ reads_on k (mapping (geometry cb false) c v0) (mapping (geometry cb false) other v)
after_an_entry_without_one cb k v v0 c other lawful lawful0 standard0 none =
    let masked : bit_and v 9223372036854775807 ≡ v % 2 ^ 63 = and_mask v 63 in
    rw masked (after_an_entry_without cb false (v % 2 ^ 63) k v v0 c other
    (λ packed. omega (arith, compressed_large v packed))
    (λ standard. let parts = parts_of cb v lawful standard in (λ is. grind (arith, nat_tests, parts.lower, parts.offset), λ is. grind (arith, nat_tests, parts.lower, parts.offset))) lawful0 standard0 none)

pub after_an_external_entry_without_one : (cb k v v0 c other : ℕ) → v < 2 ^ 64 → l2_fault cb v ≡ None → l2_fault cb v0 ≡ None → is_compressed v0 ≡ false → is_allocated true v0 ≡ false
    → nat_eq (bit_and v 18446744073709551615) (v0 % 2 ^ 63 + k * 0) ≡ reads_on k (mapping (geometry cb true) c v0) (mapping (geometry cb true) other v)
after_an_external_entry_without_one cb k v v0 c other fits lawful lawful0 standard0 none =
    let whole : v % 2 ^ 64 ≡ v = mod-eq_of_lt fits in
    let masked : bit_and v 18446744073709551615 ≡ v = and_mask v 64 ∙ whole in
    rw masked (after_an_entry_without cb true v k v v0 c other
    (λ packed. omega (arith, compressed_large v packed))
    (λ standard. let parts = parts_of cb v lawful standard in (λ is. grind (arith, nat_tests, parts.lower, parts.offset), λ is. grind (arith, nat_tests, parts.lower, parts.offset))) lawful0 standard0 none)

pub step_fits : (cb : ℕ) → cb ≤ 21 → 1 * 2 ^ cb % 2 ^ 64 ≡ 2 ^ cb
step_fits cb high = let power : 2 ^ cb ≤ 2 ^ 21 = pow_mono high in let one : 1 * 2 ^ cb ≡ 2 ^ cb = omega arith in rw one (mod-eq_of_lt (omega (arith, power)))

-- what each cluster reads as goes on from itself
reads_on_itself : (m : Mapping) → reads_on 0 m m ≡ true
reads_on_itself m = grind (arith, nat_tests)

-- the entries after the one at i
record Rest (numbers : List ℕ) (i : ℕ) (rest : List ℕ) : Type 0 where
  count : length rest ≡ length numbers - (i + 1)
  at : (k : ℕ) → k < length rest → get_or rest k 0 ≡ get_or numbers (i + 1 + k) 0

rest_of : (numbers : List ℕ) (i : ℕ) → i < length numbers → Rest numbers i (take (length numbers - (i + 1)) (drop (i + 1) numbers))
rest_of numbers i within = grind (arith, nat_tests, length-drop, length-take, get_or-take, get_or-drop)

-- the place in its table of a guest cluster further on
place_further : (first size i k : ℕ) → i ≡ first % size → i + k < size → (first + k) % size ≡ i + k
place_further first size i k is below =
    let whole : first + k ≡ first / size * size + (i + k) = omega (arith, div-add-mod' first size, is) in
    rw whole (mod-mul-add (first / size) size (i + k) below)

-- the entries of a table that follow a pattern are a run
pub run_of_pattern : (table : TableState) (first count i : ℕ) (entries rest : List ℕ) (pattern : RunPattern)
    → IsClusterBits table.geometry.cluster_bits → i ≡ first % 2 ^ (table.geometry.cluster_bits - 3)
    → length table.numbers ≡ 2 ^ (table.geometry.cluster_bits - 3) → All (λ v. v < 2 ^ 64) table.numbers
    → first_fault (l2_fault table.geometry.cluster_bits) table.numbers ≡ None → entries ≡ table.numbers
    → rest ≡ take (length entries - (i + 1)) (drop (i + 1) entries)
    → IsPatternOf table.geometry (get_or table.numbers i 0) pattern → FollowJust pattern rest count
    → IsMappedRun table first (1 + count)
run_of_pattern table first count i entries rest pattern bits is full fits lawful same is_rest exact counted =
    let cb = table.geometry.cluster_bits in
    let size = 2 ^ (cb - 3) in
    let small : cb - 3 ≤ 18 = omega (arith, bits.1) in
    let few : 2 ^ (cb - 3) ≤ 2 ^ 18 = pow_mono small in
    let some : 0 < size = pow_pos (cb - 3) in
    let here : i < length table.numbers = rw (is, full) (mod-lt first some) in
    let told : Rest table.numbers i rest = rw (is_rest, same) (rest_of table.numbers i here) in
    let before : mapping_at table first ≡ mapping table.geometry first (get_or table.numbers i 0) = rw is refl in
    let further : (k : ℕ) → k < length rest → follows pattern (k + 1) (get_or rest k 0) ≡ reads_on (k + 1) (mapping_at table first) (mapping_at table (first + (k + 1))) =
    λ k below.
    let inside : i + (k + 1) < size = omega (arith, told.count, full, below) in
    let item : get_or rest k 0 ≡ get_or table.numbers (i + (k + 1)) 0 = told.at k below ∙ ap (λ n. get_or table.numbers n 0) (omega arith) in
    let valid : l2_fault cb (get_or table.numbers (i + (k + 1)) 0) ≡ None =
    no_fault_item (λ (v : ℕ). v) (l2_fault cb) table.numbers (i + (k + 1)) 0 (rw (map-id table.numbers) lawful) (omega (arith, full, inside)) in
    let low : get_or table.numbers (i + (k + 1)) 0 < 2 ^ 64 = All-get_or (λ v. v < 2 ^ 64) table.numbers (i + (k + 1)) 0 (omega (arith, full, inside)) fits in
    rw (item, before, place_further first size i (k + 1) is inside)
    (exact (k + 1) (get_or table.numbers (i + (k + 1)) 0) first (first + (k + 1)) (omega arith) (omega (arith, inside, few)) low valid) in
    record {
      some = omega arith;
      within = rw (← is) (omega (arith, told.count, full, counted.within, here));
      each = λ k below. elim (cases_lt 0 k) [
        | inl later ↦ let at : k - 1 + 1 ≡ k = omega arith in rw at at (sym (further (k - 1) (omega (arith, below, counted.within))) ∙ counted.each (k - 1) (omega arith))
        | inr now ↦ let at : k ≡ 0 = omega arith in rw (at, add-zero first) (reads_on_itself (mapping_at table first))
      ];
      ends = λ more. let inside : count < length rest = omega (arith, told.count, full, counted.within, rw (← is) at more) in
          let same : 1 + count ≡ count + 1 = omega arith in
          rw same (sym (further count inside) ∙ counted.ends inside);
    }

-- a pattern's values fit 64 bits for as many entries as a table has
pub pattern_fits : (cb value step n : ℕ) (xs : List ℕ) → cb ≤ 21 → n ≤ 2 ^ (cb - 3) → value + 262144 * step < 2 ^ 64 → value + length (take n xs) * step < 2 ^ 64
pattern_fits cb value step n xs high below fits =
    let small : cb - 3 ≤ 18 = omega (arith, high) in
    let few : 2 ^ (cb - 3) ≤ 2 ^ 18 = pow_mono small in
    let count : length (take n xs) ≤ 262144 = rw length-take (omega (arith, few, below)) in
    omega (arith, mul-le (length (take n xs)) step 262144 step count (omega arith), fits)

-- what the patterns of entries are
pub ruleset patterns = (has_offset, step_fits, after_a_compressed_entry, after_an_entry_with_a_cluster, after_an_external_entry_without_one, after_an_entry_without_one)
