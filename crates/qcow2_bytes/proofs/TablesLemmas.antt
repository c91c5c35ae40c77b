use Rattle.std.proofs.Common.{◌≡◌, ◌↔◌, ℕ, Bool, true, not, ◌&&◌, ◌||◌, nat_eq, ◌+◌, ◌-◌, ◌*◌, ◌/◌, ◌%◌, ◌^◌, ◌<◌, ◌≤◌, bit_and, IsTrue, List, [], ◌∷◌, ◌++◌, drop, length, set, take, None, refl, ap, sym, ◌∙◌, inl, inr, arith, mod-eq_of_lt, pow_mono}
use Rattle.std.proofs.lemmas.Bool.{cases_lt}
use Rattle.std.proofs.lemmas.Bool.Decides.{nat_tests}
use Rattle.std.proofs.lemmas.Nat.{and_block, and_mask, div-add-mod', mod-pow-add, mul-le, pow-add, pow_pos}
use Rattle.std.proofs.lemmas.Nat.Bits.{and_high}
use Rattle.std.proofs.lemmas.List.{drop-drop, drop-set-lt, length-set, take_more_set}
use Rattle.std.proofs.Math.Nat.{mod-le, mul-div_cancel, mul-mod_left, zero-mod}
use Rattle.std.proofs.Math.Pow.{mod-mod-pow}
use Rattle.qcow2_base.specs.Types.{IsClusterBits}
use Rattle.qcow2_metadata.specs.Entries.{offset_field}
use Rattle.qcow2_metadata.specs.Entries.L2Entry.{is_compressed, l2_fault, l2_reserved_bits}
use Rattle.qcow2_metadata.proofs.EntriesLemmas.{l2_is_lawful}
use Rattle.qcow2_metadata.specs.Entries.Runs.{reads_on}
use Rattle.qcow2_metadata.specs.Header.{Geometry, geometry}
use Rattle.qcow2_bytes.specs.Entries.{IsFirstBad, mapping_fields, number_at}
use Rattle.qcow2_bytes.specs.declared.entries.EntryMapping.{EntryMapping}
use Rattle.qcow2_bytes.specs.Tables.{AreTableExtents, IsEntryPattern, IsTableExtent, KeepPattern, are_in_table, entry_mapping, has_pattern}
use Rattle.qcow2_bytes.specs.declared.tables.EntryPattern.{EntryPattern}
use Rattle.qcow2_bytes.specs.declared.images.extents.ExtentFields.{ExtentFields}

-- the bits of a number below a cluster's, but for bit 0, are clear just where bits 1 to 8 are, and the offset is a cluster's
low_bits : (cb v : ℕ) → 9 ≤ cb → cb ≤ 21 → nat_eq (v / 2 * 2 % 2 ^ cb) 0 ≡ (nat_eq (v / 2 ^ 1 % 2 ^ 8) 0 && nat_eq (offset_field v % 2 ^ cb) 0)
low_bits cb v low high =
    let whole : cb - 9 + 9 ≡ cb = omega arith in
    let above : 56 - cb + (cb - 9) ≡ 47 = omega (arith, low, high) in
    let rest = v / 2 ^ 9 % 2 ^ (cb - 9) in
    let same : v / 2 ^ 9 % 2 ^ 47 % 2 ^ (cb - 9) ≡ rest = rw above at (mod-mod-pow (v / 2 ^ 9) (56 - cb) (cb - 9)) in
    let far : v / 2 * 2 / 2 ^ 9 ≡ v / 2 ^ 9 = omega arith in
    let left : v / 2 * 2 % 2 ^ cb ≡ rest * 2 ^ 9 + v / 2 * 2 % 2 ^ 9 = rw far at (rw whole at (mod-pow-add (v / 2 * 2) (cb - 9) 9)) in
    let index : offset_field v / 2 ^ 9 ≡ v / 2 ^ 9 % 2 ^ 47 = omega arith in
    let right : offset_field v % 2 ^ cb ≡ rest * 2 ^ 9 + offset_field v % 2 ^ 9 = rw same at (rw index at (rw whole at (mod-pow-add (offset_field v) (cb - 9) 9))) in
    rw (left, right) (by_parts rest)
  where
    by_parts : (rest : ℕ) → nat_eq (rest * 2 ^ 9 + v / 2 * 2 % 2 ^ 9) 0 ≡ (nat_eq (v / 2 ^ 1 % 2 ^ 8) 0 && nat_eq (rest * 2 ^ 9 + offset_field v % 2 ^ 9) 0)
    by_parts rest = grind (arith, nat_tests)

-- the tests of a number by its kind
by_kind : (v : ℕ) (low aligned eight : Bool) → v < 2 ^ 64 → eight ≡ nat_eq (v / 2 ^ 1 % 2 ^ 8) 0
    → ((nat_eq (v / 2 ^ 62) 1 && low) || (nat_eq (v / 2 ^ 56 % 2 ^ 7) 0 && (eight && aligned)))
    ≡ (nat_eq (l2_reserved_bits v) 0 && ((is_compressed v && low) || (not (is_compressed v) && aligned)))
by_kind v low aligned eight fits is = grind (arith, nat_tests)

-- the two tests of a number say together whether it is an entry
pub entry_tests : (cb v : ℕ) → IsClusterBits cb → v < 2 ^ 64
    → IsTrue ((nat_eq (v / 2 ^ 62) 1 && nat_eq (v / 2 ^ 56 * 2 ^ 56 % 2 ^ (70 - cb)) 0) || (nat_eq (v / 2 ^ 56 % 2 ^ 7) 0 && nat_eq (v / 2 * 2 % 2 ^ cb) 0))
    ↔ (l2_fault cb v ≡ None)
entry_tests cb v bits fits =
    let low = nat_eq (v / 2 ^ 56 * 2 ^ 56 % 2 ^ (70 - cb)) 0 in
    let aligned = nat_eq (offset_field v % 2 ^ cb) 0 in
    rw (low_bits cb v bits.0 bits.1, by_kind v low aligned _ fits refl)
    (l2_is_lawful cb v _ low aligned bits.0 bits.1 refl refl refl)

-- the mask of the bits that a standard entry doesn't have
standard_mask : (cb v : ℕ) → 9 ≤ cb → cb ≤ 21 → nat_eq (bit_and v (127 * 2 ^ 56 + (2 ^ cb - 2))) 0 ≡ (nat_eq (v / 2 ^ 56 % 2 ^ 7) 0 && nat_eq (v / 2 * 2 % 2 ^ cb) 0)
standard_mask cb v low high =
    let r = v % 2 ^ 56 in
    let whole : cb - 1 + 1 ≡ cb = omega (arith, low) in
    let above : 55 - (cb - 1) + (cb - 1) ≡ 55 = omega (arith, high, low) in
    let power : 2 ^ cb ≤ 2 ^ 21 = pow_mono high in
    let split : v ≡ v / 2 ^ 56 * 2 ^ 56 + r = omega arith in
    let block = and_block 56 (v / 2 ^ 56) 127 r (2 ^ cb - 2) (omega arith) (omega (arith, power)) in
    let upper : bit_and (v / 2 ^ 56) 127 ≡ v / 2 ^ 56 % 2 ^ 7 = and_mask (v / 2 ^ 56) 7 in
    let lower : bit_and r (2 ^ cb - 2) ≡ (r / 2 ^ 1 % 2 ^ (cb - 1)) * 2 ^ 1 = rw whole at (and_high r (cb - 1) 1) in
    let half : r / 2 ^ 1 ≡ v / 2 % 2 ^ 55 = omega arith in
    let same : v / 2 % 2 ^ 55 % 2 ^ (cb - 1) ≡ v / 2 % 2 ^ (cb - 1) = rw above at (mod-mod-pow (v / 2) (55 - (cb - 1)) (cb - 1)) in
    let even : v / 2 * 2 % 2 ^ cb ≡ (v / 2 * 2 / 2 ^ 1 % 2 ^ (cb - 1)) * 2 ^ 1 + v / 2 * 2 % 2 ^ 1 = rw whole at (mod-pow-add (v / 2 * 2) (cb - 1) 1) in
    let back : v / 2 * 2 / 2 ^ 1 ≡ v / 2 = omega arith in
    let masked : bit_and v (127 * 2 ^ 56 + (2 ^ cb - 2)) ≡ v / 2 ^ 56 % 2 ^ 7 * 2 ^ 56 + v / 2 % 2 ^ (cb - 1) * 2 =
    ap (λ n. bit_and n (127 * 2 ^ 56 + (2 ^ cb - 2))) split ∙ block ∙ rw (upper, lower, half, same) refl in
    rw (masked, even, back) (by_parts (v / 2 ^ 56 % 2 ^ 7) (v / 2 % 2 ^ (cb - 1)))
  where
    by_parts : (upper lower : ℕ) → nat_eq (upper * 2 ^ 56 + lower * 2) 0 ≡ (nat_eq upper 0 && nat_eq (lower * 2 ^ 1 + v / 2 * 2 % 2 ^ 1) 0)
    by_parts upper lower = grind (arith, nat_tests)

-- the bits of a compressed entry's offset from 56 on
offset_mask : (cb : ℕ) → 9 ≤ cb → cb ≤ 21 → (2 ^ (70 - cb) - 1) / 2 ^ 56 ≡ 2 ^ (14 - cb) - 1
offset_mask cb low high = elim (cases_lt 14 cb) [
  | inl narrow ↦
      let none : 14 - cb ≡ 0 = omega (arith, narrow) in
      let small : 70 - cb ≤ 55 = omega (arith, narrow) in
      let power : 2 ^ (70 - cb) ≤ 2 ^ 55 = pow_mono small in
      rw none (omega (arith, power))
  | inr wide ↦
      let whole : 14 - cb + 56 ≡ 70 - cb = omega (arith, wide) in
      let power : 2 ^ (70 - cb) ≡ 2 ^ (14 - cb) * 2 ^ 56 = rw whole at (pow-add 2 (14 - cb) 56) in
      rw power (omega arith)
]

pub high_fits : (cb : ℕ) → IsClusterBits cb → (2 ^ (70 - cb) - 1) / 2 ^ 56 * 2 ^ 56 ≤ 2 ^ 61
high_fits cb bits =
    let short : 14 - cb ≤ 5 = omega (arith, bits.0) in
    let few : 2 ^ (14 - cb) ≤ 2 ^ 5 = pow_mono short in
    rw (offset_mask cb bits.0 bits.1) (omega (arith, few))

-- the test of these bits
offset_test : (cb a : ℕ) → 9 ≤ cb → cb ≤ 21 → nat_eq (a * 2 ^ 56 % 2 ^ (70 - cb)) 0 ≡ nat_eq (a % 2 ^ 6 % 2 ^ (14 - cb)) 0
offset_test cb a low high = elim (cases_lt 14 cb) [
  | inl narrow ↦
      let none : 14 - cb ≡ 0 = omega (arith, narrow) in
      let whole : 56 - (70 - cb) + (70 - cb) ≡ 56 = omega (arith, narrow) in
      let clear : a * 2 ^ 56 % 2 ^ (70 - cb) ≡ 0 = sym (mod-mod-pow (a * 2 ^ 56) (56 - (70 - cb)) (70 - cb)) ∙ rw (whole, mul-mod_left a (2 ^ 56), zero-mod) refl in
      let one : a % 2 ^ 6 % 2 ^ 0 ≡ 0 = omega arith in
      rw (none, clear, one) refl
  | inr wide ↦
      let whole : 14 - cb + 56 ≡ 70 - cb = omega (arith, wide) in
      let more : 6 - (14 - cb) + (14 - cb) ≡ 6 = omega (arith, low) in
      let split : a * 2 ^ 56 % 2 ^ (70 - cb) ≡ (a * 2 ^ 56 / 2 ^ 56 % 2 ^ (14 - cb)) * 2 ^ 56 + a * 2 ^ 56 % 2 ^ 56 = rw whole at (mod-pow-add (a * 2 ^ 56) (14 - cb) 56) in
      let back : a * 2 ^ 56 / 2 ^ 56 ≡ a = omega arith in
      let same : a % 2 ^ 6 % 2 ^ (14 - cb) ≡ a % 2 ^ (14 - cb) = rw more at (mod-mod-pow a (6 - (14 - cb)) (14 - cb)) in
      rw (split, back, same) (by_parts (a % 2 ^ (14 - cb)))
]
  where
    by_parts : (y : ℕ) → nat_eq (y * 2 ^ 56 + a * 2 ^ 56 % 2 ^ 56) 0 ≡ nat_eq y 0
    by_parts y = grind (arith, nat_tests)

-- and of those that a compressed entry has, or doesn't have
compressed_mask : (cb v : ℕ) → 9 ≤ cb → cb ≤ 21 → v < 2 ^ 64
    → nat_eq (bit_and v (3 * 2 ^ 62 + (2 ^ (70 - cb) - 1) / 2 ^ 56 * 2 ^ 56)) (2 ^ 62) ≡ (nat_eq (v / 2 ^ 62) 1 && nat_eq (v / 2 ^ 56 * 2 ^ 56 % 2 ^ (70 - cb)) 0)
compressed_mask cb v low high fits =
    let a = v / 2 ^ 56 in
    let m = 2 ^ (14 - cb) in
    let short : 14 - cb ≤ 5 = omega (arith, low) in
    let few : 2 ^ (14 - cb) ≤ 2 ^ 5 = pow_mono short in
    let mask : (2 ^ (70 - cb) - 1) / 2 ^ 56 ≡ m - 1 = offset_mask cb low high in
    let whole : 3 * 2 ^ 62 + (m - 1) * 2 ^ 56 ≡ (3 * 2 ^ 6 + (m - 1)) * 2 ^ 56 + 0 = omega arith in
    let split : v ≡ a * 2 ^ 56 + v % 2 ^ 56 = omega arith in
    let parts : a ≡ a / 2 ^ 6 * 2 ^ 6 + a % 2 ^ 6 = omega arith in
    let none : bit_and (v % 2 ^ 56) 0 ≡ 0 = and_mask (v % 2 ^ 56) 0 ∙ omega arith in
    let outer = and_block 56 a (3 * 2 ^ 6 + (m - 1)) (v % 2 ^ 56) 0 (omega arith) (omega arith) in
    let inner = and_block 6 (a / 2 ^ 6) 3 (a % 2 ^ 6) (m - 1) (omega arith) (omega (arith, few)) in
    let upper : bit_and (a / 2 ^ 6) 3 ≡ a / 2 ^ 6 % 2 ^ 2 = and_mask (a / 2 ^ 6) 2 in
    let lower : bit_and (a % 2 ^ 6) (m - 1) ≡ a % 2 ^ 6 % m = and_mask (a % 2 ^ 6) (14 - cb) in
    let byte : bit_and a (3 * 2 ^ 6 + (m - 1)) ≡ a / 2 ^ 6 % 2 ^ 2 * 2 ^ 6 + a % 2 ^ 6 % m =
    ap (λ n. bit_and n (3 * 2 ^ 6 + (m - 1))) parts ∙ inner ∙ rw (upper, lower) refl in
    let masked : bit_and v ((3 * 2 ^ 6 + (m - 1)) * 2 ^ 56 + 0) ≡ (a / 2 ^ 6 % 2 ^ 2 * 2 ^ 6 + a % 2 ^ 6 % m) * 2 ^ 56 + 0 =
    ap (λ n. bit_and n ((3 * 2 ^ 6 + (m - 1)) * 2 ^ 56 + 0)) split ∙ outer ∙ rw (byte, none) refl in
    let offset : nat_eq (a * 2 ^ 56 % 2 ^ (70 - cb)) 0 ≡ nat_eq (a % 2 ^ 6 % m) 0 = offset_test cb a low high in
    let small : a % 2 ^ 6 % m < 64 = omega (arith, mod-le (a % 2 ^ 6) m) in
    rw (mask, whole, masked, offset) (by_kinds (a % 2 ^ 6 % m) small)
  where
    by_kinds : (y : ℕ) → y < 64 → nat_eq ((v / 2 ^ 56 / 2 ^ 6 % 2 ^ 2 * 2 ^ 6 + y) * 2 ^ 56 + 0) (2 ^ 62) ≡ (nat_eq (v / 2 ^ 62) 1 && nat_eq y 0)
    by_kinds y small =
        let same : v / 2 ^ 56 / 2 ^ 6 % 2 ^ 2 ≡ v / 2 ^ 62 = omega (arith, fits) in
        rw same (grind (arith, nat_tests))

-- two masks say together whether a number is an entry
pub entry_masks : (cb v : ℕ) → IsClusterBits cb → v < 2 ^ 64
    → IsTrue (nat_eq (bit_and v (3 * 2 ^ 62 + (2 ^ (70 - cb) - 1) / 2 ^ 56 * 2 ^ 56)) (2 ^ 62) || nat_eq (bit_and v (127 * 2 ^ 56 + (2 ^ cb - 2))) 0)
    ↔ (l2_fault cb v ≡ None)
entry_masks cb v bits fits = rw (compressed_mask cb v bits.0 bits.1 fits, standard_mask cb v bits.0 bits.1) (entry_tests cb v bits fits)

-- sizes of offsets fit 64 bits
pub offsets_fit : (cb : ℕ) → IsClusterBits cb → 1 * 2 ^ (70 - cb) % 2 ^ 64 ≡ 2 ^ (70 - cb)
offsets_fit cb bits =
    let small : 70 - cb ≤ 61 = omega (arith, bits.0) in
    let power : 2 ^ (70 - cb) ≤ 2 ^ 61 = pow_mono small in
    let one : 1 * 2 ^ (70 - cb) ≡ 2 ^ (70 - cb) = omega arith in
    rw one (mod-eq_of_lt (omega (arith, power)))

-- whether the number at a place has the pattern of the one at an index, by the value that is expected there
pub pattern_here : (pattern : EntryPattern) (bytes : List ℕ) (index next expected k : ℕ) → expected ≡ pattern.value + (next - index) * pattern.step → index + k ≡ next
    → has_pattern pattern bytes index k ≡ nat_eq (bit_and (number_at bytes next) pattern.mask) expected
pattern_here pattern bytes index next expected k is same =
    let distance : next - index ≡ k = omega (arith, same) in
    rw (same, is, distance) refl

-- one step further
pub value_more : (value step index next expected : ℕ) → index < next → expected ≡ value + (next - index) * step → expected + step ≡ value + (next + 1 - index) * step
value_more value step index next expected below is =
    let distance : next + 1 - index ≡ next - index + 1 = omega (arith, below) in
    rw distance (omega (arith, is))

both_hold : (a b : Bool) → IsTrue (a && b) ↔ (IsTrue a × IsTrue b)
both_hold a b = grind arith

-- the tests of the numbers from one on up to the next
pub tests_more : (pattern : EntryPattern) (bytes : List ℕ) (index first next expected : ℕ) (all : Bool) → index < next → first ≤ next
    → expected ≡ pattern.value + (next - index) * pattern.step
    → IsTrue all ↔ ((k : ℕ) → first ≤ index + k → index + k < next → has_pattern pattern bytes index k ≡ true)
    → IsTrue (all && nat_eq (bit_and (number_at bytes next) pattern.mask) expected)
    ↔ ((k : ℕ) → first ≤ index + k → index + k < next + 1 → has_pattern pattern bytes index k ≡ true)
tests_more pattern bytes index first next expected all below from is before =
    let here : has_pattern pattern bytes index (next - index) ≡ nat_eq (bit_and (number_at bytes next) pattern.mask) expected =
    pattern_here pattern bytes index next expected (next - index) is (omega (arith, below)) in (
      λ both k least more. elim (cases_lt (index + k) next) [
        | inl earlier ↦ before.0 ((both_hold all _).0 both).0 k least earlier
        | inr now ↦ pattern_here pattern bytes index next expected k is (omega (arith, now, more)) ∙ ((both_hold all _).0 both).1
      ],
      λ each. (both_hold all _).1 (
        before.1 (λ k least earlier. each k least (omega (arith, earlier))),
        sym here ∙ each (next - index) (omega (arith, below, from)) (omega (arith, below)),
      ),
    )

-- a pattern's values fit 64 bits for as many entries as a part of a table has
pub values_fit : (cb value step size : ℕ) → cb ≤ 21 → size ≤ 2 ^ cb → value + 262144 * step < 2 ^ 64 → value + size / 8 * step < 2 ^ 64
values_fit cb value step size high within fits =
    let power : 2 ^ cb ≤ 2 ^ 21 = pow_mono high in
    let few : size / 8 ≤ 262144 = omega (arith, power, within) in
    omega (arith, mul-le (size / 8) step 262144 step few (omega arith), fits)

-- the parts of bytes that are entries of one table
record InTable (cb : ℕ) (bytes : List ℕ) (offset : ℕ) : Type 0 where
  whole : length bytes ≡ 8 * (length bytes / 8)
  small : length bytes / 8 ≤ 262144
  place : offset ≡ offset / 2 ^ cb * 2 ^ cb
  fits : offset + length bytes / 8 * 2 ^ cb < 2 ^ 64

in_table : (cb : ℕ) (bytes : List ℕ) (offset : ℕ) → cb ≤ 21 → are_in_table cb bytes offset ≡ true → InTable cb bytes offset
in_table cb bytes offset high are = grind (arith, nat_tests, pow_mono, div-add-mod')

-- entries of the part take that many bytes of the guest's disk
pub guest_size : (cb : ℕ) (bytes : List ℕ) (offset count : ℕ) → cb ≤ 21 → are_in_table cb bytes offset ≡ true → 8 * count ≤ length bytes → count * 2 ^ cb % 2 ^ 64 ≡ count * 2 ^ cb
guest_size cb bytes offset count high are within =
    let part = in_table cb bytes offset high are in
    mod-eq_of_lt (omega (arith, part.fits, mul-le count (2 ^ cb) (length bytes / 8) (2 ^ cb) (omega (arith, within)) (omega arith)))

-- the entries that keep a pattern are an extent
pub joined_entries : (cb : ℕ) (external : Bool) (offset : ℕ) (bytes : List ℕ) (index end : ℕ) (pattern : EntryPattern) (fields : EntryMapping)
    → IsClusterBits cb → are_in_table cb bytes offset ≡ true → IsFirstBad cb bytes None → ((i : ℕ) → number_at bytes i < 2 ^ 64)
    → IsEntryPattern (geometry cb external) (number_at bytes index) pattern → KeepPattern pattern bytes index (length bytes / 8) end
    → fields ≡ mapping_fields cb (entry_mapping (geometry cb external) offset bytes index)
    → IsTableExtent (geometry cb external) offset bytes index (end - index) (record {
      kind = fields.kind;
      reserved = 0;
      guest_offset = offset + index * 2 ^ cb % 2 ^ 64;
      length = (end - index) * 2 ^ cb % 2 ^ 64;
      offset = fields.offset;
    })
joined_entries cb external offset bytes index end pattern fields bits are valid low exact keeps reads =
    let g = geometry cb external in
    let part = in_table cb bytes offset bits.1 are in
    let first = offset / 2 ^ cb in
    let end_is : index + (end - index) ≡ end = omega (arith, keeps.some) in
    let further : (k : ℕ) → 1 ≤ k → 8 * (index + k) < length bytes → has_pattern pattern bytes index k ≡ reads_on k (entry_mapping g offset bytes index) (entry_mapping g offset bytes (index + k)) =
    λ k some within. exact k (number_at bytes (index + k)) (first + index) (first + (index + k)) some (omega (arith, part.small, within)) (low (index + k)) (valid (index + k) within) in
    record {
      some = omega (arith, keeps.some);
      within = rw end_is (omega (arith, keeps.within));
      fields = rw (reads, guest_size cb bytes offset index bits.1 are (omega (arith, keeps.some, keeps.within)), guest_size cb bytes offset (end - index) bits.1 are (omega (arith, keeps.within))) refl;
      each = λ k some below. sym (further k some (omega (arith, below, keeps.within))) ∙ keeps.each k some (omega (arith, below));
      ends = λ more. sym (further (end - index) (omega (arith, keeps.some)) more) ∙ keeps.ends (omega (arith, rw end_is at more, part.whole)) (end - index) end_is;
    }

-- a guest offset in the part is that of its cluster
pub guest_place : (cb : ℕ) (bytes : List ℕ) (offset index : ℕ) → cb ≤ 21 → are_in_table cb bytes offset ≡ true → 8 * index ≤ length bytes
    → offset + index * 2 ^ cb % 2 ^ 64 ≡ (offset / 2 ^ cb + index) * 2 ^ cb
guest_place cb bytes offset index high are within =
    rw (guest_size cb bytes offset index high are within) (omega (arith, (in_table cb bytes offset high are).place))

-- one more extent after others
extents_more : (g : Geometry) (offset : ℕ) (bytes : List ℕ) (from mid count : ℕ) (extents : List ExtentFields) (extent : ExtentFields)
    → AreTableExtents g offset bytes from extents mid → IsTableExtent g offset bytes mid count extent
    → AreTableExtents g offset bytes from (extents ++ extent ∷ []) (mid + count)
extents_more g offset bytes from mid count [] extent same is = (count, rw (sym same) at is, ap (λ n. n + count) same)
extents_more g offset bytes from mid count (first ∷ extents) extent are is =
    (are.0, are.1, extents_more g offset bytes (from + are.0) mid count extents extent are.2 is)

-- what a loop over entries keeps: the first places have the extents of the entries before an index
pub record JoinsSoFar (g : Geometry) (offset : ℕ) (bytes : List ℕ) (old new : List ExtentFields) (count index : ℕ) : Type 0 where
  pub places : length new ≡ length old
  pub within : count ≤ length new
  pub entries : 8 * index ≤ length bytes
  pub extents : AreTableExtents g offset bytes 0 (take count new) index
  pub others : drop count new ≡ drop count old

pub joins_more : (g : Geometry) (offset : ℕ) (bytes : List ℕ) (old new : List ExtentFields) (count index : ℕ) (extent : ExtentFields)
    → JoinsSoFar g offset bytes old new count index → count < length new → (more : ℕ) × IsTableExtent g offset bytes index more extent
    → JoinsSoFar g offset bytes old (set new count extent) (count + 1) (index + extent.length / 2 ^ g.cluster_bits)
joins_more g offset bytes old new count index extent before room is =
    let more = is.0 in
    let size : extent.length / 2 ^ g.cluster_bits ≡ more = ap (λ (e : ExtentFields). e.length / 2 ^ g.cluster_bits) is.1.fields ∙ mul-div_cancel more (pow_pos g.cluster_bits) in
    record {
      places = length-set new count extent ∙ before.places;
      within = rw length-set (omega (arith, room));
      entries = rw size is.1.within;
      extents = rw (size, take_more_set new count extent room) (extents_more g offset bytes 0 index more (take count new) extent before.extents is.1);
      others = drop-set-lt (count + 1) new count extent (omega arith) ∙ drop_one_more new old count before.others;
    }
  where
    drop_one_more : (xs ys : List ExtentFields) (n : ℕ) → drop n xs ≡ drop n ys → drop (n + 1) xs ≡ drop (n + 1) ys
    drop_one_more xs ys n same = sym (drop-drop 1 n xs) ∙ ap (drop 1) same ∙ drop-drop 1 n ys

-- an extent goes forward
pub goes_forward : (g : Geometry) (offset : ℕ) (bytes : List ℕ) (index : ℕ) (extent : ExtentFields) → (more : ℕ) × IsTableExtent g offset bytes index more extent
    → (1 ≤ extent.length / 2 ^ g.cluster_bits) × (8 * (index + extent.length / 2 ^ g.cluster_bits) ≤ length bytes)
goes_forward g offset bytes index extent is =
    let size : extent.length / 2 ^ g.cluster_bits ≡ is.0 = ap (λ (e : ExtentFields). e.length / 2 ^ g.cluster_bits) is.1.fields ∙ mul-div_cancel is.0 (pow_pos g.cluster_bits) in
    rw size (is.1.some, is.1.within)
