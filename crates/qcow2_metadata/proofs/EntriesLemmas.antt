use Rattle.std.proofs.Common.{◌≡◌, ℕ, Bool, false, not, IsTrue, ◌&&◌, ◌||◌, nat_eq, nat_lt, if◌then◌else◌, ◌+◌, ◌-◌, ◌*◌, ◌/◌, ◌%◌, ◌^◌, ◌<◌, ◌≤◌, ◌↔◌, Option, Some, None, option_map, unwrap_or, refl, sym, ◌∙◌, inl, inr, subst, add-zero, arith}
use Rattle.std.proofs.lemmas.Bool.{cases_lt}
use Rattle.std.proofs.lemmas.Nat.{mod_below, pow_pos, pow-add, mod-pow-add}
use Rattle.std.proofs.Math.Nat.{mul_assoc, mul-mod_left, le-div_iff_mul-le, div-mul-le_self, mul-div_cancel, zero-mod, add-mul-div_right}
use Rattle.std.proofs.Math.Pow.{mod-mod-pow, pow_mono}
use Rattle.std.proofs.lemmas.Bool.Decides.{nat_tests}
use Rattle.qcow2_metadata.specs.Header.{Geometry}
use Rattle.qcow2_metadata.specs.Entries.L2Entry.{ByteRange, IsAllocation, Meets, allocation, byte_range, clusters_met, is_compressed, l2_fault, l2_reserved_bits, meets}
use Rattle.qcow2_metadata.specs.Entries.{IsAmong, entry_fault, is_among, offset_field}
use Rattle.qcow2_metadata.specs.Entries.L1Entry.{l1_fault, l1_reserved_bits}
use Rattle.qcow2_metadata.specs.Entries.RefTableEntry.{ref_fault}

-- some byte of the range lies in cluster c
abbrev RangeMeets : ℕ → ByteRange → ℕ → Type 0
RangeMeets cb range c = (byte : ℕ) × (range.start ≤ byte) × (byte < range.end) × (byte / 2 ^ cb ≡ c)

-- the quotients of numbers by one are in their order
pub div_rises : (a b k : ℕ) → 0 < k → a ≤ b → a / k ≤ b / k
div_rises a b k p h = (le-div_iff_mul-le p).1 (omega (arith, div-mul-le_self a k))

div_above : (q n k : ℕ) → 0 < k → q * k ≤ n → q ≤ n / k
div_above q n k p h = (le-div_iff_mul-le p).1 h

last_reached : (cb : ℕ) (range : ByteRange) → range.start < range.end → range.start / 2 ^ cb ≤ (range.end - 1) / 2 ^ cb
last_reached cb range some = div_rises range.start (range.end - 1) (2 ^ cb) (pow_pos cb) (omega arith)

-- a range meets exactly the clusters from its first byte's to its last byte's
met_clusters : (cb : ℕ) (range : ByteRange) (c : ℕ) → range.start < range.end → RangeMeets cb range c ↔ IsAmong (clusters_met cb range) c
met_clusters cb range c some =
    let p = pow_pos cb in
    let last = last_reached cb range some in (
      λ met. (omega (arith, met.3, div_rises range.start met.0 (2 ^ cb) p met.1), omega (arith, met.3, last, div_rises met.0 (range.end - 1) (2 ^ cb) p (omega (arith, met.2)))),
      λ among.
          let fits = (le-div_iff_mul-le {k = 2 ^ cb} {x = c} {y = range.end - 1} p).0 (omega (arith, last, among.0, among.1)) in
          elim (cases_lt (c * 2 ^ cb) range.start) [
            | inl later ↦ (range.start, omega arith, some, omega (arith, among.0, div_above c range.start (2 ^ cb) p (omega arith)))
            | inr at ↦ (c * 2 ^ cb, at, omega (arith, fits), mul-div_cancel c p)
          ],
    )

-- a range of at most two clusters' bytes meets one to three clusters
pub met_count : (cb : ℕ) (range : ByteRange) → range.start < range.end → range.end ≤ range.start + 2 * 2 ^ cb → (1 ≤ (clusters_met cb range).count.0) × ((clusters_met cb range).count.0 ≤ 3)
met_count cb range some short = grind (arith, nat_tests, pow_pos, div_rises, add-mul-div_right, last_reached)

-- as many sectors of 512 bytes as the field can count fill two clusters
pub sectors_fill_two_clusters : (cb : ℕ) → 8 ≤ cb → 2 ^ (cb - 8) * 512 ≡ 2 * 2 ^ cb
sectors_fill_two_clusters cb low = grind (arith, nat_tests, pow-add)

-- the clusters of an entry's range are those that the entry meets
met_by_entry : (g : Geometry) (v c : ℕ) (range : ByteRange) → byte_range g v ≡ Some range → range.start < range.end → Meets g v c ↔ IsAmong (clusters_met g.cluster_bits range) c
met_by_entry g v c range is some =
    let around = met_clusters g.cluster_bits range c some in (
      λ met. let same : met.0 ≡ range = cc in
          around.0 (subst (λ (r : ByteRange). RangeMeets g.cluster_bits r c) same met.2),
      λ among. (range, is, around.1 among),
    )

byte_range_has_bytes : (g : Geometry) (v : ℕ) (range : ByteRange) → byte_range g v ≡ Some range → range.start < range.end
byte_range_has_bytes g v range is = grind (arith, pow_pos)

byte_range_is_short : (g : Geometry) (v : ℕ) (range : ByteRange) → 8 ≤ g.cluster_bits → byte_range g v ≡ Some range → range.end ≤ range.start + 2 * 2 ^ g.cluster_bits
byte_range_is_short g v range low is =
    let sectors = mod_below (v / 2 ^ (70 - g.cluster_bits)) (2 ^ (g.cluster_bits - 8)) (pow_pos (g.cluster_bits - 8)) in
    grind (arith, nat_tests, sectors, sectors_fill_two_clusters g.cluster_bits low)

allocation_by_range : (g : Geometry) (v : ℕ) (found : Option ByteRange) → 8 ≤ g.cluster_bits → byte_range g v ≡ found → IsAllocation g v (option_map (clusters_met g.cluster_bits) found)
allocation_by_range g v None low is = record { value = rw is refl; met = tt; none = λ c met. let no : None ≡ Some met.0 = cc in cc; count = tt }
allocation_by_range g v (Some range) low is =
    let some = byte_range_has_bytes g v range is in
    record {
      value = rw is refl;
      met = λ c. met_by_entry g v c range is some;
      none = tt;
      count = met_count g.cluster_bits range some (byte_range_is_short g v range low is);
    }

-- the clusters of an entry are those that it meets
pub allocation_is : (g : Geometry) (v : ℕ) → 8 ≤ g.cluster_bits → IsAllocation g v (allocation g v)
allocation_is g v low = allocation_by_range g v (byte_range g v) low refl

meets_by_range : (g : Geometry) (v c : ℕ) (found : Option ByteRange) → byte_range g v ≡ found → IsTrue (unwrap_or (option_map (λ clusters. is_among clusters c) (option_map (clusters_met g.cluster_bits) found)) false) ↔ Meets g v c
meets_by_range g v c None is = (λ t. cc, λ met. let no : None ≡ Some met.0 = cc in cc)
meets_by_range g v c (Some range) is =
    let met = met_by_entry g v c range is (byte_range_has_bytes g v range is) in
    let clusters = clusters_met g.cluster_bits range in
    (λ t. met.1 (grind (arith, nat_tests)), λ m. let among = met.0 m in grind (arith, nat_tests))

-- the test whether an entry meets a cluster is true just where it does
pub meets_is_met : (g : Geometry) (v c : ℕ) → IsTrue (meets g v c) ↔ Meets g v c
meets_is_met g v c = meets_by_range g v c (byte_range g v) refl

-- the number 0 is an L2 entry
pub l2_fault_zero : (cb : ℕ) → l2_fault cb 0 ≡ None
l2_fault_zero cb = rw zero-mod refl

-- the cluster of an offset begins at or before it
pub cluster_begins_below : (cb offset : ℕ) → offset / 2 ^ cb * 2 ^ cb ≤ offset
cluster_begins_below cb offset = div-mul-le_self offset (2 ^ cb)

-- a cluster's offset is whole sectors of 512 bytes
pub offset_in_sectors : (cb cluster : ℕ) → 9 ≤ cb → cluster * 2 ^ cb ≡ cluster * 2 ^ (cb - 9) * 512
offset_in_sectors cb cluster low = grind (arith, nat_tests, pow-add, mul_assoc)

-- a cluster's offset is a refcount table entry
pub ref_entry_is_lawful : (cb cluster : ℕ) → 9 ≤ cb → ref_fault cb (cluster * 2 ^ cb) ≡ None
ref_entry_is_lawful cb cluster low = grind (arith, nat_tests, offset_in_sectors, mul-mod_left)

-- a cluster's offset below 2 ^ 56 with the copied flag is an L1 entry
pub l1_entry_is_lawful : (cb cluster : ℕ) → 9 ≤ cb → cluster * 2 ^ cb < 2 ^ 56 → l1_fault cb (2 ^ 63 + cluster * 2 ^ cb) ≡ None
l1_entry_is_lawful cb cluster low fits =
    let offset = cluster * 2 ^ cb in
    let sectors = cluster * 2 ^ (cb - 9) in
    let in_sectors : offset ≡ sectors * 512 = offset_in_sectors cb cluster low in
    let reserved : l1_reserved_bits (2 ^ 63 + offset) ≡ 0 = omega arith in
    let field_is : offset_field (2 ^ 63 + offset) ≡ offset = omega arith in
    let aligned : offset % 2 ^ cb ≡ 0 = mul-mod_left cluster (2 ^ cb) in
    rw (reserved, field_is, aligned) refl

-- the bits of a compressed entry's offset field from bit 56 on are clear just where the offset is below 2 ^ 56
high_bits_clear : (cb v : ℕ) → 9 ≤ cb → cb ≤ 21 → (v / 2 ^ 56 * 2 ^ 56 % 2 ^ (70 - cb) ≡ 0) ↔ (v % 2 ^ (70 - cb) < 2 ^ 56)
high_bits_clear cb v low high = elim (cases_lt 56 (70 - cb)) [
  | inl wide ↦
      let more = 70 - cb - 56 in
      let whole : 70 - cb ≡ more + 56 = omega arith in
      let kept : v / 2 ^ 56 * 2 ^ 56 / 2 ^ 56 ≡ v / 2 ^ 56 = omega arith in
      let clear : v / 2 ^ 56 * 2 ^ 56 % 2 ^ 56 ≡ 0 = omega arith in
      let above : v / 2 ^ 56 * 2 ^ 56 % 2 ^ (more + 56) ≡ v / 2 ^ 56 % 2 ^ more * 2 ^ 56 = rw (kept, clear) at (mod-pow-add (v / 2 ^ 56 * 2 ^ 56) more 56) ∙ add-zero _ in
      let offset = mod-pow-add v more 56 in
      rw whole (λ none. omega (arith, above, offset), λ low. omega (arith, above, offset))
  | inr narrow ↦
      let whole : 56 - (70 - cb) + (70 - cb) ≡ 56 = omega arith in
      let none = sym (mod-mod-pow (v / 2 ^ 56 * 2 ^ 56) (56 - (70 - cb)) (70 - cb)) ∙ rw (whole, mul-mod_left (v / 2 ^ 56) (2 ^ 56), zero-mod) refl in
      (λ _. omega (arith, pow_pos (70 - cb), pow_mono narrow), λ _. none)
]

same_test : (cb v : ℕ) → 9 ≤ cb → cb ≤ 21 → nat_eq (v / 2 ^ 56 * 2 ^ 56 % 2 ^ (70 - cb)) 0 ≡ nat_lt (v % 2 ^ (70 - cb)) (2 ^ 56)
same_test cb v low high = grind (arith, nat_tests, high_bits_clear)

-- a number is valid where its reserved bits are clear and its kind's offset is
pub lawful_by_kind : (clear compressed low aligned : Bool) → IsTrue (clear && (if compressed then low else aligned)) ↔ (entry_fault (not clear || (compressed && not low)) (not compressed && not aligned) ≡ None)
lawful_by_kind clear compressed low aligned = grind arith

by_kind : (compressed low aligned : Bool) → ((compressed && low) || (not compressed && aligned)) ≡ (if compressed then low else aligned)
by_kind compressed low aligned = grind arith

pub l2_is_lawful : (cb v : ℕ) (offset low aligned : Bool) → 9 ≤ cb → cb ≤ 21 → offset ≡ ((is_compressed v && low) || (not (is_compressed v) && aligned)) → low ≡ nat_eq (v / 2 ^ 56 * 2 ^ 56 % 2 ^ (70 - cb)) 0 → aligned ≡ nat_eq (offset_field v % 2 ^ cb) 0 → IsTrue (nat_eq (l2_reserved_bits v) 0 && offset) ↔ (l2_fault cb v ≡ None)
l2_is_lawful cb v offset low aligned least most is compressed standard =
    rw (is, by_kind (is_compressed v) low aligned) (grind (arith, nat_tests, compressed, standard, same_test, lawful_by_kind))
