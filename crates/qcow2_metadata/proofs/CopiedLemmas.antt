use Rattle.std.proofs.Common.{◌≡◌, ℕ, Bool, true, false, ◌&&◌, nat_eq, ◌+◌, ◌-◌, ◌*◌, ◌/◌, ◌%◌, ◌^◌, ◌<◌, ◌≤◌, None, refl, ap, sym, ◌∙◌, subst, add-zero, inl, inr, arith}
use Rattle.std.proofs.lemmas.Bool.{cases_lt}
use Rattle.std.proofs.lemmas.Bool.Decides.{nat_tests}
use Rattle.std.proofs.lemmas.Nat.{div-mul-add, mod-pow-add, pow_pos}
use Rattle.std.proofs.Math.Nat.{mod-le, mod-lt}
use Rattle.std.proofs.Math.Pow.{mod-mod-pow}
use Rattle.qcow2_base.specs.Bits.{field}
use Rattle.qcow2_base.specs.Types.{IsClusterBits}
use Rattle.qcow2_metadata.specs.Entries.{is_copied, offset_field, with_copied}
use Rattle.qcow2_metadata.specs.Entries.L1Entry.{l1_fault}
use Rattle.qcow2_metadata.specs.Entries.L2Entry.{allocation, byte_range, host_offset, is_compressed, is_zero, l2_fault, meets, refers_by_flag}
use Rattle.qcow2_metadata.specs.Header.{Geometry}

-- the bits below bit 63 stay without bit 63
pub low_bits : (v a : ℕ) → a ≤ 63 → v % 2 ^ 63 % 2 ^ a ≡ v % 2 ^ a
low_bits v a low =
    let split : 63 - a + a ≡ 63 = omega arith in
    rw split at (mod-mod-pow v (63 - a) a)

pub low_field : (v a b : ℕ) → a + b ≤ 63 → field (v % 2 ^ 63) a b ≡ field v a b
low_field v a b low =
    let split : 63 - a + a ≡ 63 = omega arith in
    let rest : 63 - a - b + b ≡ 63 - a = omega arith in
    let parts = rw split at (mod-pow-add v (63 - a) a) in
    let above = ap (λ n. n / 2 ^ a) parts ∙ div-mul-add (v / 2 ^ a % 2 ^ (63 - a)) (2 ^ a) (v % 2 ^ a) (mod-lt v (pow_pos a)) in
    ap (λ n. n % 2 ^ b) above ∙ (rw rest at (mod-mod-pow (v / 2 ^ a) (63 - a - b) b))

-- what is below 2 ^ 56 in the lowest bits is so without bit 63
low_bits_below : (v k : ℕ) → v % 2 ^ k < 2 ^ 56 → v % 2 ^ 63 % 2 ^ k < 2 ^ 56
low_bits_below v k low = elim (cases_lt 63 k) [
  | inl wide ↦
      let split : k - 63 + 63 ≡ k = omega arith in
      let same = rw split at (mod-mod-pow v (k - 63) 63) in
      omega (arith, same, mod-le (v % 2 ^ 63) (2 ^ k), mod-le (v % 2 ^ k) (2 ^ 63))
  | inr narrow ↦ rw (low_bits v k narrow) low
]

-- a valid entry is valid without its copied flag, whatever is above bit 63
pub lawful_without_copied : (cb v : ℕ) → l2_fault cb v ≡ None → l2_fault cb (v % 2 ^ 63) ≡ None
lawful_without_copied cb v lawful = grind (arith, nat_tests, low_field, low_bits_below)

-- with the flag or without it an entry has the same bits below bit 63
pub lower-with_copied : (copied : Bool) (v : ℕ) → with_copied copied v % 2 ^ 63 ≡ v % 2 ^ 63
lower-with_copied true v = omega arith
lower-with_copied false v = omega arith

pub low_bits-with_copied : (copied : Bool) (v a : ℕ) → a ≤ 63 → with_copied copied v % 2 ^ a ≡ v % 2 ^ a
low_bits-with_copied copied v a low =
    sym (low_bits (with_copied copied v) a low) ∙ ap (λ n. n % 2 ^ a) (lower-with_copied copied v) ∙ low_bits v a low

pub field-with_copied : (copied : Bool) (v a b : ℕ) → a + b ≤ 63 → field (with_copied copied v) a b ≡ field v a b
field-with_copied copied v a b low =
    sym (low_field (with_copied copied v) a b low) ∙ ap (λ n. field n a b) (lower-with_copied copied v) ∙ low_field v a b low

-- it has the flag that it was given
pub is_copied-with_copied : (copied : Bool) (v : ℕ) → is_copied (with_copied copied v) ≡ copied
is_copied-with_copied true v = grind (arith, nat_tests)
is_copied-with_copied false v = grind (arith, nat_tests)

-- the last flag that it was given
pub with_copied-twice : (first copied : Bool) (v : ℕ) → with_copied copied (with_copied first v) ≡ with_copied copied v
with_copied-twice first copied v = rw (lower-with_copied first v) refl

-- and fits 64 bits
pub with_copied-fits : (copied : Bool) (v : ℕ) → with_copied copied v < 2 ^ 64
with_copied-fits true v = omega arith
with_copied-fits false v = omega arith

-- an entry stays with the flag that it has
pub with_copied-same : (v : ℕ) → v < 2 ^ 64 → with_copied (is_copied v) v ≡ v
with_copied-same v fits = elim (cases_lt v (2 ^ 63)) [
  | inl clear ↦
      let flag : is_copied v ≡ false = grind (arith, nat_tests) in
      rw flag (omega arith)
  | inr set ↦
      let flag : is_copied v ≡ true = grind (arith, nat_tests) in
      rw flag (omega arith)
]

-- the flag says nothing of the offset
pub offset_field-with_copied : (copied : Bool) (v : ℕ) → offset_field (with_copied copied v) ≡ offset_field v
offset_field-with_copied copied v = ap (λ n. 512 * n) (field-with_copied copied v 9 47 (omega arith))

-- of the kind of an L2 entry
pub is_compressed-with_copied : (copied : Bool) (v : ℕ) → is_compressed (with_copied copied v) ≡ is_compressed v
is_compressed-with_copied copied v = ap (λ n. nat_eq n 1) (field-with_copied copied v 62 1 (omega arith))

-- and of whether it reads as zeros
pub is_zero-with_copied : (copied : Bool) (v : ℕ) → is_zero (with_copied copied v) ≡ is_zero v
is_zero-with_copied copied v = ap (λ n. nat_eq n 1) (field-with_copied copied v 0 1 (omega arith))

-- an L1 entry is valid with it where it is so without it
pub l1_fault-with_copied : (copied : Bool) (cb v : ℕ) → l1_fault cb (with_copied copied v) ≡ l1_fault cb v
l1_fault-with_copied copied cb v = rw (offset_field-with_copied copied v, field-with_copied copied v 0 9 (omega arith), field-with_copied copied v 56 7 (omega arith)) refl

-- and so is a standard L2 entry
pub l2_fault-with_copied : (copied : Bool) (cb v : ℕ) → is_compressed v ≡ false → l2_fault cb (with_copied copied v) ≡ l2_fault cb v
l2_fault-with_copied copied cb v standard =
    let after : is_compressed (with_copied copied v) ≡ false = is_compressed-with_copied copied v ∙ standard in
    rw (after, standard, offset_field-with_copied copied v, field-with_copied copied v 1 8 (omega arith), field-with_copied copied v 56 6 (omega arith)) refl

-- a valid L2 entry stays valid, where a compressed one isn't given the flag
pub l2_lawful-with_copied : (copied : Bool) (cb v : ℕ) → (copied ≡ true → is_compressed v ≡ false)
    → l2_fault cb v ≡ None → l2_fault cb (with_copied copied v) ≡ None
l2_lawful-with_copied true cb v standard lawful = l2_fault-with_copied true cb v (standard refl) ∙ lawful
l2_lawful-with_copied false cb v standard lawful =
    subst (λ n. l2_fault cb n ≡ None) (sym (add-zero (v % 2 ^ 63))) (lawful_without_copied cb v lawful)

-- a standard L2 entry refers to the same offset, unless the flag alone says that it refers to offset 0 of an external data file
pub host_offset-with_copied : (external copied : Bool) (v : ℕ) → (external && nat_eq (offset_field v) 0) ≡ false
    → host_offset external (with_copied copied v) ≡ host_offset external v
host_offset-with_copied external copied v named = grind (arith, nat_tests, offset_field-with_copied)

-- each L2 entry refers to the same bytes
pub byte_range-with_copied : (g : Geometry) (copied : Bool) (v : ℕ) → IsClusterBits g.cluster_bits
    → refers_by_flag g.external_data_file v ≡ false → byte_range g (with_copied copied v) ≡ byte_range g v
byte_range-with_copied g copied v bits named = grind (arith, nat_tests, field-with_copied, low_bits-with_copied)

-- to the same clusters
pub allocation-with_copied : (g : Geometry) (copied : Bool) (v : ℕ) → IsClusterBits g.cluster_bits
    → refers_by_flag g.external_data_file v ≡ false → allocation g (with_copied copied v) ≡ allocation g v
allocation-with_copied g copied v bits named = rw (byte_range-with_copied g copied v bits named) refl

-- and to each of these
pub meets-with_copied : (g : Geometry) (copied : Bool) (v c : ℕ) → IsClusterBits g.cluster_bits
    → refers_by_flag g.external_data_file v ≡ false → meets g (with_copied copied v) c ≡ meets g v c
meets-with_copied g copied v c bits named = rw (byte_range-with_copied g copied v bits named) refl

-- what an entry with another flag is
pub ruleset flags = (l1_fault-with_copied, l2_lawful-with_copied)

-- what it refers to
pub ruleset clusters = (allocation-with_copied)
