use Rattle.std.proofs.Common.{◌≡◌, ◌≢◌, ℕ, suc, ◌+◌, ◌-◌, ◌*◌, ◌/◌, ◌%◌, ◌^◌, ◌<◌, ◌≤◌, ◌==◌, false, List, length, map, slice_index, Option, refl, sym, ◌∙◌, zero-add, mul-le-mul_left, pow_mono, arith}
use Rattle.std.specs.List.{find, range_with_len}
use Rattle.std.proofs.lemmas.Bool.Decides.{nat_tests}
use Rattle.std.proofs.lemmas.List.{ext_get_or}
use Rattle.std.proofs.lemmas.List.FromFn.{get_or-map-range_with_len, length-map-range_with_len}
use Rattle.std.proofs.Math.Nat.{pow-le-pow_right}
use Rattle.qcow2_base.specs.Bits.{field}
use Rattle.qcow2_base.specs.Storage.{Image}
use Rattle.qcow2_metadata.specs.Refblock.Packing.{counter_at, width}
use Rattle.qcow2_base.specs.Types.{IsClusterBits}
use Rattle.qcow2_metadata.specs.Refblock.{block_entries}
use Rattle.qcow2_metadata.proofs.PackingLemmas.{narrow_cases}
use Rattle.qcow2_metadata.proofs.RefblockLemmas.{block_bytes}
use Rattle.qcow2_bytes.specs.Refcounts.{bits_of_size}

-- the cluster bits of that size that are no less than these
abbrev pub bits_from : ℕ → ℕ → Option ℕ
bits_from size bits = find (λ cb. 2 ^ cb == size) (range_with_len bits (22 - bits))

pub bits_from_first : (size : ℕ) → bits_of_size size ≡ bits_from size 9
unfolding bits_of_size
bits_from_first size = refl

-- these aren't the ones, so they are greater
pub bits_from_next : (size bits : ℕ) → bits < 22 → size ≢ 1 * 2 ^ bits % 2 ^ 64 → bits_from size bits ≡ bits_from size (bits + 1)
bits_from_next size bits below other =
    let more : 22 - bits ≡ suc (22 - (bits + 1)) = omega arith in
    let small : 2 ^ bits ≤ 2 ^ 22 = grind (arith, below, pow-le-pow_right) in
    let differs : 2 ^ bits ≢ size = λ same. other (omega (arith, same, small)) in
    let no : (2 ^ bits == size) ≡ false = grind (arith, nat_tests, differs) in
    rw (more, no) refl

-- where in its byte a counter lies that is no wider than that
pub record IsNarrowPlace (order index len : ℕ) : Type 0 where
  pub byte : index / (1 * 2 ^ (3 - order) % 2 ^ 64) < len
  pub first : index % (1 * 2 ^ (3 - order) % 2 ^ 64) * 2 ^ order % 2 ^ 32 < 64
  pub count : 1 * 2 ^ order % 2 ^ 32 < 64

pub narrow_place : (order index len : ℕ) → order ≤ 3 → width order * (index + 1) ≤ 8 * len → IsNarrowPlace order index len
narrow_place order index len narrow = narrow_cases (λ o. width o * (index + 1) ≤ 8 * len → IsNarrowPlace o index len)
    (λ h. record { byte = omega arith; first = omega arith; count = omega arith })
    (λ h. record { byte = omega arith; first = omega arith; count = omega arith })
    (λ h. record { byte = omega arith; first = omega arith; count = omega arith })
    (λ h. record { byte = omega arith; first = omega arith; count = omega arith })
    order narrow

-- the counter that lies there
pub narrow_counter_at : (order index : ℕ) (image : Image) → order ≤ 3 →
    field (image (index / (1 * 2 ^ (3 - order) % 2 ^ 64))) (index % (1 * 2 ^ (3 - order) % 2 ^ 64) * 2 ^ order % 2 ^ 32) (1 * 2 ^ order % 2 ^ 32)
    ≡ counter_at order image 0 index
narrow_counter_at order index image narrow = narrow_cases (λ o.
    field (image (index / (1 * 2 ^ (3 - o) % 2 ^ 64))) (index % (1 * 2 ^ (3 - o) % 2 ^ 64) * 2 ^ o % 2 ^ 32) (1 * 2 ^ o % 2 ^ 32)
    ≡ counter_at o image 0 index)
    (digit 8 1 (omega arith)) (digit 4 2 (omega arith)) (digit 2 4 (omega arith)) (digit 1 8 (omega arith)) order narrow
  where
    digit : (per w : ℕ) → index % per * w % 2 ^ 32 ≡ w * (index % per)
        → field (image (index / per)) (index % per * w % 2 ^ 32) w ≡ field (image (0 + index / per)) (w * (index % per)) w
    digit per w place = rw (place, zero-add (index / per)) refl

-- a block has at most that many counters
pub few_entries : (cb order : ℕ) → IsClusterBits cb → order ≤ 6 → block_entries cb order ≤ 2 ^ 24
few_entries cb order bits orders = let few : cb + 3 - order ≤ 24 = omega (arith, bits.1) in pow_mono few

-- counters up to one of the block lie in its bytes
pub counters_within : (cb order count : ℕ) → IsClusterBits cb → order ≤ 6 → count ≤ block_entries cb order → width order * count ≤ 8 * 2 ^ cb
counters_within cb order count bits orders few =
    omega (arith, mul-le-mul_left (width order) few, block_bytes cb order bits orders)

-- a list that has the values of a function from an index on
pub filled_from : (f : ℕ → ℕ) (xs : List ℕ) (first n : ℕ) → length xs ≡ n → ((i : ℕ) → i < n → slice_index xs i ≡ f (first + i)) → xs ≡ map f (range_with_len first n)
filled_from f xs first n long each = ext_get_or 0 xs _ (long ∙ sym (length-map-range_with_len f first n))
    (λ k below. each k (omega (arith, long)) ∙ sym (get_or-map-range_with_len f first n k (first + k) 0 (omega (arith, long)) refl))
