use Rattle.std.proofs.Common.{◌≡◌, ℕ, ◌+◌, ◌-◌, ◌*◌, ◌/◌, ◌%◌, ◌^◌, ◌<◌, ◌≤◌, ◌∙◌, List, length, slice_index, slice_set, inl, inr, Some, Option, IsSomeAnd, ap, sym, div-add-mod', mul_assoc, mul_comm, pow_mono, w64, arith}
use Rattle.std.proofs.lemmas.Bool.{cases_lt}
use Rattle.std.proofs.lemmas.Grind.{get_or-set_at}
use Rattle.std.proofs.lemmas.List.{get_or-set_other}
use Rattle.std.proofs.lemmas.Nat.Bits.{bit_at_ones, bit_at_set_other}
use Rattle.std.proofs.lemmas.Nat.{pow-add}
use Rattle.std.specs.Int.{bit_at}
use Rattle.std.specs.Int.RustNames.{bit_or}
use Rattle.qcow2_base.specs.Storage.{Image}
use Rattle.qcow2_metadata.specs.Header.{HeaderRecord}
use Rattle.qcow2_metadata.specs.Refblock.{BlockState}
use Rattle.qcow2_check.proofs.CountersLemmas.{block_counters}
use Rattle.qcow2_check.specs.Counters.{IsKeptBlockOf, block_of_cluster, counter_of, counters_each}
use Rattle.qcow2_check.specs.Soles.{AreSoles, IsMarked, MarksOnes}

-- another word in the place of one, that marks the clusters there
pub marked_more : (counter : ℕ → ℕ) (words : List ℕ) (i word : ℕ) → i < length words → AreSoles counter words
    → MarksOnes word (λ k. counter (64 * i + k)) → AreSoles counter (slice_set words i word)
marked_more counter words i word below before ones = λ c marked. elim (cases_lt (c / 64) i) [
  | inl less ↦ before c (rw (get_or-set_other words i (c / 64) word 0 (λ same. omega (arith, less, same))) at marked)
  | inr more ↦ elim (cases_lt i (c / 64)) [
    | inl greater ↦ before c (rw (get_or-set_other words i (c / 64) word 0 (λ same. omega (arith, greater, same))) at marked)
    | inr equal ↦
        let same : c / 64 ≡ i = omega (arith, more, equal) in
        let here : bit_at word (c % 64) ≡ 1 = rw (get_or-set_at words i (c / 64) word 0 same below) at marked in
        let sum : 64 * i + c % 64 ≡ c = omega (arith, same) in
        rw sum at (ones (c % 64) (omega arith) here)
  ]
]

-- one bit more of a word
pub bit_more : (numbers : List ℕ) (first word new k : ℕ) → k < 64 → new ≡ bit_or word (1 * 2 ^ k % 2 ^ 64)
    → slice_index numbers (first + k) ≡ 1 → MarksOnes word (λ j. slice_index numbers (first + j)) → MarksOnes new (λ j. slice_index numbers (first + j))
bit_more numbers first word new k within is one before = λ j below set. elim (cases_lt j k) [
  | inl less ↦ before j below (sym (bit_at_set_other w64 word k within j (λ same. omega (arith, less, same))) ∙ rw is at set)
  | inr more ↦ elim (cases_lt k j) [
    | inl greater ↦ before j below (sym (bit_at_set_other w64 word k within j (λ same. omega (arith, greater, same))) ∙ rw is at set)
    | inr equal ↦ let same : j ≡ k = omega (arith, more, equal) in rw same one
  ]
]

-- what a power of two from 64 on divides begins a word
pub whole_word : (k c : ℕ) → 64 ≤ 2 ^ k → c % 2 ^ k ≡ 0 → 64 * (c / 64) ≡ c
whole_word k c large start = elim (cases_lt k 6) [
  | inl few ↦
      let low : k ≤ 5 = omega (arith, few) in
      let power : 2 ^ k ≤ 2 ^ 5 = pow_mono low in
      absurd (omega (arith, power, large))
  | inr more ↦
      let m = 2 ^ (k - 6) in
      let q = c / 2 ^ k in
      let sum : 6 + (k - 6) ≡ k = omega (arith, more) in
      let size : 2 ^ k ≡ 64 * m = ap (λ n. 2 ^ n) (sym sum) ∙ pow-add 2 6 (k - 6) in
      let times : q * (64 * m) ≡ 64 * (q * m) = sym (mul_assoc q 64 m) ∙ ap (λ x. x * m) (mul_comm q 64) ∙ mul_assoc 64 q m in
      let parts : q * 2 ^ k + c % 2 ^ k ≡ c = div-add-mod' c (2 ^ k) in
      let product : q * 2 ^ k ≡ 64 * (q * m) = ap (λ n. q * n) size ∙ times in
      omega (arith, parts, product, start)
]

-- the clusters that the kept block counts from its first one on, by their words
pub word_counters : (header : HeaderRecord) (reftable : List ℕ) (image : Image) (kept : Option BlockState) (block : BlockState) (c word : ℕ)
    → kept ≡ Some block → IsSomeAnd block.cluster (λ place. block_of_cluster header reftable c ≡ Some place)
    → IsKeptBlockOf header image kept → c % counters_each header ≡ 0 → 64 ≤ counters_each header → word ≡ c / 64
    → (k : ℕ) → k < counters_each header → counter_of header reftable image (64 * word + k) ≡ slice_index block.numbers k
word_counters header reftable image kept block c word is names same start large at k below =
    let here : 64 * word ≡ c = ap (λ n. 64 * n) at ∙ whole_word _ c large start in
    rw here (block_counters header reftable image kept block c is names same start k below)

-- clusters whose words have all bits set are marked
pub whole_words : (words : List ℕ) (first : ℕ) → slice_index words (first / 64) ≡ 2 ^ 64 - 1 → slice_index words ((first + 15) / 64) ≡ 2 ^ 64 - 1
    → (k : ℕ) → k < 16 → IsMarked words (first + k)
whole_words words first one other k below = elim (cases_lt (first / 64) ((first + k) / 64)) [
  | inl later ↦
      let same : (first + k) / 64 ≡ (first + 15) / 64 = omega (arith, later, below) in
      rw (same, other) (bit_at_ones 64 ((first + k) % 64) (omega arith))
  | inr sooner ↦
      let same : (first + k) / 64 ≡ first / 64 = omega (arith, sooner) in
      rw (same, one) (bit_at_ones 64 ((first + k) % 64) (omega arith))
]
