use Rattle.std.proofs.Common.{◌≡◌, ℕ, ◌+◌, ◌-◌, ◌<◌, ◌≤◌, List, ◌++◌, length, slice_index, take, inl, inr, ◌∙◌, ap, get_or-take, length-take, arith}
use Rattle.std.proofs.lemmas.Bool.{cases_lt}
use Rattle.std.proofs.lemmas.List.{get_or-append_right, get_or_append_left}

-- values that were put in the places of a list's own, after some that were right already
pub placed-more : (f : ℕ → ℕ) (first k : ℕ) (old part rest : List ℕ) → first + k ≤ length old → length part ≡ k
    → ((i : ℕ) → i < first → slice_index old i ≡ f i) → ((i : ℕ) → i < length part → slice_index part i ≡ f (first + i))
    → (i : ℕ) → i < first + k → slice_index (take first old ++ (part ++ rest)) i ≡ f i
placed-more f first k old part rest within long done more i below =
    let before : length (take first old) ≡ first = omega (arith, length-take first old) in
    elim (cases_lt i first) [
      | inl early ↦ get_or_append_left (take first old) (part ++ rest) 0 i (omega (arith, before)) ∙ get_or-take first old i 0 early ∙ done i early
      | inr late ↦
          let place : first + (i - first) ≡ i = omega arith in
          let inside : i - first < length part = omega (arith, long) in
          get_or-append_right (take first old) (part ++ rest) first i 0 before late ∙ get_or_append_left part rest 0 (i - first) inside
          ∙ more (i - first) inside ∙ ap f place
    ]
