use Rattle.std.proofs.Common.{◌≡◌, ◌≢◌, ℕ, zero, suc, true, false, lit<, ◌+◌, ◌-◌, ◌*◌, ◌/◌, ◌%◌, ◌^◌, ◌<◌, ◌≤◌, List, [], ◌∷◌, ◌++◌, length, map, ◌⊎◌, inl, inr, ap, refl, ◌∙◌, div-add-mod', arith}
use Rattle.std.proofs.Math.Nat.{pow-le-pow_right}
use Rattle.std.proofs.lemmas.Nat.{mul-le}
use Rattle.std.proofs.lemmas.Bool.{cases_Bool}
use Rattle.std.proofs.lemmas.Bool.Decides.{nat_tests}
use Rattle.std.proofs.lemmas.List.{append_assoc, length-append}
use Rattle.std.proofs.lemmas.List.FromFn.{length-map-range_with_len, map-range_with_len_more}
use Rattle.std.specs.List.{list_any, range_with_len}
use Rattle.qcow2_base.specs.Types.{IsClusterBits}
use Rattle.qcow2_metadata.specs.Table.{l2_entries}
use Rattle.qcow2_apply.specs.GuestEdits.{edit_at, edits_by, edits_in, has_clusters_in, table_end, table_start}
use Rattle.qcow2_apply.specs.declared.guest_edits.GuestEdit.{GuestEdit}

-- clusters of a range of bytes whose length fits 64 bits
few : (n x : ℕ) → 512 ≤ n → x < 2 ^ 64 → x / n < 2 ^ 55
few n x some fits =
    let parts : x / n * n + x % n ≡ x = div-add-mod' x n in
    let most = mul-le (x / n) 512 (x / n) n (omega arith) some in
    omega (arith, parts, most, fits)

pub sum_fits : (cb x y : ℕ) → IsClusterBits cb → x < 2 ^ 64 → y < 2 ^ 64 → x / 2 ^ cb + y / 2 ^ cb < 2 ^ 64
sum_fits cb x y bits fits fits' =
    let least : 2 ^ 9 ≤ 2 ^ cb = pow-le-pow_right (lit< tt) bits.0 in
    omega (arith, few (2 ^ cb) x least fits, few (2 ^ cb) y least fits')

-- the edit of one guest cluster more
pub edits-next : {X : Type 0} (f : ℕ → X) (before now next : List X) (start at : ℕ) → start ≤ at → now ≡ before ++ map f (range_with_len start (at - start))
    → next ≡ now ++ f at ∷ [] → next ≡ before ++ map f (range_with_len start (at + 1 - start))
edits-next f before now next start at from is more =
    let count : at + 1 - start ≡ at - start + 1 = omega (arith, from) in
    let last = map-range_with_len_more f start (at - start) at (omega (arith, from)) in
    rw (more, is, count, last) (append_assoc before _ _)

-- the edits of all of them
pub edits-all : {X : Type 0} (f : ℕ → X) (before now : List X) (start at end : ℕ) → end ≤ at → (at ≤ end) ⊎ (at ≡ start)
    → now ≡ before ++ map f (range_with_len start (at - start)) → now ≡ before ++ map f (range_with_len start (end - start))
edits-all f before now start at end past (inl within) is =
    let last : at ≡ end = omega (arith, past, within) in
    rw (← last) is
edits-all f before now start at end past (inr none) is =
    let one : at - start ≡ 0 = omega (arith, none) in
    let other : end - start ≡ 0 = omega (arith, none, past) in
    rw other (rw one at is)

-- numbers in a row are the first of them and the others
range-from : (a n m : ℕ) → range_with_len a (n + m) ≡ range_with_len a n ++ range_with_len (a + n) m
range-from a zero m =
    let whole : 0 + m ≡ m = omega arith in
    let same : a ≡ a + 0 = omega arith in
    ap (range_with_len a) whole ∙ ap (λ b. range_with_len b m) same
range-from a (suc n) m =
    let whole : suc n + m ≡ suc (n + m) = omega arith in
    let same : a + 1 + n ≡ a + suc n = omega arith in
    ap (range_with_len a) whole ∙ ap (λ rest. a ∷ rest) (range-from (a + 1) n m ∙ ap (λ b. range_with_len (a + 1) n ++ range_with_len b m) same)

pub range-split : (n m : ℕ) → range_with_len 0 (n + m) ≡ range_with_len 0 n ++ range_with_len n m
range-split n m = let same : 0 + n ≡ n = omega arith in range-from 0 n m ∙ ap (λ b. range_with_len 0 n ++ range_with_len b m) same

-- an edit without clusters of a table is none of it
pub no-edits-by : (cb index : ℕ) (edit : GuestEdit) → has_clusters_in cb index edit ≡ false → edits_by cb index edit ≡ []
no-edits-by cb index edit none =
    let zero : table_end cb index edit - table_start cb index edit ≡ 0 = grind (arith, nat_tests, none) in
    rw zero refl

-- and edits of which no one has any are none of it
pub no-edits-in : (cb index : ℕ) (edits : List GuestEdit) → list_any (has_clusters_in cb index) edits ≡ false → edits_in cb index edits ≡ []
no-edits-in cb index [] none = refl
no-edits-in cb index (edit ∷ edits) none = elim (cases_Bool (has_clusters_in cb index edit)) [
  | inl has ↦ absurd (grind (arith, none, has))
  | inr has ↦ rw (no-edits-by cb index edit has, no-edits-in cb index edits (grind (arith, none, has))) refl
]

-- an edit with clusters of a table is some of it
some-edits-by : (cb index : ℕ) (edit : GuestEdit) → has_clusters_in cb index edit ≡ true → 0 < length (edits_by cb index edit)
some-edits-by cb index edit has =
    let more : table_start cb index edit < table_end cb index edit = grind (arith, nat_tests, has) in
    omega (
      arith,
      more,
      length-map-range_with_len (λ guest_cluster. edit_at edit (guest_cluster % l2_entries cb)) (table_start cb index edit)
          (table_end cb index edit - table_start cb index edit),
    )

edits-in-count : (cb index : ℕ) (edits : List GuestEdit) → list_any (has_clusters_in cb index) edits ≡ true → 0 < length (edits_in cb index edits)
edits-in-count cb index [] has = absurd (grind (arith, has))
edits-in-count cb index (edit ∷ edits) has =
    let both = length-append (edits_by cb index edit) (edits_in cb index edits) in
    elim (cases_Bool (has_clusters_in cb index edit)) [
      | inl here ↦ omega (arith, both, some-edits-by cb index edit here)
      | inr none ↦ omega (arith, both, edits-in-count cb index edits (grind (arith, has, none)))
    ]

pub some-edits-in : (cb index : ℕ) (edits : List GuestEdit) → list_any (has_clusters_in cb index) edits ≡ true → edits_in cb index edits ≢ []
some-edits-in cb index edits has none = omega (arith, edits-in-count cb index edits has, ap length none)
