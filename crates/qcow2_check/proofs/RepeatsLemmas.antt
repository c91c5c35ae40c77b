use Rattle.std.proofs.Common.{◌≡◌, ◌↔◌, inl, inr, ℕ, zero, suc, true, false, if◌then◌else◌, ◌==◌, ◌+◌, ◌-◌, ◌*◌, ◌^◌, ◌<◌, ◌≤◌, List, [], ◌∷◌, ◌++◌, length, slice_index, slice_set, take, replicate, refl, subst, sym, ◌∙◌, ap, add-zero, true≢false, arith}
use Rattle.std.proofs.Math.Nat.{zero-add}
use Rattle.std.proofs.lemmas.Bool.{cases_Bool, cases_eq, cases_lt}
use Rattle.std.proofs.lemmas.Bool.Decides.{nat_tests}
use Rattle.std.proofs.lemmas.List.{get_or-map, get_or-replicate, get_or-set_other, get_or-set_same, get_or-take, get_or_default, length-replicate, length-set, length-take-le}
use Rattle.std.proofs.lemmas.List.FromFn.{get_or-range_with_len, length-range_with_len}
use Rattle.std.proofs.lemmas.List.Folds.{Any-from_list_any, list_any_at}
use Rattle.std.proofs.lemmas.List.Sorted.{Contains-permutation, All-permutation, length_permutation, sum_by-IsPermutation}
use Rattle.std.proofs.lemmas.List.Sums.{sum_by-cons}
use Rattle.std.specs.List.{Contains, range_with_len, sum_by}
use Rattle.qcow2_metadata.specs.Entries.{offset_field}
use Rattle.qcow2_metadata.specs.Table.L2Guards.{one_if}
use Rattle.qcow2_check.specs.Repeats.{ArePlacesInOrder, AreTimesOf, is_again, sort_key, table_names, times_at, worth_from}

-- a number that stands before another place where it stands
pub again_at : (names : List ℕ) (earlier index : ℕ) → earlier < index → index < length names
    → slice_index names earlier ≡ slice_index names index → is_again names index ≡ true
again_at names earlier index before below same =
    let first : slice_index (take index names) earlier ≡ slice_index names earlier = get_or-take index names earlier 0 before in
    let len : length (take index names) ≡ index = length-take-le index names (omega (arith, below)) in
    list_any_at (λ name. name == slice_index names index) (take index names) earlier 0 (omega (arith, len, before))
    (grind (arith, nat_tests, first, same))

-- and one that stands there because it is one of those before
pub again_where : (names : List ℕ) (index : ℕ) → index < length names → is_again names index ≡ true
    → (earlier : ℕ) × (earlier < index) × (slice_index names earlier ≡ slice_index names index)
again_where names index below again =
    let found = Any-from_list_any (λ name. name == slice_index names index) (take index names) again in
    let len : length (take index names) ≡ index = length-take-le index names (omega (arith, below)) in
    let before : found.0 < index = omega (arith, found.2, len) in
    let first : slice_index (take index names) found.0 ≡ slice_index names found.0 = get_or-take index names found.0 0 before in
    let is : slice_index (take index names) found.0 ≡ found.1 = get_or_default (take index names) found.0 0 found.1 found.2 ∙ found.3 in
    (found.0, before, grind (arith, nat_tests, first, is, found.4))

-- how often a number stands in a list
abbrev count : ℕ → List ℕ → ℕ
count i xs = sum_by (λ x. one_if (x == i)) xs

count_one : (i : ℕ) (xs : List ℕ) (q : ℕ) → q < length xs → slice_index xs q ≡ i → 0 < count i xs
count_one i [] q below is = absurd (omega (arith, below))
count_one i (x ∷ xs) zero below is = grind (arith, nat_tests, is, sum_by-cons (λ x. one_if (x == i)) x xs)
count_one i (x ∷ xs) (suc q) below is =
    grind (arith, nat_tests, sum_by-cons (λ x. one_if (x == i)) x xs, count_one i xs q (omega (arith, below)) is)

count_two : (i : ℕ) (xs : List ℕ) (p q : ℕ) → p < q → q < length xs → slice_index xs p ≡ i → slice_index xs q ≡ i → 1 < count i xs
count_two i [] p q less below first is = absurd (omega (arith, below))
count_two i (x ∷ xs) p zero less below first is = absurd (omega (arith, less))
count_two i (x ∷ xs) zero (suc q) less below first is =
    grind (arith, nat_tests, first, sum_by-cons (λ x. one_if (x == i)) x xs, count_one i xs q (omega (arith, below)) is)
count_two i (x ∷ xs) (suc p) (suc q) less below first is =
    grind (arith, nat_tests, sum_by-cons (λ x. one_if (x == i)) x xs, count_two i xs p q (omega (arith, less)) (omega (arith, below)) first is)

none_below : (i a n : ℕ) → i < a → count i (range_with_len a n) ≡ 0
none_below i a zero less = refl
none_below i a (suc n) less =
    grind (arith, nat_tests, less, sum_by-cons (λ x. one_if (x == i)) a (range_with_len (a + 1) n), none_below i (a + 1) n (omega (arith, less)))

once : (i a n : ℕ) → count i (range_with_len a n) ≤ 1
once i a zero = omega arith
once i a (suc n) = elim (cases_lt a i) [
  | inl less ↦ grind (arith, nat_tests, less, sum_by-cons (λ x. one_if (x == i)) a (range_with_len (a + 1) n), once i (a + 1) n)
  | inr from ↦ elim (cases_lt i a) [
    | inl less ↦ grind (arith, nat_tests, none_below i a (suc n) less)
    | inr at ↦
        let same : i ≡ a = omega (arith, from, at) in
        grind (arith, nat_tests, same, sum_by-cons (λ x. one_if (x == i)) a (range_with_len (a + 1) n), none_below i (a + 1) n (omega (arith, same)))
  ]
]

-- the number at a place in order is that at the place before
abbrev pub Follows : List ℕ → List ℕ → ℕ → Type 0
Follows names order p = (0 < p) × (slice_index names (slice_index order (p - 1)) ≡ slice_index names (slice_index order p))

-- the places of a list in order: each stands there once
module _ (names order : List ℕ) (few : length names ≤ 2 ^ 22) (is : ArePlacesInOrder names order) where
  pub as_many : length order ≡ length names
  as_many = length_permutation (range_with_len 0 (length names)) order is.places ∙ length-range_with_len 0 (length names)

  pub place_below : (p : ℕ) → p < length order → slice_index order p < length names
  place_below p below =
      All-permutation (λ x. x < length names) (range_with_len 0 (length names)) order is.places
      (λ k d inside. grind (arith, inside, length-range_with_len 0 (length names), get_or-range_with_len 0 (length names) k d)) p 0 below

  pub placed : (i : ℕ) → i < length names → (p : ℕ) × (p < length order) × (slice_index order p ≡ i)
  placed i below =
      let len = length-range_with_len 0 (length names) in
      let in_range : Contains (range_with_len 0 (length names)) i =
      (i, omega (arith, below, len), get_or-range_with_len 0 (length names) i i below ∙ zero-add i) in
      let found = Contains-permutation (range_with_len 0 (length names)) order i is.places in_range in
      (found.0, found.1, get_or_default order found.0 0 i found.1 ∙ found.2)

  pub distinct : (p q : ℕ) → p < q → q < length order → slice_index order p ≡ slice_index order q → ⊥
  distinct p q less below same =
      let i = slice_index order q in
      omega (
        arith,
        count_two i order p q less below same refl,
        once i 0 (length names),
        sum_by-IsPermutation (λ x. one_if (x == i)) (range_with_len 0 (length names)) order is.places,
      )

  pub rises : (p q : ℕ) → p < q → q < length order → sort_key names (slice_index order p) < sort_key names (slice_index order q)
  rises p q less below =
      let x = slice_index order p in
      let y = slice_index order q in
      let up : sort_key names x ≤ sort_key names y = is.rises p q 0 (omega (arith, less)) below in
      let differ : x ≡ y → ⊥ = distinct p q less below in
      elim (cases_lt (sort_key names x) (sort_key names y)) [
        | inl rising ↦ rising
        | inr falling ↦ absurd (differ (omega (arith, up, falling, few, place_below p (omega (arith, less, below)), place_below q below)))
      ]

  pub follows-again : (p : ℕ) → p < length order → Follows names order p → is_again names (slice_index order p) ≡ true
  follows-again p below follows =
      let x = slice_index order (p - 1) in
      let y = slice_index order p in
      let less = rises (p - 1) p (omega (arith, follows.0)) below in
      again_at names x y (omega (arith, less, follows.1)) (place_below p below) follows.1

  pub again-follows : (p : ℕ) → p < length order → is_again names (slice_index order p) ≡ true → Follows names order p
  again-follows p below again =
      let y = slice_index order p in
      let earlier = again_where names y (place_below p below) again in
      let there = placed earlier.0 (omega (arith, earlier.1, place_below p below)) in
      let key : sort_key names (slice_index order there.0) < sort_key names y = rw there.2 (omega (arith, earlier.1, earlier.2)) in
      elim (cases_lt there.0 p) [
        | inl before ↦
            let x = slice_index order (p - 1) in
            let low : sort_key names (slice_index order there.0) ≤ sort_key names x = is.rises there.0 (p - 1) 0 (omega (arith, before)) (omega (arith, before, below)) in
            let high = rises (p - 1) p (omega (arith, before)) below in
            (omega (arith, before), omega (arith, rw there.2 at low, high, earlier.2, few, place_below (p - 1) (omega (arith, before, below)), place_below p below, earlier.1))
        | inr after ↦
            let never : ⊥ = omega (arith, key, is.rises p there.0 0 after there.1) in
            absurd never
      ]

-- counts that are the same at the places of a list
same_worth : (times others worth : ℕ → ℕ) (start : ℕ) (names : List ℕ)
    → ((i : ℕ) → i < length names → times (start + i) ≡ others (start + i))
    → worth_from times worth start names ≡ worth_from others worth start names
same_worth times others worth start [] same = refl
same_worth times others worth start (name ∷ names) same =
    let here : times start ≡ others start = rw (add-zero start) at (same 0 (omega arith)) in
    let rest = same_worth times others worth (start + 1) names (λ i below.
    let place : start + suc i ≡ start + 1 + i = omega arith in rw place at (same (suc i) (omega (arith, below)))) in
    rw (here, rest) refl

-- counts but that of one place
abbrev without : ℕ → (ℕ → ℕ) → ℕ → ℕ
without place times index = if index == place then 0 else times index

-- what is worth the number at a place, and the others
taken_out : (times worth : ℕ → ℕ) (start : ℕ) (names : List ℕ) (i : ℕ) → i < length names
    → worth_from times worth start names ≡ times (start + i) * worth (slice_index names i) + worth_from (without (start + i) times) worth start names
taken_out times worth start [] i below = absurd (omega (arith, below))
taken_out times worth start (name ∷ names) zero below =
    let others = without (start + 0) times in
    let rest : worth_from times worth (start + 1) names ≡ worth_from others worth (start + 1) names =
    same_worth times others worth (start + 1) names (λ i inside. grind (arith, nat_tests)) in
    let here : others start ≡ 0 = grind (arith, nat_tests) in
    grind (arith, rest, here, add-zero start)
taken_out times worth start (name ∷ names) (suc i) below =
    let place : start + 1 + i ≡ start + suc i = omega arith in
    let others = without (start + suc i) times in
    let rest : worth_from times worth (start + 1) names ≡ times (start + suc i) * worth (slice_index names i) + worth_from others worth (start + 1) names =
    rw place at (taken_out times worth (start + 1) names i (omega (arith, below))) in
    let here : others start ≡ times start = grind (arith, nat_tests) in
    rw (rest, here) (omega arith)

add_times : (a b w : ℕ) → (a + b) * w ≡ a * w + b * w
add_times zero b w = grind arith
add_times (suc a) b w = let more = add_times a b w in grind (arith, more)

-- the count of one place that another takes over, where the same number stands
pub worth_moved : (times others worth : ℕ → ℕ) (names : List ℕ) (to from : ℕ) → to < length names → from < length names → (to ≡ from → ⊥)
    → slice_index names to ≡ slice_index names from → others to ≡ times to + times from → others from ≡ 0
    → ((i : ℕ) → i < length names → (i ≡ to → ⊥) → (i ≡ from → ⊥) → others i ≡ times i)
    → worth_from others worth 0 names ≡ worth_from times worth 0 names
worth_moved times others worth names to from to_below from_below differ named gets gives same =
    let w = worth (slice_index names to) in
    let left : ℕ → ℕ = without from (without to times) in
    let rest : worth_from (without from (without to others)) worth 0 names ≡ worth_from left worth 0 names =
    same_worth (without from (without to others)) left worth 0 names (λ i below. at i below) in
    let before = taken_out times worth 0 names to to_below in
    let before_from = taken_out (without to times) worth 0 names from from_below in
    let after = taken_out others worth 0 names to to_below in
    let after_from = taken_out (without to others) worth 0 names from from_below in
    let here : without to times from ≡ times from = grind (arith, nat_tests, differ) in
    let none : without to others from ≡ 0 = grind (arith, nat_tests, differ, gives) in
    let both : (times to + times from) * w ≡ times to * w + times from * w = add_times (times to) (times from) w in
    let same_name : worth (slice_index names from) ≡ w = ap worth (sym named) in
    let product : others to * w ≡ times to * w + times from * w = rw gets both in
    grind (arith, after, after_from, before, before_from, none, here, rest, same_name, product)
  where
    at : (i : ℕ) → i < length names → without from (without to others) (0 + i) ≡ without from (without to times) (0 + i)
    at i below = elim (cases_eq i to) [
      | inl is ↦ grind (arith, nat_tests, is)
      | inr other ↦ elim (cases_eq i from) [
        | inl is ↦ grind (arith, nat_tests, is)
        | inr apart ↦ grind (arith, nat_tests, same i below other apart)
      ]
    ]

-- each counts once
pub worth_once : (worth : ℕ → ℕ) (times : List ℕ) (start : ℕ) (names : List ℕ) → ((i : ℕ) → i < length names → times_at times (start + i) ≡ 1)
    → worth_from (times_at times) worth start names ≡ sum_by worth names
worth_once worth times start [] each = refl
worth_once worth times start (name ∷ names) each =
    let here : times_at times start ≡ 1 = rw (add-zero start) at (each 0 (omega arith)) in
    let rest = worth_once worth times (start + 1) names (λ i below.
    let place : start + suc i ≡ start + 1 + i = omega arith in rw place at (each (suc i) (omega (arith, below)))) in
    rw (here, rest, sum_by-cons worth name names) (omega arith)

-- the counts of the first places in order are gathered at the first place of each number, of which one is the last
pub record AreGathered (names order times : List ℕ) (place last : ℕ) : Type 0 where
  pub len : length times ≡ length names
  pub after : (q : ℕ) → place ≤ q → q < length order → slice_index times (slice_index order q) ≡ 1
  pub before : (q : ℕ) → q < place → q < length order → (slice_index times (slice_index order q) ≡ 0) ↔ Follows names order q
  pub first : 0 < place → (f : ℕ) × (f < place) × (last ≡ slice_index order f)
      × (slice_index names last ≡ slice_index names (slice_index order (place - 1))) × (0 < slice_index times last) × (slice_index times last ≤ place)
  pub worth : (worth : ℕ → ℕ) → worth_from (times_at times) worth 0 names ≡ sum_by worth names

-- a number that is greater than all before it
pub not_again : (names : List ℕ) (index last : ℕ) → index < length names → ((i : ℕ) → i < index → slice_index names i ≤ last)
    → last < slice_index names index → is_again names index ≡ false
not_again names index last below before greater = elim (cases_Bool (is_again names index)) [
  | inl again ↦
      let where_it_is = again_where names index below again in
      absurd (omega (arith, before where_it_is.0 where_it_is.1, where_it_is.2, greater))
  | inr fresh ↦ fresh
]

-- the numbers from 0 to one more
pub places_more : (n : ℕ) → range_with_len 0 (n + 1) ≡ range_with_len 0 n ++ n ∷ []
places_more n = more 0 n ∙ ap (λ k. range_with_len 0 n ++ k ∷ []) (zero-add n)
  where
    more : (a k : ℕ) → range_with_len a (k + 1) ≡ range_with_len a k ++ (a + k) ∷ []
    more a zero = rw (add-zero a) refl
    more a (suc k) =
        let place : a + 1 + k ≡ a + suc k = omega arith in
        let one_more : suc k + 1 ≡ suc (k + 1) = omega arith in
        ap (λ n. range_with_len a n) one_more ∙ ap (λ ns. a ∷ ns) (more (a + 1) k ∙ ap (λ n. range_with_len (a + 1) k ++ n ∷ []) place)

-- the same of a list with another number at a place
set_at : (xs : List ℕ) (i k x : ℕ) → i < length xs → slice_index (slice_set xs i x) k ≡ (if k == i then x else slice_index xs k)
set_at xs i k x below = elim (cases_eq k i) [
  | inl same ↦ grind (arith, nat_tests, same, get_or-set_same xs i x 0 below)
  | inr other ↦ grind (arith, nat_tests, other, get_or-set_other xs i k x 0 other)
]

-- before the first place each counts once
pub gathered_none : (names order times : List ℕ) → length names ≤ 2 ^ 22 → ArePlacesInOrder names order → times ≡ replicate (length names) 1
    → AreGathered names order times 0 0
gathered_none names order times few in_order is =
    let len : length times ≡ length names = ap length is ∙ length-replicate (length names) 1 in
    let each : (i : ℕ) → i < length names → slice_index times i ≡ 1 = λ i below.
    ap (λ ts. slice_index ts i) is ∙ get_or-replicate (length names) i 1 0 below in
    record {
      len = len;
      after = λ q from inside. each (slice_index order q) (place_below names order few in_order q inside);
      before = λ q before inside. absurd (omega (arith, before));
      first = λ some. absurd (omega (arith, some));
      worth = λ worth. worth_once worth times 0 names (λ i below. grind (arith, nat_tests, len, below, each i below, zero-add i));
    }

-- the place of another number
pub gathered_new : (names order times : List ℕ) (place last : ℕ) → length names ≤ 2 ^ 22 → ArePlacesInOrder names order → AreGathered names order times place last
    → place < length order → (0 < place → slice_index names (slice_index order place) ≡ slice_index names last → ⊥)
    → AreGathered names order times (place + 1) (slice_index order place)
gathered_new names order times place last few is so_far below other =
    let x = slice_index order place in
    let one : slice_index times x ≡ 1 = so_far.after place (omega arith) below in
    let same_place : place + 1 - 1 ≡ place = omega arith in
    record {
      len = so_far.len;
      after = λ q from inside. so_far.after q (omega (arith, from)) inside;
      before = λ q before inside. elim (cases_lt q place) [
        | inl sooner ↦ so_far.before q sooner inside
        | inr later ↦
            let same : place ≡ q = omega (arith, before, later) in
            subst (λ k. (slice_index times (slice_index order k) ≡ 0) ↔ Follows names order k) same
            ((λ zero. absurd (omega (arith, zero, one))), (λ follows. absurd (other follows.0 (sym follows.1 ∙ sym (so_far.first follows.0).3))))
      ];
      first = λ some. (place, omega arith, refl, rw same_place refl, omega (arith, one), omega (arith, one));
      worth = so_far.worth;
    }

-- the place of the same number
module _ (names order times : List ℕ) (place last : ℕ) (few : length names ≤ 2 ^ 22) (is : ArePlacesInOrder names order) (so_far : AreGathered names order times place last)
    (below : place < length order) (some : 0 < place) (same_name : slice_index names (slice_index order place) ≡ slice_index names last) where
  abbrev gathered : List ℕ
  gathered = slice_set (slice_set times last (slice_index times last + 1)) (slice_index order place) 0

  pub last_below : last < length names
  last_below =
      let first = so_far.first some in
      subst (λ k. k < length names) (sym first.2) (place_below names order few is first.0 (omega (arith, first.1, below)))

  apart : last ≡ slice_index order place → ⊥
  apart same =
      let first = so_far.first some in
      distinct names order few is first.0 place first.1 below (sym first.2 ∙ same)

  count_at : (k : ℕ) → slice_index gathered k ≡ (if k == slice_index order place then 0 else if k == last then slice_index times last + 1 else slice_index times k)
  count_at k =
      let inside : last < length times = rw so_far.len last_below in
      let len : length (slice_set times last (slice_index times last + 1)) ≡ length times = length-set times last (slice_index times last + 1) in
      let here : slice_index order place < length (slice_set times last (slice_index times last + 1)) =
      rw (len, so_far.len) (place_below names order few is place below) in
      set_at (slice_set times last (slice_index times last + 1)) (slice_index order place) k 0 here
      ∙ ap (λ n. if k == slice_index order place then 0 else n) (set_at times last k (slice_index times last + 1) inside)

  len_kept : length gathered ≡ length names
  len_kept = length-set (slice_set times last (slice_index times last + 1)) (slice_index order place) 0
      ∙ length-set times last (slice_index times last + 1) ∙ so_far.len

  -- another place in order has the same count as before, where the last one has it, or one more
  other_count : (q : ℕ) → (q ≡ place → ⊥) → q < length order → (slice_index order q ≡ last → ⊥)
      → slice_index gathered (slice_index order q) ≡ slice_index times (slice_index order q)
  other_count q other inside not_last =
      let differ : slice_index order q ≡ slice_index order place → ⊥ = λ same. elim (cases_lt q place) [
        | inl less ↦ distinct names order few is q place less below same
        | inr from ↦ elim (cases_eq q place) [
          | inl equal ↦ other equal
          | inr apart ↦ distinct names order few is place q (omega (arith, from, apart)) inside (sym same)
        ]
      ] in
      count_at (slice_index order q) ∙ grind (arith, nat_tests, differ, not_last)

  last_count : slice_index gathered last ≡ slice_index times last + 1
  last_count = count_at last ∙ grind (arith, nat_tests, apart)

  pub gathered_same : AreGathered names order gathered (place + 1) last
  gathered_same =
      let first = so_far.first some in
      let same_place : place + 1 - 1 ≡ place = omega arith in
      record {
        len = len_kept;
        after = λ q from inside. other_count q (λ same. omega (arith, from, same)) inside
            (λ same. distinct names order few is first.0 q (omega (arith, first.1, from)) inside (sym first.2 ∙ sym same))
            ∙ so_far.after q (omega (arith, from)) inside;
        before = λ q before inside. elim (cases_eq q place) [
          | inl here ↦ subst (λ k. (slice_index gathered (slice_index order k) ≡ 0) ↔ Follows names order k) (sym here)
              ((λ zero. (some, sym first.3 ∙ sym same_name)), (λ follows. count_at (slice_index order place) ∙ grind (arith, nat_tests)))
          | inr other ↦ elim (cases_eq (slice_index order q) last) [
            | inl at ↦
                let old = so_far.before q (omega (arith, before, other)) inside in
                let count : slice_index gathered (slice_index order q) ≡ slice_index times last + 1 = rw at last_count in (
                  (λ zero. absurd (omega (arith, zero, count))),
                  (λ follows.
                      let gone : slice_index times last ≡ 0 = subst (λ k. slice_index times k ≡ 0) at (old.1 follows) in
                      absurd (omega (arith, first.4, gone))),
                )
            | inr not_last ↦
                let old = so_far.before q (omega (arith, before, other)) inside in
                let count = other_count q other inside not_last in
                ((λ zero. old.0 (sym count ∙ zero)), (λ follows. count ∙ old.1 follows))
          ]
        ];
        first = λ more. (
          first.0,
          omega (arith, first.1),
          first.2,
          sym same_name ∙ ap (λ p. slice_index names (slice_index order p)) (sym same_place),
          omega (arith, last_count),
          omega (arith, last_count, first.5),
        );
        worth = λ worth.
            let x = slice_index order place in
            let x_below = place_below names order few is place below in
            let at : (k : ℕ) → k < length names → times_at gathered k ≡ slice_index gathered k = λ k inside. grind (arith, nat_tests, len_kept, inside) in
            let at_old : (k : ℕ) → k < length names → times_at times k ≡ slice_index times k = λ k inside. grind (arith, nat_tests, so_far.len, inside) in
            let one : slice_index times x ≡ 1 = so_far.after place (omega arith) below in
            let others : (k : ℕ) → k < length names → (k ≡ last → ⊥) → (k ≡ x → ⊥) → times_at gathered k ≡ times_at times k = λ k inside not_last not_x.
            at k inside ∙ count_at k ∙ grind (arith, nat_tests, not_last, not_x, at_old k inside) in
            let gets : times_at gathered last ≡ times_at times last + times_at times x =
            at last last_below ∙ last_count ∙ grind (arith, at_old last last_below, at_old x x_below, one) in
            let gives : times_at gathered x ≡ 0 = at x x_below ∙ count_at x ∙ grind (arith, nat_tests) in
            worth_moved (times_at times) (times_at gathered) worth names last x last_below x_below apart (sym same_name)
            gets gives others
            ∙ so_far.worth worth;
      }

-- all are gathered
pub gathered_all : (names order times : List ℕ) (last : ℕ) → length names ≤ 2 ^ 22 → ArePlacesInOrder names order
    → AreGathered names order times (length order) last → AreTimesOf names times
gathered_all names order times last few is all = record {
  again = λ i below some.
      let there = placed names order few is i below in
      let here = all.before there.0 there.1 there.1 in
      let inside : i < length times = rw all.len below in
      let at : times_at times i ≡ slice_index times i = grind (arith, nat_tests, inside) in (
        (λ zero. rw there.2 at (follows-again names order few is there.0 there.1 (here.0 (rw there.2 (sym at ∙ zero))))),
        (λ again. at ∙ rw there.2 at (here.1 (again-follows names order few is there.0 there.1 (rw there.2 again)))),
      );
  worth = all.worth;
}

-- each counts once where none stands before
pub all_once : (names times : List ℕ) → times ≡ [] → ((i : ℕ) → i < length names → 0 < slice_index names i → is_again names i ≡ false)
    → AreTimesOf names times
all_once names times none fresh =
    let one : (i : ℕ) → times_at times i ≡ 1 = λ i. rw none (grind (arith, nat_tests)) in
    record {
      again = λ i below some.
          let once = one i in
          ((λ zero. absurd (omega (arith, zero, once))), (λ again. absurd (true≢false (sym again ∙ fresh i below some))));
      worth = λ worth. worth_once worth times 0 names (λ i below. one (0 + i));
    }

-- a first place where the number at an index stands
abbrev pub FirstPlace : List ℕ → ℕ → Type 0
FirstPlace names index = (first : ℕ) × (first < length names) × (slice_index names first ≡ slice_index names index) × (is_again names first ≡ false)

pub first_place : (names : List ℕ) (index : ℕ) → index < length names → FirstPlace names index
first_place names index below = go (index + 1) index below (omega arith)
  where
    go : (fuel index : ℕ) → index < length names → index < fuel → FirstPlace names index
    go zero index below less = absurd (omega (arith, less))
    go (suc fuel) index below less = elim (cases_Bool (is_again names index)) [
      | inr fresh ↦ (index, below, refl, fresh)
      | inl again ↦
          let earlier = again_where names index below again in
          let found = go fuel earlier.0 (omega (arith, earlier.1, below)) (omega (arith, earlier.1, less)) in
          (found.0, found.1, found.2 ∙ earlier.2, found.3)
    ]

-- what numbers and one more are worth
pub worth_push : (times worth : ℕ → ℕ) (start : ℕ) (names : List ℕ) (name : ℕ)
    → worth_from times worth start (names ++ name ∷ []) ≡ worth_from times worth start names + times (start + length names) * worth name
worth_push times worth start [] name = rw (add-zero start) (omega arith)
worth_push times worth start (first ∷ names) name =
    let place : start + 1 + length names ≡ start + length (first ∷ names) = omega arith in
    let rest = rw place at (worth_push times worth (start + 1) names name) in
    rw rest (omega arith)

-- what stands for the table of an L1 entry
pub name_at : (l1 : List ℕ) (index : ℕ) → index < length l1 → slice_index (table_names l1) index ≡ offset_field (slice_index l1 index)
name_at l1 index below = get_or-map offset_field l1 index 0 0 below
