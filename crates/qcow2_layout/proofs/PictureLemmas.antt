use Rattle.std.proofs.Common.{◌≡◌, ◌≢◌, ◌⊎◌, ℕ, ◌+◌, ◌-◌, ◌*◌, ◌/◌, ◌^◌, ◌<◌, ◌≤◌, max, List, [], ◌∷◌, ◌++◌, append-nil, drop, flat_map, get_or, length, slice_index, slice_set, take, take_all, zero-add, ap, refl, sym, subst, ◌∙◌, inl, inr, arith, get_or-set_other, get_or-set_same}
use Rattle.std.specs.List.{range_with_len}
use Rattle.std.proofs.lemmas.Bool.Decides.{nat_tests}
use Rattle.std.proofs.lemmas.Grind.{flat_map-append}
use Rattle.std.proofs.lemmas.List.{at_drop_more, drop_all, take_more}
use Rattle.std.proofs.lemmas.List.FromFn.{get_or-range_with_len, length-range_with_len}
use Rattle.std.proofs.lemmas.Bool.{cases_lt}
use Rattle.std.proofs.lemmas.Grind.{pow_more}
use Rattle.std.proofs.lemmas.Nat.{div_below, pow_pos}
use Rattle.qcow2_base.specs.Storage.{IsPowerOfTwo}
use Rattle.std.proofs.Math.Nat.{add-mul, div-mul-le_self, mul-le-mul_right}
use Rattle.qcow2_layout.specs.Layout.{moved_part}
use Rattle.qcow2_layout.specs.declared.parts.Run.{Run}
use Rattle.qcow2_layout.proofs.ShadesLemmas.{shade-grows}
use Rattle.qcow2_layout.specs.Picture.{GrowsScale, HasRun, HaveShades, IsScale, IsShade, Shades, all_squares, same_count, shade_of}

-- one of two numbers is not less than the other
either : (a b : ℕ) → (a ≤ b) ⊎ (b < a)
either a b = elim (cases_lt b a) [
  | inl less ↦ inr less
  | inr more ↦ inl more
]

-- a power of two is not 0
pub power_some : (n : ℕ) → IsPowerOfTwo n → 0 < n
power_some n is = rw is.1 (pow_pos is.0)

-- no square has a cluster, so each has any shades
pub nothing-shown : (shades : Shades) (squares : List ℕ) → ((i : ℕ) → i < all_squares → slice_index squares i ≡ 0) → HaveShades shades 0 1 squares
nothing-shown shades squares zeros i below = record {
  bound = λ c first after before. absurd (omega (arith, before));
  some = inl (zeros i below);
}

module _ (shades : Shades) (end : ℕ) where
  -- a square that has the clusters of two
  pub two-squares : (first middle after a b : ℕ) → first ≤ middle → middle ≤ after → IsShade shades end first middle a → IsShade shades end middle after b
      → IsShade shades end first after (max a b)
  two-squares first middle after a b below above one two = record {
    bound = λ c from to before. of_cluster c from to before (either middle c);
    some = of_greater (either a b) one.some two.some;
  }
    where
      of_cluster : (c : ℕ) → first ≤ c → c < after → c < end → (middle ≤ c) ⊎ (c < middle) → shades c ≤ max a b
      of_cluster c from to before (inl later) = omega (arith, two.bound c later to before)
      of_cluster c from to before (inr sooner) = omega (arith, one.bound c from sooner before)

      of_greater : (a ≤ b) ⊎ (b < a) → (a ≡ 0) ⊎ ((c : ℕ) × (first ≤ c) × (c < middle) × (c < end) × (shades c ≡ a))
          → (b ≡ 0) ⊎ ((c : ℕ) × (middle ≤ c) × (c < after) × (c < end) × (shades c ≡ b))
          → (max a b ≡ 0) ⊎ ((c : ℕ) × (first ≤ c) × (c < after) × (c < end) × (shades c ≡ max a b))
      of_greater (inl less) here (inl none) = inl (omega (arith, less, none))
      of_greater (inl less) here (inr there) = inr (there.0, omega (arith, below, there.1), there.2, there.3, omega (arith, less, there.4))
      of_greater (inr more) (inl none) there = absurd (omega (arith, more, none))
      of_greater (inr more) (inr here) there = inr (here.0, here.1, omega (arith, here.2, above), here.3, omega (arith, more, here.4))

  -- a square past the image's end
  pub empty-square : (first after : ℕ) → end ≤ first → IsShade shades end first after 0
  empty-square first after past = record {
    bound = λ c from to before. absurd (omega (arith, past, from, before));
    some = inl refl;
  }

-- a square that gets no cluster by those up to a new end
pub square-stays : (shades : Shades) (end later first after shade : ℕ) → end ≤ later → (after ≤ end) ⊎ (later ≤ first) → IsShade shades end first after shade
    → IsShade shades later first after shade
square-stays shades end later first after shade further apart is = record {
  bound = λ c from to before. of_side c from to before apart;
  some = kept is.some;
}
  where
    of_side : (c : ℕ) → first ≤ c → c < after → c < later → (after ≤ end) ⊎ (later ≤ first) → shades c ≤ shade
    of_side c from to before (inl whole) = is.bound c from to (omega (arith, to, whole))
    of_side c from to before (inr past) = absurd (omega (arith, from, before, past))

    kept : (shade ≡ 0) ⊎ ((c : ℕ) × (first ≤ c) × (c < after) × (c < end) × (shades c ≡ shade))
        → (shade ≡ 0) ⊎ ((c : ℕ) × (first ≤ c) × (c < after) × (c < later) × (shades c ≡ shade))
    kept (inl none) = inl none
    kept (inr one) = inr (one.0, one.1, one.2, omega (arith, one.3, further), one.4)

-- the square that gets clusters of a run, of which the last has the greatest shade
pub square-painted : (shades : Shades) (end later first after shade last : ℕ) → end < later → first ≤ end → later ≤ after
    → ((c : ℕ) → end ≤ c → c < later → shades c ≤ last) → shades (later - 1) ≡ last → IsShade shades end first after shade
    → IsShade shades later first after (max shade last)
square-painted shades end later first after shade last further from to within greatest is = record {
  bound = λ c low high before. of_side c low high before (either end c);
  some = of_greater (either shade last) is.some;
}
  where
    of_side : (c : ℕ) → first ≤ c → c < after → c < later → (end ≤ c) ⊎ (c < end) → shades c ≤ max shade last
    of_side c low high before (inl new) = omega (arith, within c new before)
    of_side c low high before (inr old) = omega (arith, is.bound c low high old)

    of_greater : (shade ≤ last) ⊎ (last < shade) → (shade ≡ 0) ⊎ ((c : ℕ) × (first ≤ c) × (c < after) × (c < end) × (shades c ≡ shade))
        → (max shade last ≡ 0) ⊎ ((c : ℕ) × (first ≤ c) × (c < after) × (c < later) × (shades c ≡ max shade last))
    of_greater (inl less) old = inr (later - 1, omega (arith, further, from), omega (arith, further, to), omega (arith, further), omega (arith, less, greatest))
    of_greater (inr more) (inl none) = absurd (omega (arith, more, none))
    of_greater (inr more) (inr old) = inr (old.0, old.1, old.2, omega (arith, old.3, further), omega (arith, more, old.4))

-- squares before another one end where it begins, or before
square-before : (i index scale : ℕ) → i < index → i * scale + scale ≤ index * scale
square-before i index scale below = omega (arith, mul-le-mul_right {m = i + 1} {n = index} scale (omega (arith, below)), add-mul i 1 scale)

-- squares, of which the one of an end gets clusters of a run
pub squares-painted : (shades : Shades) (end later scale index last : ℕ) (squares : List ℕ) → index ≡ end / scale → 0 < scale → index < length squares → end < later
    → later ≤ index * scale + scale → ((c : ℕ) → end ≤ c → c < later → shades c ≤ last) → shades (later - 1) ≡ last → HaveShades shades end scale squares
    → HaveShades shades later scale (slice_set squares index (max (slice_index squares index) last))
squares-painted shades end later scale index last squares here some inside further to within greatest have i below = of_index (either i index)
  where
    begins : index * scale ≤ end
    begins = rw here (div-mul-le_self end scale)

    new : List ℕ
    new = slice_set squares index (max (slice_index squares index) last)

    stays : i ≢ index → (i * scale + scale ≤ end) ⊎ (later ≤ i * scale) → IsShade shades later (i * scale) (i * scale + scale) (slice_index new i)
    stays other apart = rw (get_or-set_other squares index i (max (slice_index squares index) last) 0 other)
        (square-stays shades end later (i * scale) (i * scale + scale) (slice_index squares i) (omega (arith, further)) apart (have i below))

    of_index : (i ≤ index) ⊎ (index < i) → IsShade shades later (i * scale) (i * scale + scale) (slice_index new i)
    of_index (inr more) = stays (λ same. omega (arith, more, same)) (inr (omega (arith, to, square-before index i scale more)))
    of_index (inl less) = of_equal (either index i)
      where
        of_equal : (index ≤ i) ⊎ (i < index) → IsShade shades later (i * scale) (i * scale + scale) (slice_index new i)
        of_equal (inr before) = stays (λ same. omega (arith, before, same)) (inl (omega (arith, begins, square-before i index scale before)))
        of_equal (inl not_before) =
            let same : i ≡ index = omega (arith, less, not_before) in
            rw (same, get_or-set_same squares index (max (slice_index squares index) last) 0 inside)
            (square-painted shades end later (index * scale) (index * scale + scale) (slice_index squares index) last further begins to within greatest
            (subst (λ (k : ℕ). IsShade shades end (k * scale) (k * scale + scale) (slice_index squares k)) same (have i below)))

-- full squares whose pairs become one
pub squares-merged : (shades : Shades) (end scale : ℕ) (old new : List ℕ) → end ≡ scale * all_squares
    → ((i : ℕ) → i < 2048 → slice_index new i ≡ max (slice_index old (2 * i)) (slice_index old (2 * i + 1)))
    → ((i : ℕ) → 2048 ≤ i → i < all_squares → slice_index new i ≡ 0) → HaveShades shades end scale old → HaveShades shades end (2 * scale) new
squares-merged shades end scale old new full pairs others have i below = of_half (either 2048 i)
  where
    of_half : (2048 ≤ i) ⊎ (i < 2048) → IsShade shades end (i * (2 * scale)) (i * (2 * scale) + 2 * scale) (slice_index new i)
    of_half (inl later) = rw (others i later below) (empty-square shades end (i * (2 * scale)) (i * (2 * scale) + 2 * scale)
        (omega (arith, full, mul-le-mul_right {m = 2048} {n = i} (2 * scale) later)))
    of_half (inr sooner) =
        let first : 2 * i * scale ≡ i * (2 * scale) = grind arith in
        let middle : (2 * i + 1) * scale ≡ i * (2 * scale) + scale = grind arith in
        let after : i * (2 * scale) + scale + scale ≡ i * (2 * scale) + 2 * scale = omega arith in
        let one = subst (λ (k : ℕ). IsShade shades end k (k + scale) (slice_index old (2 * i))) first (have (2 * i) (omega (arith, sooner))) in
        let two = subst (λ (k : ℕ). IsShade shades end k (k + scale) (slice_index old (2 * i + 1))) middle (have (2 * i + 1) (omega (arith, sooner))) in
        rw (pairs i sooner) (subst (λ (k : ℕ). IsShade shades end (i * (2 * scale)) k (max (slice_index old (2 * i)) (slice_index old (2 * i + 1)))) after
        (two-squares shades end (i * (2 * scale)) (i * (2 * scale) + scale) (i * (2 * scale) + scale + scale) (slice_index old (2 * i)) (slice_index old (2 * i + 1))
        (omega arith) (omega arith) one two))

-- squares that have the colours of two in the first half, and none in the second
pub squares-doubled : (shades : Shades) (end scale : ℕ) (old merged new : List ℕ) → end ≡ scale * all_squares
    → ((i : ℕ) → i < 2048 → slice_index merged i ≡ max (slice_index old (2 * i)) (slice_index old (2 * i + 1)))
    → ((i : ℕ) → i < 2048 → slice_index new i ≡ slice_index merged i) → ((i : ℕ) → 2048 ≤ i → i < all_squares → slice_index new i ≡ 0)
    → HaveShades shades end scale old → HaveShades shades end (2 * scale) new
squares-doubled shades end scale old merged new full pairs kept others have =
    squares-merged shades end scale old new full (λ i below. kept i below ∙ pairs i below) others have

-- a scale that grows
pub scale-grows : (end scale : ℕ) → IsScale end scale → scale * all_squares ≤ end → GrowsScale end scale (2 * scale)
scale-grows end scale is full =
    let exact : end ≡ scale * 4096 = omega (arith, is.reaches, full) in
    record {
      power = (is.power.0 + 1, rw is.power.1 (grind (arith, pow_more)));
      room = omega (arith, exact, power_some scale is.power);
      least = inr (omega (arith, exact));
    }

-- a scale under which clusters up to a new end are painted
pub scale-painted : (end later old new : ℕ) → IsScale end old → GrowsScale end old new → end < later → later ≤ end / new * new + new → IsScale later new
scale-painted end later old new was grows further to = record {
  power = grows.power;
  reaches = within (end / new) (div_below end new 4096 (power_some new grows.power) (omega (arith, grows.room))) to;
  least = of_growth grows.least was.least;
}
  where
    within : (index : ℕ) → index < 4096 → later ≤ index * new + new → later ≤ new * 4096
    within index below upper = omega (arith, upper, square-before index 4096 new below)

    of_growth : (new ≡ old) ⊎ (end ≡ new * 2048) → (old ≡ 1) ⊎ (old * 2048 < end) → (new ≡ 1) ⊎ (new * 2048 < later)
    of_growth (inr exact) before = inr (omega (arith, exact, further))
    of_growth (inl same) (inl one) = inl (same ∙ one)
    of_growth (inl same) (inr before) =
        let fewer : new * 2048 < end = rw same before in
        inr (omega (arith, fewer, further))

-- the colour of a cluster of a run
of_run : (shades : Shades) (size cb : ℕ) (run : Run) (c : ℕ) → run.first.0 ≤ c → c < run.first.0 + run.count → HasRun shades size cb run
    → shades c ≡ shade_of size (moved_part ((c - run.first.0) * 2 ^ cb) run.part)
of_run shades size cb run c from to has =
    let whole : run.first.0 + (c - run.first.0) ≡ c = omega (arith, from) in
    ap shades (sym whole) ∙ has (c - run.first.0) (omega (arith, from, to))

-- squares, of which the one of an end gets clusters of a run
pub run-painted : (shades : Shades) (size cb : ℕ) (run : Run) (end later scale : ℕ) (squares : List ℕ) → run.first.0 ≤ end → 0 < scale → end / scale < length squares
    → end < later → later ≤ end / scale * scale + scale → later ≤ run.first.0 + run.count → HasRun shades size cb run → HaveShades shades end scale squares
    → HaveShades shades later scale (slice_set squares (end / scale) (max (slice_index squares (end / scale))
    (shade_of size (moved_part ((later - 1 - run.first.0) * 2 ^ cb) run.part))))
run-painted shades size cb run end later scale squares begun some inside further to within has have =
    let last = shade_of size (moved_part ((later - 1 - run.first.0) * 2 ^ cb) run.part) in
    let greatest : shades (later - 1) ≡ last = of_run shades size cb run (later - 1) (omega (arith, begun, further)) (omega (arith, further, within)) has in
    squares-painted shades end later scale (end / scale) last squares refl some inside further to (λ c from before.
    let less = mul-le-mul_right {m = c - run.first.0} {n = later - 1 - run.first.0} (2 ^ cb) (omega (arith, before)) in
    let at_most = shade-grows size run.part ((c - run.first.0) * 2 ^ cb) ((later - 1 - run.first.0) * 2 ^ cb) less in
    rw (of_run shades size cb run c (omega (arith, begun, from)) (omega (arith, before, within)) has) at_most) greatest have

-- one more square of a colour
pub same-more : (shade i : ℕ) (xs : List ℕ) → i < length xs → slice_index xs i ≡ shade → same_count shade (drop i xs) ≡ 1 + same_count shade (drop (i + 1) xs)
same-more shade i xs below here = at_drop_more (same_count shade) xs i 0 below ∙ grind (arith, nat_tests, here)

-- a square of another colour
pub same-stops : (shade i : ℕ) (xs : List ℕ) → i < length xs → slice_index xs i ≢ shade → same_count shade (drop i xs) ≡ 0
same-stops shade i xs below other = at_drop_more (same_count shade) xs i 0 below ∙ grind (arith, nat_tests, other)

-- no square more
pub same-ends : (shade i : ℕ) (xs : List ℕ) → length xs ≤ i → same_count shade (drop i xs) ≡ 0
same-ends shade i xs past = ap (same_count shade) (drop_all i xs past)

-- the shapes of one square more
pub shapes-more : {X : Type 0} (f : ℕ → List X) (n i : ℕ) → i < n → flat_map f (take (i + 1) (range_with_len 0 n)) ≡ flat_map f (take i (range_with_len 0 n)) ++ f i
shapes-more f n i below =
    let inside : i < length (range_with_len 0 n) = rw (length-range_with_len 0 n) below in
    ap (flat_map f) (take_more (range_with_len 0 n) i 0 inside) ∙ flat_map-append f (take i (range_with_len 0 n)) (get_or (range_with_len 0 n) i 0 ∷ [])
    ∙ ap (λ list. flat_map f (take i (range_with_len 0 n)) ++ list) (append-nil (f (get_or (range_with_len 0 n) i 0)) ∙ ap f (get_or-range_with_len 0 n i 0 below ∙ zero-add i))

-- the shapes of all squares
pub shapes-all : {X : Type 0} (f : ℕ → List X) (n i : ℕ) → n ≤ i → flat_map f (take i (range_with_len 0 n)) ≡ flat_map f (range_with_len 0 n)
shapes-all f n i past = ap (flat_map f) (take_all i (range_with_len 0 n) (rw (length-range_with_len 0 n) past))
