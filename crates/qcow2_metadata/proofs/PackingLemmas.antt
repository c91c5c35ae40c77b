use Rattle.std.proofs.Common.{◌≡◌, ℕ, zero, suc, ◌+◌, ◌-◌, ◌*◌, ◌/◌, ◌%◌, ◌^◌, ◌<◌, ◌≤◌, ◌⊎◌, List, [], ◌∷◌, ◌++◌, map, length, slice_index, take, drop, refl, sym, ◌∙◌, ap, inl, inr, add-zero, zero-add, add_assoc, mul-zero, mod-eq_of_lt, pow-suc, pow_pos, mul-le-mul_left, le-leb, get_or-drop, get_or-take, length-append, length-drop, length-take, arith, mul_assoc, pow_mono}
use Rattle.std.specs.List.{All, range_with_len}
use Rattle.std.proofs.lemmas.Bool.{cases_lt, lt-leb}
use Rattle.std.proofs.lemmas.List.{get_or-append_right, get_or_append_left, get_or_past, take_more}
use Rattle.std.proofs.lemmas.List.Elements.{All-drop, All-head, All-tail, All-take, All-get_or}
use Rattle.std.proofs.lemmas.List.FromFn.{fill_by_all, get_or-map-range_with_len, length-map-range_with_len, map-range_with_len_more}
use Rattle.std.proofs.lemmas.Nat.{div-mul-add, div_below, mul-add-lt, mod-mul-add, mod-pow-add, mod_below, shr-shr, pow-add}
use Rattle.std.proofs.Math.Nat.{lt_of_mul-lt-mul_right, mul-add-div, mul-add-mod_self_left, add-mul-div_left, add-mul-mod_self_left, div-eq_of_lt, le-div_iff_mul-le, mod-one, zero-div, zero-mod, one-le-pow, div-one}
use Rattle.std.proofs.Math.Arith.{mod-mul}
use Rattle.qcow2_base.specs.Bits.{field}
use Rattle.qcow2_base.specs.Storage.{Holds, Image, IsBytes, be, image_of}
use Rattle.qcow2_base.proofs.StorageLemmas.{be_determines, be_fits, be_of_same}
use Rattle.qcow2_metadata.specs.Refblock.Counters.{AreCounters}
use Rattle.qcow2_metadata.specs.Refblock.Packing.{bytes_each, counter_at, counters_at, from_digits, counter_bytes, per_byte, width}
use Rattle.std.proofs.lemmas.Bool.Decides.{nat_tests}

-- lists made from functions that agree at their places
pub map_range_at : (f g : ℕ → ℕ) (a b n : ℕ) → ((i : ℕ) → i < n → f (a + i) ≡ g (b + i)) → map f (range_with_len a n) ≡ map g (range_with_len b n)
map_range_at f g a b zero same = refl
map_range_at f g a b (suc n) same =
    let first : f a ≡ g b = simp add-zero at (same 0 (omega arith)) in
    let rest = map_range_at f g (a + 1) (b + 1) n (λ i h. rw (add_assoc a 1 i, add_assoc b 1 i) (same (1 + i) (omega arith))) in
    rw (first, rest) refl

-- a list made from a function of the index, cut in two
map_range-append : (f g : ℕ → ℕ) (n m : ℕ) → ((i : ℕ) → i < m → f (n + i) ≡ g i) → map f (range_with_len 0 (n + m)) ≡ map f (range_with_len 0 n) ++ map g (range_with_len 0 m)
map_range-append f g n m same =
    let xs = map f (range_with_len 0 n) in
    let ys = map g (range_with_len 0 m) in
    let len = length-map-range_with_len f 0 n in
    sym (fill_by_all f (xs ++ ys) (n + m) 0 (omega (arith, length-append xs ys, len, length-map-range_with_len g 0 m)) (λ k below. elim (cases_lt k n) [
      | inl before ↦ get_or_append_left xs ys 0 k (omega (arith, len)) ∙ get_or-map-range_with_len f 0 n k k 0 before (omega arith)
      | inr after ↦
          let at : n + (k - n) ≡ k = omega arith in
          get_or-append_right xs ys n k 0 len after
          ∙ get_or-map-range_with_len g 0 m (k - n) (k - n) 0 (omega arith) (omega arith) ∙ rw at at (sym (same (k - n) (omega arith)))
    ]))

-- a fact of each order of counters that are no wider than a byte
pub narrow_cases : (P : ℕ → Type 0) → P 0 → P 1 → P 2 → P 3 → (order : ℕ) → order ≤ 3 → P order
narrow_cases P a b c d zero narrow = a
narrow_cases P a b c d (suc zero) narrow = b
narrow_cases P a b c d (suc (suc zero)) narrow = c
narrow_cases P a b c d (suc (suc (suc zero))) narrow = d
narrow_cases P a b c d (suc (suc (suc (suc order)))) narrow = absurd (omega arith)

-- a fact of each order of wider counters
wide_cases : (P : ℕ → Type 0) → P 4 → P 5 → P 6 → (order : ℕ) → 4 ≤ order → order ≤ 6 → P order
wide_cases P a b c order low high = grind (arith)

pub width-per_byte : (order : ℕ) → order ≤ 3 → width order * per_byte order ≡ 8
width-per_byte = narrow_cases (λ order. width order * per_byte order ≡ 8) refl refl refl refl

pub width-bytes_each : (order : ℕ) → 4 ≤ order → order ≤ 6 → 2 ^ width order ≡ 256 ^ bytes_each order
width-bytes_each = wide_cases (λ order. 2 ^ width order ≡ 256 ^ bytes_each order) refl refl refl

-- how many counters are in len bytes
pub narrow_count : (order : ℕ) → order ≤ 3 → (n len : ℕ) → width order * n ≡ 8 * len → n ≡ per_byte order * len
narrow_count = narrow_cases (λ order. (n len : ℕ) → width order * n ≡ 8 * len → n ≡ per_byte order * len)
    (λ n len whole. omega arith) (λ n len whole. omega arith) (λ n len whole. omega arith) (λ n len whole. omega arith)

pub wide_count : (order : ℕ) → 4 ≤ order → order ≤ 6 → (n len : ℕ) → width order * n ≡ 8 * len → bytes_each order * n ≡ len
wide_count = wide_cases (λ order. (n len : ℕ) → width order * n ≡ 8 * len → bytes_each order * n ≡ len)
    (λ n len whole. omega arith) (λ n len whole. omega arith) (λ n len whole. omega arith)

-- a number is shifted by a digit
shifted_by_digit : (w x rest k : ℕ) → x < 2 ^ w → (x + 2 ^ w * rest) / 2 ^ (w * suc k) ≡ rest / 2 ^ (w * k)
shifted_by_digit w x rest k small =
    let split : w * suc k ≡ w + w * k = omega arith in
    let once : (x + 2 ^ w * rest) / 2 ^ w ≡ rest = add-mul-div_left x rest (pow_pos w) ∙ rw (div-eq_of_lt small) (zero-add rest) in
    rw (split, ← shr-shr (x + 2 ^ w * rest) w (w * k), once) refl

-- digit k of a number with these digits
pub digit_is : (w : ℕ) (digits : List ℕ) (k : ℕ) → All (λ digit. digit < 2 ^ w) digits → field (from_digits (2 ^ w) digits) (w * k) w ≡ slice_index digits k
digit_is w [] k small = rw (zero-div, zero-mod) refl
digit_is w (x ∷ digits) zero small = grind (arith, nat_tests, All-head, add-mul-mod_self_left, mod-eq_of_lt, mul-zero)
digit_is w (x ∷ digits) (suc k) small =
    grind (arith, nat_tests, All-head, All-tail, shifted_by_digit, digit_is w digits k (All-tail (λ digit. digit < 2 ^ w) x digits small))

-- the number with that many digits of v from digit a on
pub digits_of_number : (w v a m : ℕ) → from_digits (2 ^ w) (map (λ k. field v (w * k) w) (range_with_len a m)) ≡ v / 2 ^ (w * a) % 2 ^ (w * m)
digits_of_number w v a zero = rw (mul-zero w) (sym (mod-one (v / 2 ^ (w * a))))
digits_of_number w v a (suc m) =
    let u = v / 2 ^ (w * a) in
    let next : w * (a + 1) ≡ w * a + w = omega arith in
    let count : w * suc m ≡ w * m + w = omega arith in
    let shifted : v / 2 ^ (w * (a + 1)) ≡ u / 2 ^ w = rw next (sym (shr-shr v (w * a) w)) in
    let rest = digits_of_number w v (a + 1) m in
    rw (rest, shifted, count) (omega (arith, mod-pow-add u (w * m) w))

-- the big-endian number whose bytes are those of v
pub be_of_parts : (image : Image) (o n v : ℕ) → ((k : ℕ) → k < n → image (o + k) ≡ v / 256 ^ (n - 1 - k) % 256) → be image o n ≡ v % 256 ^ n
unfolding be
be_of_parts image o zero v parts = sym (mod-one v)
be_of_parts image o (suc n) v parts =
    let last : suc n - 1 - 0 ≡ n = omega arith in
    let first : image o ≡ v / 256 ^ n % 256 = rw (add-zero, last) at (parts 0 (omega arith)) in
    let rest = be_of_parts image (o + 1) n v
    (λ k below. let place : o + 1 + k ≡ o + (1 + k) = omega arith in
    let power : n - 1 - k ≡ suc n - 1 - (1 + k) = omega arith in
    rw (place, power) (parts (1 + k) (omega arith))) in
    let whole = mod-mul v {m = 256} {c = 256 ^ n} (omega arith) (one-le-pow n 256 (omega arith)) in
    let power : 256 ^ suc n ≡ 256 * 256 ^ n = omega (arith, pow-suc 256 n) in
    rw (first, rest, power) (sym whole)

-- byte k of a big-endian number
pub byte_of_be : (image : Image) (o s k : ℕ) → IsBytes image → k < s → be image o s / 256 ^ (s - 1 - k) % 256 ≡ image (o + k)
byte_of_be image o s k small below =
    let v = be image o s in
    let parts : Image = λ j. v / 256 ^ (s - 1 - j) % 256 in
    let number : be parts 0 s ≡ v = be_of_parts parts 0 s v (λ j _. rw (zero-add j) refl) ∙ mod-eq_of_lt (be_fits image o s small) in
    let bytes : IsBytes parts = λ j. mod_below (v / 256 ^ (s - 1 - j)) 256 (omega arith) in
    rw (zero-add k) at (be_determines parts image s 0 o bytes small number k below)

pub counters_at-length : (order : ℕ) (image : Image) (offset n : ℕ) → length (counters_at order image offset n) ≡ n
counters_at-length order image offset n = length-map-range_with_len (counter_at order image offset) 0 n

pub counter_at-small : (order : ℕ) (image : Image) (offset i : ℕ) → order ≤ 6 → IsBytes image → counter_at order image offset i < 2 ^ width order
counter_at-small order image offset i low bytes = grind (arith, nat_tests, mod_below, be_fits, width-bytes_each, pow_pos)

-- what is read fits its width
pub counters_at-small : (order : ℕ) (image : Image) (offset n : ℕ) → order ≤ 6 → IsBytes image → AreCounters order (counters_at order image offset n)
counters_at-small order image offset n low bytes = grind (arith, counters_at-length, get_or-map-range_with_len, counter_at-small)

counter_at-same : (order n len : ℕ) (f g : Image) (o p i : ℕ) → order ≤ 6 → width order * n ≡ 8 * len → ((k : ℕ) → k < len → f (o + k) ≡ g (p + k)) → i < n → counter_at order f o i ≡ counter_at order g p i
counter_at-same order n len f g o p i low whole same below = elim (cases_lt order 4) [
  | inl less ↦
      let narrow : order ≤ 3 = omega arith in
      let per = per_byte order in
      let count = narrow_count order narrow n len whole in
      let within : i / per < len = div_below i per len (pow_pos (3 - order)) (omega arith) in
      rw (le-leb order 3 narrow, same (i / per) within) refl
  | inr wide ↦
      let s = bytes_each order in
      let count = wide_count order wide low n len whole in
      rw (lt-leb order 3 wide)
      (be_of_same f g s (o + s * i) (p + s * i)
      (λ k small. rw (add_assoc o (s * i) k, add_assoc p (s * i) k) (same (s * i + k) (omega (arith, mul-add-lt i s k n below small)))))
]

-- images that agree over whole bytes have the same counters there
pub counters_at-same : (order n len : ℕ) (f g : Image) (o p : ℕ) → order ≤ 6 → width order * n ≡ 8 * len → ((k : ℕ) → k < len → f (o + k) ≡ g (p + k)) → counters_at order f o n ≡ counters_at order g p n
counters_at-same order n len f g o p low whole same =
    map_range_at (counter_at order f o) (counter_at order g p) 0 0 n
    (λ i below. rw (zero-add i) (counter_at-same order n len f g o p i low whole same below))

counter_at-later : (order n len : ℕ) (image : Image) (offset i : ℕ) → order ≤ 6 → width order * n ≡ 8 * len → counter_at order image offset (n + i) ≡ counter_at order image (offset + len) i
counter_at-later order n len image offset i low whole = elim (cases_lt order 4) [
  | inl less ↦
      let narrow : order ≤ 3 = omega arith in
      let per = per_byte order in
      let count = narrow_count order narrow n len whole in
      let byte = mul-add-div (pow_pos (3 - order)) len i in
      let place = mul-add-mod_self_left per len i in
      rw (le-leb order 3 narrow, count, byte, place, add_assoc offset len (i / per)) refl
  | inr wide ↦
      let s = bytes_each order in
      let count = wide_count order wide low n len whole in
      let place : offset + s * (n + i) ≡ offset + len + s * i = omega arith in
      rw (lt-leb order 3 wide, place) refl
]

-- the counters of bytes that an image holds are the image's
pub counters_at-held : (order n len : ℕ) (image : Image) (offset : ℕ) (bytes : List ℕ) → order ≤ 6 → width order * n ≡ 8 * len → len ≤ length bytes → Holds image offset bytes → counters_at order image offset n ≡ counters_at order (image_of bytes) 0 n
counters_at-held order n len image offset bytes low whole within held =
    counters_at-same order n len image (image_of bytes) offset 0 low whole (λ k below. rw (zero-add k) (sym (held.each k (omega arith))))

-- the counters of len bytes, and those that come after them
pub counters_at-append : (order n m len : ℕ) (image : Image) (offset : ℕ) → order ≤ 6 → width order * n ≡ 8 * len → counters_at order image offset (n + m) ≡ counters_at order image offset n ++ counters_at order image (offset + len) m
counters_at-append order n m len image offset low whole = grind (arith, nat_tests, map_range-append, counter_at-later)

counter_is_small : (order : ℕ) (counters : List ℕ) (i : ℕ) → AreCounters order counters → slice_index counters i < 2 ^ width order
counter_is_small order counters i small = grind (arith, get_or_past, pow_pos)

-- counters that are packed are in their bytes
pub counter_at-packed : (order : ℕ) (counters : List ℕ) (i : ℕ) → order ≤ 6 → AreCounters order counters → counter_at order (counter_bytes order counters) 0 i ≡ slice_index counters i
counter_at-packed order counters i low small = elim (cases_lt order 4) [
  | inl less ↦
      let narrow : order ≤ 3 = omega arith in
      let per = per_byte order in
      let w = width order in
      let fits = λ (counter : ℕ). counter < 2 ^ w in
      let byte = take per (drop (per * (i / per)) counters) in
      let digit = digit_is w byte (i % per) (All-take fits per _ (All-drop fits (per * (i / per)) counters small)) in
      let place : per * (i / per) + i % per ≡ i = omega (arith, pow_pos (3 - order)) in
      let there : slice_index byte (i % per) ≡ slice_index counters i =
      get_or-take per (drop (per * (i / per)) counters) (i % per) 0 (mod_below i per (pow_pos (3 - order)))
      ∙ get_or-drop (per * (i / per)) counters (i % per) 0 ∙ ap (λ (n : ℕ). slice_index counters n) place in
      rw (le-leb order 3 narrow, zero-add (i / per)) (digit ∙ there)
  | inr wide ↦
      let s = bytes_each order in
      let v = slice_index counters i in
      let number = be_of_parts (counter_bytes order counters) (0 + s * i) s v
      (λ k below. let at : 0 + s * i + k ≡ i * s + k = omega arith in
      rw (at, lt-leb order 3 wide, div-mul-add i s k below, mod-mul-add i s k below) refl) in
      let fits : v < 256 ^ s = rw (width-bytes_each order wide low) at (counter_is_small order counters i small) in
      rw (lt-leb order 3 wide) (number ∙ mod-eq_of_lt fits)
]

-- a byte whose digits are read and packed again
narrow_byte_again : (order n len : ℕ) (image : Image) (offset j : ℕ) → order ≤ 3 → IsBytes image → width order * n ≡ 8 * len → j < len → counter_bytes order (counters_at order image offset n) j ≡ image (offset + j)
narrow_byte_again order n len image offset j narrow bytes whole below =
    let w = width order in
    let per = per_byte order in
    let v = image (offset + j) in
    let counter = counter_at order image offset in
    let count = narrow_count order narrow n len whole in
    let within : per * j + per ≤ n = omega (arith, mul-le-mul_left per below) in
    let numbers = counters_at order image offset n in
    let digits : take per (drop (per * j) numbers) ≡ map (λ k. field v (w * k) w) (range_with_len 0 per) =
    fill_by_all (λ k. field v (w * k) w) _ per 0 (omega (arith, length-take per (drop (per * j) numbers), length-drop (per * j) numbers, counters_at-length order image offset n))
    (λ i small. let at : per * j + i ≡ j * per + i = omega arith in
    get_or-take per (drop (per * j) numbers) i 0 small ∙ get_or-drop (per * j) numbers i 0
    ∙ get_or-map-range_with_len counter 0 n (per * j + i) (j * per + i) 0 (omega arith) (omega arith)
    ∙ rw (le-leb order 3 narrow, div-mul-add j per i small, mod-mul-add j per i small) refl) in
    let number = digits_of_number w v 0 per in
    let all : v / 2 ^ (w * 0) % 2 ^ (w * per) ≡ v = rw (mul-zero w, width-per_byte order narrow) (omega (arith, bytes (offset + j))) in
    rw (le-leb order 3 narrow) (ap (from_digits (2 ^ w)) digits ∙ number ∙ all)

wide_byte_again : (order n len : ℕ) (image : Image) (offset j : ℕ) → 4 ≤ order → order ≤ 6 → IsBytes image → width order * n ≡ 8 * len → j < len → counter_bytes order (counters_at order image offset n) j ≡ image (offset + j)
wide_byte_again order n len image offset j wide low bytes whole below =
    let s = bytes_each order in
    let i = j / s in
    let count = wide_count order wide low n len whole in
    let within : i < n = div_below j s n (pow_pos (order - 3)) (omega arith) in
    let counter = get_or-map-range_with_len (counter_at order image offset) 0 n i i 0 within (omega arith) in
    let place : offset + s * i + j % s ≡ offset + j = omega (arith, pow_pos (order - 3)) in
    rw (lt-leb order 3 wide, rw (lt-leb order 3 wide) at counter)
    (byte_of_be image (offset + s * i) s (j % s) bytes (mod_below j s (pow_pos (order - 3))) ∙ ap image place)

-- counters that are read from whole bytes have these bytes when they are packed
pub packed-counters_at : (order n len : ℕ) (image : Image) (offset j : ℕ) → order ≤ 6 → IsBytes image → width order * n ≡ 8 * len → j < len → counter_bytes order (counters_at order image offset n) j ≡ image (offset + j)
packed-counters_at order n len image offset j low bytes whole below = elim (cases_lt order 4) [
  | inl less ↦ narrow_byte_again order n len image offset j (omega arith) bytes whole below
  | inr wide ↦ wide_byte_again order n len image offset j wide low bytes whole below
]

-- each counter of whole bytes ends by the end of the bytes
pub counter_ends : (order size len x : ℕ) → size ≡ bytes_each order → x < len / size → size * x + size ≤ len
counter_ends order size len x each below =
    let some : 0 < size = rw each (pow_pos _) in
    let whole : (x + 1) * size ≤ len = (le-div_iff_mul-le some).0 (omega (arith, below)) in
    omega (arith, whole)

-- one wide counter more is written
pub wide_bytes-more : (order size first index : ℕ) (counters old new : List ℕ) → 4 ≤ order → size ≡ bytes_each order → IsBytes (image_of new)
    → ((i : ℕ) → i < size * index → slice_index old i ≡ counter_bytes order counters (size * first + i))
    → be (image_of new) (size * index) size ≡ slice_index counters (first + index)
    → ((i : ℕ) → (i < size * index) ⊎ (size * index + size ≤ i) → slice_index new i ≡ slice_index old i)
    → (i : ℕ) → i < size * (index + 1) → slice_index new i ≡ counter_bytes order counters (size * first + i)
wide_bytes-more order size first index counters old new wide each bytes so_far number kept i below = elim (cases_lt i (size * index)) [
  | inl before ↦ kept i (inl before) ∙ so_far i before
  | inr from ↦
      let k = i - size * index in
      let within : k < size = omega arith in
      let place : size * index + k ≡ i = omega arith in
      let at : size * first + i ≡ (first + index) * size + k = omega arith in
      let byte = byte_of_be (image_of new) (size * index) size k bytes within in
      let divided = div-mul-add (first + index) size k within in
      let rest = mod-mul-add (first + index) size k within in
      rw (at, lt-leb order 3 wide, ← each, divided, rest, ← number, byte, place) refl
]

-- a counter that the bytes have room for is one of the list's
pub counter_within : (order size first index len count : ℕ) → size ≡ bytes_each order → index < len / size → size * first + len ≤ size * count → first + index < count
counter_within order size first index len count each below within =
    let some : 0 < size = rw each (pow_pos (order - 3)) in
    let next : index + 1 ≤ len / size = omega arith in
    let fits = (le-div_iff_mul-le {k = size} {x = index + 1} {y = len} some).0 next in
    lt_of_mul-lt-mul_right size (omega (arith, fits, within))

-- a width as the code makes it, and the number of values that a counter has
pub shifted_one : (order : ℕ) → order ≤ 2 → 1 * 2 ^ order % 18446744073709551616 ≡ width order
shifted_one order low = mod-eq_of_lt (omega (arith, pow_mono {i = order} {j = 2} low)) ∙ omega arith

pub values_fit : (order : ℕ) → order ≤ 2 → 1 * 2 ^ width order % 256 ≡ 2 ^ width order
values_fit order low = narrow_cases (λ order. order ≤ 2 → 1 * 2 ^ width order % 256 ≡ 2 ^ width order)
    (λ low. refl) (λ low. refl) (λ low. refl) (λ low. absurd (omega arith)) order (omega arith) low

-- a counter's place in its byte
pub place_fits : (order per index : ℕ) → order ≤ 3 → per ≡ per_byte order → index < per → width order * (index + 1) ≤ 8
place_fits order per index narrow each below =
    narrow_cases (λ order. index < per_byte order → width order * (index + 1) ≤ 8) (λ h. omega arith) (λ h. omega arith) (λ h. omega arith) (λ h. omega arith) order narrow (omega arith)

-- the array that has each counter of a byte
pub counters_of_byte : (order per byte : ℕ) (xs : List ℕ) → order ≤ 3 → per ≡ per_byte order → length xs ≡ per → ((i : ℕ) → i < per → slice_index xs i ≡ field byte (width order * i) (width order)) → xs ≡ counters_at order (image_of (byte ∷ [])) 0 per
counters_of_byte order per byte xs narrow each len digits =
    fill_by_all (counter_at order (image_of (byte ∷ [])) 0) xs per 0 len
    (λ i below. let within : i < per_byte order = omega arith in
    let first : i / per_byte order ≡ 0 = div-eq_of_lt within in
    digits i below ∙ rw (le-leb order 3 narrow, first, mod-eq_of_lt within) refl)

-- the counters of one byte more
pub narrow_counters_more : (order per i byte : ℕ) (bytes read : List ℕ) → order ≤ 3 → per ≡ per_byte order → byte ≡ slice_index bytes i → read ≡ counters_at order (image_of bytes) 0 (per * i) → read ++ counters_at order (image_of (byte ∷ [])) 0 per ≡ counters_at order (image_of bytes) 0 (per * (i + 1))
narrow_counters_more order per i byte bytes read narrow each is so_far =
    let image = image_of bytes in
    let one : width order * per ≡ 8 * 1 = rw each (width-per_byte order narrow) in
    let whole : width order * (per * i) ≡ 8 * i = sym (mul_assoc (width order) per i) ∙ ap (λ (x : ℕ). x * i) one in
    let here : counters_at order (image_of (byte ∷ [])) 0 per ≡ counters_at order image (0 + i) per =
    counters_at-same order per 1 (image_of (byte ∷ [])) image 0 (0 + i) (omega arith) one
    (λ k below. let first : k ≡ 0 = omega arith in rw (first, add-zero (0 + i), zero-add i) is) in
    let next : per * (i + 1) ≡ per * i + per = omega arith in
    rw (so_far, here, next) (sym (counters_at-append order (per * i) per i image 0 (omega arith) whole))

-- one wide counter more
pub wide_counters_more : (order size i : ℕ) (image : Image) (counter : ℕ) (read : List ℕ) → 4 ≤ order → size ≡ bytes_each order → be image (size * i) size ≡ counter → read ≡ counters_at order image 0 i → read ++ counter ∷ [] ≡ counters_at order image 0 (i + 1)
wide_counters_more order size i image counter read wide each number so_far =
    let last : counter_at order image 0 i ≡ counter = rw (lt-leb order 3 wide, zero-add (bytes_each order * i), ← each) number in
    rw (so_far, ← last) (sym (map-range_with_len_more (counter_at order image 0) 0 i i (zero-add i)))

from_digits_push : (w x : ℕ) (digits : List ℕ) → from_digits (2 ^ w) (digits ++ x ∷ []) ≡ from_digits (2 ^ w) digits + x * 2 ^ (w * length digits)
from_digits_push w x [] = rw (mul-zero w, mul-zero (2 ^ w)) (omega arith)
from_digits_push w x (y ∷ digits) =
    let rest = from_digits_push w x digits in
    let next : w * suc (length digits) ≡ w + w * length digits = omega arith in
    let power = pow-add 2 w (w * length digits) in
    rw (rest, next, power) (omega arith)

-- the digits so far, one after another
pub from_digits-more : (w i : ℕ) (digits : List ℕ) → i < length digits → from_digits (2 ^ w) (take (i + 1) digits) ≡ from_digits (2 ^ w) (take i digits) + slice_index digits i * 2 ^ (w * i)
from_digits-more w i digits below =
    let count : length (take i digits) ≡ i = omega (arith, length-take i digits) in
    rw (take_more digits i 0 below, from_digits_push w (slice_index digits i) (take i digits), count) refl

digit_fits : (w byte x i : ℕ) → byte < 2 ^ (w * i) → x < 2 ^ w → byte + x * 2 ^ (w * i) < 2 ^ (w * (i + 1))
digit_fits w byte x i low small =
    let next : w * (i + 1) ≡ w * i + w = omega arith in
    let power = pow-add 2 (w * i) w in
    rw (next, power) (omega (arith, mul-add-lt x (2 ^ (w * i)) byte (2 ^ w) small low))

-- a counter is added to a byte at its place: no bit is cut, and the sum fits the places so far
pub record IsDigitMore (w byte x i : ℕ) : Type 0 where
  pub whole : x * 2 ^ (w * i) % 256 ≡ x * 2 ^ (w * i)
  pub below : byte + x * 2 ^ (w * i) < 2 ^ (w * (i + 1))
  pub fits : byte + x * 2 ^ (w * i) < 256

pub digit_more : (order per i byte : ℕ) (counters : List ℕ) → order ≤ 3 → per ≡ per_byte order → length counters ≡ per → AreCounters order counters → i < per → byte < 2 ^ (width order * i) → IsDigitMore (width order) byte (slice_index counters i) i
digit_more order per i byte counters narrow each len small below low =
    let w = width order in
    let x = slice_index counters i in
    let limit : 2 ^ (w * (i + 1)) ≤ 2 ^ 8 = pow_mono (place_fits order per i narrow each below) in
    let x_fits : x < 2 ^ w = All-get_or (λ counter. counter < 2 ^ w) counters i 0 (omega arith) small in
    let sum = digit_fits w byte x i low x_fits in
    record {
      whole = mod-eq_of_lt (omega (arith, sum, limit));
      below = sum;
      fits = omega (arith, sum, limit);
    }

-- counters of eight bits are the bytes
pub counters_are_bytes : (order : ℕ) (bytes : List ℕ) → order ≡ 3 → IsBytes (image_of bytes) → counters_at order (image_of bytes) 0 (per_byte order * length bytes) ≡ bytes
counters_are_bytes order bytes eight small =
    let count : 1 * length bytes ≡ length bytes = omega arith in
    let all = fill_by_all (counter_at 3 (image_of bytes) 0) bytes (length bytes) 0 refl
    (λ i below. rw (div-one i, mod-one i, zero-add i, div-one (slice_index bytes i)) (sym (mod-eq_of_lt (small i)))) in
    rw (eight, count) (sym all)
