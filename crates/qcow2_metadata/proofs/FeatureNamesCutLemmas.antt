use Rattle.std.proofs.Common.{◌≡◌, ◌⊎◌, ℕ, zero, suc, ◌+◌, ◌-◌, ◌<◌, ◌≤◌, true, List, [], ◌∷◌, ◌++◌, length, slice_index, take, drop, refl, sym, ap, ◌∙◌, subst, inl, inr, arith}
use Rattle.std.specs.Int.{is_in_range}
use Rattle.std.specs.Char.{IsScalar, encode_utf8}
use Rattle.std.specs.Str.{IsUtf8, IsValidUpTo, encode_utf8_all}
use Rattle.std.specs.Str.Lossy.{replacement_bytes, second_byte_max, second_byte_min, utf8_error_len, utf8_invalid_len, utf8_lossy, utf8_valid_len}
use Rattle.std.proofs.Math.Utf8.{scalar_cases, scalars}
use Rattle.std.proofs.lemmas.Bool.{and_parts, cases_lt}
use Rattle.std.proofs.lemmas.Bool.Decides.{nat_tests}
use Rattle.std.proofs.lemmas.List.{append-nil, append_assoc, drop_at, length-append, length-drop, length-take, take-append-drop, take-append-le, take_all, take_at}
use Rattle.std.proofs.Math.Seq.{take-append-add}
use Rattle.std.proofs.lemmas.Str.{IsCharBoundary-from_take, IsUtf8-append, IsUtf8-drop, IsUtf8-encode, IsUtf8-nil, encode_same, utf8_lossy_chunk, utf8_lossy_empty, utf8_lossy-IsUtf8, utf8_valid_len-IsValidUpTo}

-- the first bytes of a character, and not all
pub record IsCut (bytes : List ℕ) : Type 0 where
  pub char : ℕ
  pub rest : List ℕ
  pub is_char : IsScalar char
  pub whole : bytes ++ rest ≡ encode_utf8 char
  pub some : 0 < length bytes
  pub more : 0 < length rest

-- two to four bytes, each but the last within its limits in a character of that many
record IsWide (bytes : List ℕ) : Type 0 where
  short : length bytes ≤ 4
  first : is_in_range 0xC2 0xF4 (slice_index bytes 0) ≡ true
  second : is_in_range (second_byte_min (slice_index bytes 0)) (second_byte_max (slice_index bytes 0))
      (slice_index bytes 1) ≡ true
  third : 4 ≤ length bytes → is_in_range 0x80 0xBF (slice_index bytes 2) ≡ true

-- a character of more than one byte
IsWide-encode : (c : ℕ) → IsScalar c → 128 ≤ c → IsWide (encode_utf8 c)
unfolding encode_utf8
IsWide-encode c is wide = grind (arith, nat_tests, scalar_cases)

-- a character below 128 is one byte
length-one : (c : ℕ) → c < 128 → length (encode_utf8 c) ≡ 1
unfolding encode_utf8
length-one c one = grind (arith, nat_tests)

-- a character that is cut has more than one byte
IsWide-cut : (bytes : List ℕ) (cut : IsCut bytes) → IsWide (bytes ++ cut.rest)
IsWide-cut bytes cut = elim (cases_lt cut.char 128) [
  | inl one ↦
      let parts = length-append bytes cut.rest in
      absurd (omega (arith, length-one cut.char one, ap length cut.whole, parts, cut.some, cut.more))
  | inr wide ↦ subst IsWide (sym cut.whole) (IsWide-encode cut.char cut.is_char wide)
]

-- the first bytes of a wide character are replaced as one
utf8_invalid_len-wide : (bytes rest : List ℕ) → IsWide (bytes ++ rest) → 0 < length bytes → 0 < length rest
    → utf8_invalid_len bytes ≡ length bytes
unfolding utf8_error_len
utf8_invalid_len-wide [] rest wide some more = absurd (omega arith)
utf8_invalid_len-wide (a ∷ []) rest wide some more = rw wide.first refl
utf8_invalid_len-wide (a ∷ b ∷ []) rest wide some more = rw (wide.first, wide.second) refl
utf8_invalid_len-wide (a ∷ b ∷ c ∷ []) rest wide some more = grind (arith, nat_tests)
utf8_invalid_len-wide (a ∷ b ∷ c ∷ d ∷ bytes) rest wide some more = grind (arith, nat_tests, length-append)

-- the first bytes of a character aren't text
cut-invalid : (bytes : List ℕ) → IsCut bytes → ¬ (IsUtf8 bytes)
cut-invalid bytes cut ([], (all, is)) = absurd (omega (arith, ap length is, cut.some))
cut-invalid bytes cut (c ∷ chars, (all, is)) =
    let longer : encode_utf8 c ++ (encode_utf8_all chars ++ cut.rest) ≡ encode_utf8 cut.char ++ [] =
    sym (append_assoc (encode_utf8 c) (encode_utf8_all chars) cut.rest)
    ∙ ap (λ (text : List ℕ). text ++ cut.rest) is ∙ cut.whole ∙ sym (append-nil (encode_utf8 cut.char)) in
    let none = (encode_same c cut.char (encode_utf8_all chars ++ cut.rest) [] longer).1 in
    omega (arith, ap length none, length-append (encode_utf8_all chars) cut.rest, cut.more)

-- fewer of the first bytes of a character
cut-fewer : (bytes : List ℕ) (n : ℕ) → IsCut bytes → 0 < n → IsCut (take n bytes)
cut-fewer bytes n cut some = record {
  char = cut.char;
  rest = drop n bytes ++ cut.rest;
  is_char = cut.is_char;
  whole = sym (append_assoc (take n bytes) (drop n bytes) cut.rest)
      ∙ ap (λ (all : List ℕ). all ++ cut.rest) (take-append-drop n bytes) ∙ cut.whole;
  some = omega (arith, length-take n bytes, cut.some);
  more = omega (arith, length-append (drop n bytes) cut.rest, cut.more);
}

-- what follows text in a text is text
text-rest : (front last : List ℕ) → IsUtf8 front → IsUtf8 (front ++ last) → IsUtf8 last
text-rest front last text whole =
    let bytes = front ++ last in
    let begins : take (length front) bytes ≡ front = take_at front last (length front) refl in
    let within : length front ≤ length bytes = omega (arith, length-append front last) in
    let cut = IsCharBoundary-from_take bytes (length front) whole within (subst IsUtf8 (sym begins) text) in
    subst IsUtf8 (drop_at front last (length front) refl) (IsUtf8-drop bytes (length front) whole cut)

-- text and the first bytes of a character are valid up to these bytes
cut-valid : (front last : List ℕ) → IsUtf8 front → IsCut last → IsValidUpTo (front ++ last) (length front)
cut-valid front last text cut = record {
  short = omega (arith, length-append front last, cut.some);
  front = subst IsUtf8 (sym (take_at front last (length front) refl)) text;
  longest = λ m above is.
      let n : ℕ = m - length front in
      let count : m ≡ length front + n = omega arith in
      let bytes : take m (front ++ last) ≡ front ++ take n last =
      ap (λ (i : ℕ). take i (front ++ last)) count ∙ take-append-add front last n in
      cut-invalid (take n last) (cut-fewer last n cut (omega arith))
      (text-rest front (take n last) text (subst IsUtf8 bytes is));
}

-- the first bytes of a character after text are replaced
pub utf8_lossy-cut : (front last : List ℕ) → IsUtf8 front → IsCut last
    → utf8_lossy (front ++ last) ≡ front ++ replacement_bytes
utf8_lossy-cut front last text cut =
    let bytes = front ++ last in
    let valid : utf8_valid_len bytes ≡ length front =
    utf8_valid_len-IsValidUpTo bytes (length front) (cut-valid front last text cut) in
    let broken : drop (utf8_valid_len bytes) bytes ≡ last =
    ap (λ (n : ℕ). drop n bytes) valid ∙ drop_at front last (length front) refl in
    let replaced : length last ≡ utf8_invalid_len (drop (utf8_valid_len bytes) bytes) =
    sym (ap utf8_invalid_len broken
    ∙ utf8_invalid_len-wide last cut.rest (IsWide-cut last cut) cut.some cut.more) in
    utf8_lossy_chunk bytes front last [] (ap (λ (tail : List ℕ). front ++ tail) (sym (append-nil last)))
    (sym valid) replaced cut.some
    ∙ ap (λ (tail : List ℕ). front ++ (replacement_bytes ++ tail)) (utf8_lossy_empty [] refl)

-- text, or text and the first bytes of a character
abbrev pub IsCutText : List ℕ → Type 0
IsCutText bytes = IsUtf8 bytes
    ⊎ ((front : List ℕ) × (last : List ℕ) × (bytes ≡ front ++ last) × IsUtf8 front × IsCut last)

-- a character before such a text
IsCutText-more : (c : ℕ) (bytes : List ℕ) → IsScalar c → IsCutText bytes → IsCutText (encode_utf8 c ++ bytes)
IsCutText-more c bytes is (inl text) = inl (IsUtf8-append (encode_utf8 c) bytes (IsUtf8-encode c is) text)
IsCutText-more c bytes is (inr cut) = inr (
  encode_utf8 c ++ cut.0,
  cut.1,
  ap (λ (rest : List ℕ). encode_utf8 c ++ rest) cut.2 ∙ sym (append_assoc (encode_utf8 c) cut.0 cut.1),
  IsUtf8-append (encode_utf8 c) cut.0 (IsUtf8-encode c is) cut.3,
  cut.4,
)

-- a character that is cut within
IsCut-encode : (c n : ℕ) → IsScalar c → 0 < n → n < length (encode_utf8 c) → IsCut (take n (encode_utf8 c))
IsCut-encode c n is some within = record {
  char = c;
  rest = drop n (encode_utf8 c);
  is_char = is;
  whole = take-append-drop n (encode_utf8 c);
  some = omega (arith, length-take n (encode_utf8 c));
  more = omega (arith, length-drop n (encode_utf8 c));
}

-- characters that are cut at any byte
IsCutText-chars : (chars : List ℕ) (n : ℕ) → scalars chars ≡ true → IsCutText (take n (encode_utf8_all chars))
IsCutText-chars chars zero all = inl IsUtf8-nil
IsCutText-chars [] (suc n) all = inl IsUtf8-nil
IsCutText-chars (c ∷ chars) (suc n) all =
    let both = and_parts _ _ all in
    let first = encode_utf8 c in
    let others = encode_utf8_all chars in
    elim (cases_lt (suc n) (length first)) [
      | inl within ↦
          let cut = IsCut-encode c (suc n) both.0 (omega arith) within in
          subst IsCutText (sym (take-append-le (suc n) first others (omega arith)))
          (inr ([], take (suc n) first, refl, IsUtf8-nil, cut))
      | inr past ↦
          let m : ℕ = suc n - length first in
          let count : suc n ≡ length first + m = omega arith in
          let bytes : take (suc n) (first ++ others) ≡ first ++ take m others =
          ap (λ (i : ℕ). take i (first ++ others)) count ∙ take-append-add first others m in
          subst IsCutText (sym bytes) (IsCutText-more c _ both.0 (IsCutText-chars chars m both.1))
    ]

-- a text that is cut at any byte
pub IsCutText-take : (text : List ℕ) (n : ℕ) → IsUtf8 text → IsCutText (take n text)
IsCutText-take text n (chars, (all, is)) =
    subst (λ (bytes : List ℕ). IsCutText (take n bytes)) is (IsCutText-chars chars n all)

-- the first bytes of U+FFFD after text are replaced by all of them
pub utf8_lossy-replaced : (front : List ℕ) (n : ℕ) → IsUtf8 front → 0 < n
    → utf8_lossy (front ++ take n replacement_bytes) ≡ front ++ replacement_bytes
unfolding encode_utf8
utf8_lossy-replaced front n text some =
    elim (cases_lt n 3) [
      | inl within ↦ utf8_lossy-cut front _ text (IsCut-encode 0xFFFD n refl some within)
      | inr all ↦
          let whole = take_all n replacement_bytes all in
          let is = IsUtf8-append front replacement_bytes text (IsUtf8-encode 0xFFFD refl) in
          rw whole (utf8_lossy-IsUtf8 (front ++ replacement_bytes) is)
    ]
