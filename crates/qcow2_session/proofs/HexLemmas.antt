use Rattle.std.proofs.Common.{◌≡◌, ℕ, zero, suc, ◌+◌, ◌/◌, ◌%◌, ◌^◌, ◌<◌, ◌≤◌, Bool, true, false, ◌&&◌, ◌==◌, List, [], ◌∷◌, ◌++◌, length, ap, refl, sym, ◌∙◌, append_assoc, length-append, length-set, arith, codes, slice_index}
use Rattle.std.proofs.lemmas.Bool.Decides.{nat_tests}
use Rattle.std.proofs.lemmas.Fmt.{hex_one_digit}
use Rattle.std.proofs.lemmas.List.{drop-set}
use Rattle.std.specs.Fmt.{digit_glyph, digits, digits_onto}

-- the last k hexadecimal digits of n at most, followed by others
abbrev onto : ℕ → ℕ → List ℕ → List ℕ
onto k n acc = digits_onto k 16 false n acc

abbrev glyph : ℕ → ℕ
glyph n = digit_glyph false (n % 16)

-- a number of one digit, and one of more
onto-last : (k n : ℕ) (acc : List ℕ) → n < 16 → onto (suc k) n acc ≡ glyph n ∷ acc
onto-last k n acc small = grind (arith, nat_tests)

onto-more : (k n : ℕ) (acc : List ℕ) → 16 ≤ n → onto (suc k) n acc ≡ onto k (n / 16) (glyph n ∷ acc)
onto-more k n acc large = grind (arith, nat_tests)

onto-append : (k n : ℕ) (acc : List ℕ) → onto k n acc ≡ onto k n [] ++ acc
onto-append zero n acc = refl
onto-append (suc k) n acc = grind (arith, nat_tests, onto-append k (n / 16) (glyph n ∷ acc), onto-append k (n / 16) (glyph n ∷ []), append_assoc {A = ℕ})

-- how many digits there may be doesn't matter where they are enough
onto-enough : (j k n : ℕ) (acc : List ℕ) → n < 16 ^ suc j → n < 16 ^ suc k → onto (suc j) n acc ≡ onto (suc k) n acc
onto-enough zero k n acc p q = onto-last zero n acc (omega arith) ∙ sym (onto-last k n acc (omega arith))
onto-enough (suc j) zero n acc p q = onto-last (suc j) n acc (omega arith) ∙ sym (onto-last zero n acc (omega arith))
onto-enough (suc j) (suc k) n acc p q = grind (arith, nat_tests, onto-enough j k (n / 16) (glyph n ∷ acc) (omega arith) (omega arith))

hex-onto : (n : ℕ) → digits 16 false n ≡ onto 64 n []
unfolding digits
hex-onto n = refl

-- the digits of a number of two digits at least: those of its sixteenth, and the last one
pub hex-step : (n : ℕ) → 16 ≤ n → n < 2 ^ 64 → digits 16 false n ≡ digits 16 false (n / 16) ++ (glyph n ∷ [])
hex-step n large small = hex-onto n ∙ onto-more 63 n [] large
    ∙ onto-enough 62 63 (n / 16) (glyph n ∷ []) (omega arith) (omega arith) ∙ onto-append 64 (n / 16) (glyph n ∷ [])
    ∙ ap (λ x. x ++ (glyph n ∷ [])) (sym (hex-onto (n / 16)))

pub hex-longer : (n : ℕ) → 16 ≤ n → n < 2 ^ 64 → length (digits 16 false n) ≡ length (digits 16 false (n / 16)) + 1
hex-longer n large small = ap length (hex-step n large small) ∙ length-append (digits 16 false (n / 16)) (glyph n ∷ [])

-- how many digits there are
hex-one : (n : ℕ) → n < 16 → length (digits 16 false n) ≡ 1
hex-one n small = ap length (hex_one_digit false n small)

hex-length : (k n : ℕ) → n < 16 ^ suc k → n < 2 ^ 64 → length (digits 16 false n) ≤ suc k
hex-length zero n fits small = grind (arith, hex-one n)
hex-length (suc k) n fits small = grind (arith, hex-one n, hex-length k (n / 16), hex-longer n)

-- a number of 64 bits has 16 digits at most
pub hex_short : (n : ℕ) → n < 2 ^ 64 → length (digits 16 false n) ≤ 16
hex_short n small = hex-length 15 n (omega arith) small

-- the digits that numbers below 16 have
abbrev hex_digits : List ℕ
hex_digits = codes "0123456789abcdef"

abbrev are_glyphs : ℕ → Bool
are_glyphs zero = true
are_glyphs (suc d) = (slice_index hex_digits d == digit_glyph false d) && are_glyphs d

glyph-below : (n d : ℕ) → are_glyphs n ≡ true → d < n → slice_index hex_digits d ≡ digit_glyph false d
glyph-below zero d all below = absurd (omega arith)
glyph-below (suc n) d all below = grind (arith, nat_tests, all, glyph-below n d)

pub glyph_at : (d : ℕ) → d < 16 → slice_index hex_digits d ≡ digit_glyph false d
glyph_at d below = glyph-below 16 d refl below

-- what the digits are written by
pub ruleset hex_written = (glyph_at, hex-longer, hex_one_digit, hex_short, hex-step, drop-set, append_assoc, length-set, length-append)
