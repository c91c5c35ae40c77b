use Rattle.std.proofs.Common.{◌≡◌, ◌≢◌, ℕ, ◌^◌, ◌<◌, ◌≤◌, nat_lt, true, Option, List, [], ◌∷◌, length, get_or, Result, Ok, Err, inl, inr, refl, arith}
use Rattle.std.proofs.lemmas.Bool.{cases_Bool, cases_lt}
use Rattle.std.proofs.lemmas.Bool.Decides.{nat_tests}
use Rattle.std.proofs.lemmas.Int.Digits.{digits_value-lt}
use Rattle.std.proofs.Math.Nat.{pow-le-pow_right}
use Rattle.std.proofs.lemmas.Str.Parse.{IsNumeralModel, numerals_by_value, tells_all_ascii_digits, parse_plain, without_leading_plus_none}
use Rattle.std.specs.Option.{IfSome}
use Rattle.qcow2_base.specs.declared.fault.Fault.{Fault}
use Rattle.std.specs.Result.{IsErr, OnErr, result_ok}
use Rattle.std.specs.Str.{all_ascii_digits}
use Rattle.std.specs.Char.{digit_value}
use Rattle.std.specs.List.{list_all}
use Rattle.std.specs.Str.Parse.{AllDigits, ParsesUnsigned, digits_value}
use Rattle.qcow2_session.specs.Commands.Apply.{hexadecimal}
use Rattle.qcow2_session.specs.Commands.Words.{word_number}

digits : IsNumeralModel (λ word. all_ascii_digits word ≡ true) (digits_value 10)
digits = numerals_by_value _ tells_all_ascii_digits

-- a word of at most 20 bytes that doesn't begin with a plus is the number that `parse` finds, or
-- none where it finds none
pub number_of_parsed : (E : Type 0) (word : List ℕ) (r : Result ℕ E) → get_or word 0 0 ≢ 43 →
    length word ≤ 20 → ParsesUnsigned 64 10 word r → result_ok r ≡ word_number word
number_of_parsed E word (Ok n) plain short extension_from_data =
    let found = parse_plain digits {E = E} 64 word (Ok n) extension_from_data plain in
    grind (arith, nat_tests, found.0.0, found.0.1, found.0.2, found.1)
number_of_parsed E word (Err e) plain short extension_from_data =
    grind (arith, nat_tests, parse_plain digits {E = E} 64 word (Err e) extension_from_data plain)

-- what holds where there is a place's fault, and what follows from it
pub IfSome-follows : {X : Type 0} {P Q : X → Type 0} (found : Option X) → ((x : X) → P x → Q x) → IfSome found P → IfSome found Q
IfSome-follows found follows holds = grind (arith, follows, holds)

-- a fault of its own is what a run returns
pub own-refused : {T : Type 0} (ran answer : Result T Fault) → IsErr ran → OnErr ran (answer ≡ ran) → IsErr answer
own-refused ran answer refused own = grind (arith, refused, own)

-- the bytes of hexadecimal digits, in the words of a test and of std
all-digits : (word : List ℕ) → list_all (λ b. nat_lt (digit_value b) 16) word ≡ true → AllDigits 16 word
all-digits [] each = tt
all-digits (c ∷ cs) each =
    let here : digit_value c < 16 = grind (arith, nat_tests, each) in
    let rest : list_all (λ b. nat_lt (digit_value b) 16) cs ≡ true = grind (arith, nat_tests, each) in
    (here, all-digits cs rest)

digits-all : (word : List ℕ) → AllDigits 16 word → list_all (λ b. nat_lt (digit_value b) 16) word ≡ true
digits-all [] each = refl
digits-all (c ∷ cs) each = grind (arith, nat_tests, each.0, digits-all cs each.1)

-- a word of at most 16 bytes that doesn't begin with a plus is the number that `from_str_radix` finds, or none where it finds none
pub hexadecimal_of_parsed : (E : Type 0) (word : List ℕ) (r : Result ℕ E) → get_or word 0 0 ≢ 43 →
    length word ≤ 16 → ParsesUnsigned 64 16 word r → result_ok r ≡ hexadecimal word
hexadecimal_of_parsed E word (Ok n) plain short parsed =
    let found = rw (without_leading_plus_none word plain) at parsed in
    grind (arith, nat_tests, short, digits-all word found.0.0.1, found.0.0.0, found.1)
hexadecimal_of_parsed E word (Err e) plain short parsed = elim (cases_Bool (list_all (λ b. nat_lt (digit_value b) 16) word)) [
  | inl all ↦ elim (cases_lt 0 (length word)) [
    | inl some ↦
        let digits = all-digits word all in
        let most : 16 ^ length word ≤ 16 ^ 16 = pow-le-pow_right (omega arith) short in
        let fits : digits_value 16 word < 2 ^ 64 = omega (arith, digits_value-lt 16 word digits, most) in
        absurd ((rw (without_leading_plus_none word plain) at parsed) ((some, digits), fits))
    | inr none ↦ grind (arith, nat_tests, none)
  ]
  | inr other ↦ grind (arith, nat_tests, other)
]
