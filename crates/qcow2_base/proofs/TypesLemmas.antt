use Rattle.std.proofs.Common.{◌≡◌, ℕ, ◌+◌, ◌-◌, ◌*◌, ◌/◌, ◌%◌, ◌^◌, ◌<◌, ◌≤◌, arith, ap, sym, ◌∙◌}
use Rattle.std.proofs.lemmas.Nat.{shr_split, shl-shr, shr_below, mul-le, pow-add}

-- a number from its own quotient and remainder
pub from_parts : (a b n k : ℕ) → a ≡ n / 2 ^ k → b ≡ n % 2 ^ k → a * 2 ^ k + b ≡ n
from_parts a b n k p q = omega (arith, shr_split n k, ap (λ x. x * 2 ^ k) p, q)

-- what is shifted in is what is shifted out
pub multiple_quotient : (n a k : ℕ) → n ≡ a * 2 ^ k → n / 2 ^ k ≡ a
multiple_quotient n a k e = rw e (shl-shr a k)

-- a number that is not the last of its row of 2^k is not the last of all
pub next_fits : (n k : ℕ) → k ≤ 64 → n < 2 ^ 64 → n % 2 ^ k + 1 < 2 ^ k → n + 1 < 2 ^ 64
next_fits n k h fits low =
    let whole : (64 - k) + k ≡ 64 = omega arith in
    let total : 2 ^ 64 ≡ 2 ^ (64 - k) * 2 ^ k =
    sym (ap (λ x. 2 ^ x) whole) ∙ pow-add 2 (64 - k) k in
    let row : n / 2 ^ k < 2 ^ (64 - k) = shr_below n (64 - k) k (rw whole fits) in
    let room : (n / 2 ^ k + 1) * 2 ^ k ≤ 2 ^ (64 - k) * 2 ^ k =
    mul-le _ _ _ _ (omega arith) (omega arith) in
    omega (arith, shr_split n k, total, room, low)
