-- Is an alignment a power of two in one way? `MemStorage` has it as a ghost field, so the answer is beside the definitions.
use Rattle.std.specs.Prelude.{◌≡◌, ℕ, ◌^◌}
use Rattle.std.proofs.Common.{arith, inl, inr}
use Rattle.std.proofs.Props.{props}
use Rattle.std.proofs.lemmas.Bool.{cases_lt}
use Rattle.std.proofs.lemmas.Nat.{pow_below}
use mathlib.Core.HLevel.{Σ_prop_path}
use Rattle.qcow2_base.specs.Storage.{IsPowerOfTwo}

-- a number is a power of two in one way: the exponent is determined
pub power_of_two_once : (n : ℕ) → IsProp (IsPowerOfTwo n)
power_of_two_once n a b = Σ_prop_path (λ k. Prim.hlevel props) (pow_once a.0 b.0 (omega (arith, a.1, b.1)))
  where
    pow_once : (i j : ℕ) → 2 ^ i ≡ 2 ^ j → i ≡ j
    pow_once i j e = elim (cases_lt i j) [
      | inl below ↦ absurd (omega (arith, pow_below i j below))
      | inr above ↦ elim (cases_lt j i) [
        | inl less ↦ absurd (omega (arith, pow_below j i less))
        | inr least ↦ omega arith
      ]
    ]
