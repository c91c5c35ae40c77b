-- How does a write to an image in memory make it longer, and when can it fail?
use Rattle.std.specs.Prelude.{◌≡◌, ℕ, ◌+◌, ◌<◌, ◌≤◌, max, List, length, Result, IsOk, OnOk, OnErr}

-- a write of that many bytes from an offset on that ended in this answer: it can fail only where the
-- bytes must grow, and then they stay
pub record GrowsToFit {T E : Type 0} (answer : Result T E) (offset len : ℕ) (old new : List ℕ) : Type 0 where
  pub in_place : offset + len ≤ length old → IsOk answer
  pub empty : len ≡ 0 → IsOk answer × (new ≡ old)
  pub refused : OnErr answer (new ≡ old)
  pub grown : OnOk answer (0 < len → length new ≡ max (length old) (offset + len))
