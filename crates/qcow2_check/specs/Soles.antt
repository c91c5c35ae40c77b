-- Which clusters are known to have the counter 1?
use Rattle.std.specs.Prelude.{◌≡◌, ℕ, ◌/◌, ◌%◌, ◌<◌, List, slice_index}
use Rattle.std.specs.Int.{bit_at}

-- the first 64 of some counters are 1 where the bits of a word are
abbrev pub MarksOnes : ℕ → (ℕ → ℕ) → Type 0
MarksOnes word counter = (k : ℕ) → k < 64 → bit_at word k ≡ 1 → counter k ≡ 1

-- cluster c is marked by words of 64 bits each. One past the last word isn't
abbrev pub IsMarked : List ℕ → ℕ → Type 0
IsMarked words c = bit_at (slice_index words (c / 64)) (c % 64) ≡ 1

-- the marked clusters have the counter 1
abbrev pub AreSoles : (ℕ → ℕ) → List ℕ → Type 0
AreSoles counter words = (c : ℕ) → IsMarked words c → counter c ≡ 1
