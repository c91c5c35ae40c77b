-- Which number do some of a number's bits make?
use Rattle.std.specs.Prelude.{ℕ, ◌/◌, ◌%◌, ◌^◌}

-- the n bits of v from bit a on, as a number
abbrev pub field : ℕ → ℕ → ℕ → ℕ
field v a n = v / 2 ^ a % 2 ^ n
