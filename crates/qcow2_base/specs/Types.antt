-- Which cluster sizes does the format have, and how many counters can a refcount block have?
use Rattle.std.specs.Prelude.{ℕ, ◌≤◌}

-- the format's range of cluster_bits
abbrev pub IsClusterBits : ℕ → Type 0
IsClusterBits cb = (9 ≤ cb) × (cb ≤ 21)

-- the exponents of 2 that a refcount block's number of counters can have: 2^9 bytes of 64-bit counters
-- at least, 2^21 bytes of 1-bit counters at most
abbrev pub IsRefblockBits : ℕ → Type 0
IsRefblockBits rb = (6 ≤ rb) × (rb ≤ 24)
