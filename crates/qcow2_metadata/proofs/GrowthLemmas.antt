use Rattle.std.proofs.Common.{◌≡◌, ℕ, ◌+◌, ◌-◌, ◌*◌, ◌%◌, ◌<◌, ◌≤◌, ◌↔◌, ◌^◌, false, nat_le, max, min, None, Some, refl, inl, inr, arith, pow_mono}
use Rattle.std.specs.Int.{div_ceil, next_multiple_of}
use Rattle.std.proofs.Math.Nat.{div-add-mod, lt_of_mul-lt-mul_right, mod-eq_of_lt, mod_self, mul-add, mul-div_cancel, mul-le-mul_right}
use Rattle.std.proofs.lemmas.Bool.{cases_lt}
use Rattle.std.proofs.lemmas.Bool.Decides.{nat_tests}
use Rattle.std.proofs.lemmas.Grind.{div_ceil_times}
use Rattle.std.proofs.lemmas.Nat.{mod_below}
use Rattle.qcow2_base.specs.Format.{most_reftable_entries}
use Rattle.qcow2_base.specs.Types.{IsClusterBits}
use Rattle.qcow2_metadata.specs.Header.{HeaderRecord}
use Rattle.qcow2_metadata.specs.Table.Growth.{Growth, IsEnough, IsLeastSpare, clusters_with, entries_with, grown_reftable_count, growth_of, least_spare, possible_spare}

-- a quotient that is rounded up is at most a number exactly where the dividend is at most that many times the divisor
pub div_ceil-le : (x n k : ℕ) → 0 < n → (div_ceil x n ≤ k) ↔ (x ≤ k * n)
div_ceil-le x n k some = grind (arith, nat_tests, div_ceil_times, mul-le-mul_right, lt_of_mul-lt-mul_right)

-- the next multiple is that many times the number
next_multiple-times : (x n : ℕ) → 0 < n → next_multiple_of x n ≡ div_ceil x n * n
next_multiple-times x n some =
    let whole = div-add-mod x n in
    let small = mod_below x n some in
    elim (cases_lt 0 (x % n)) [
      | inl rest ↦
          let left : (n - x % n) % n ≡ n - x % n = mod-eq_of_lt (omega (arith, rest, some)) in
          let one : min 1 (x % n) ≡ 1 = omega (arith, rest) in
          rw (left, one) (omega (arith, whole, small))
      | inr none ↦
          let nothing : x % n ≡ 0 = omega (arith, none) in
          let all : n - x % n ≡ n = omega (arith, nothing) in
          let left : (n - x % n) % n ≡ 0 = rw all (mod_self n) in
          rw (left, nothing) (omega (arith, rw nothing at whole))
    ]

-- the clusters of a table that has grown
pub clusters_with-is : (g : Growth) (spare : ℕ) → 0 < g.cluster_entries → clusters_with g spare ≡ div_ceil (max (g.index + 1 + spare) g.len) g.cluster_entries
clusters_with-is g spare some = grind (arith, nat_tests, next_multiple-times, mul-div_cancel)

-- what holds of the growth of any table: clusters and blocks have entries and counters enough
pub record IsRoomy (g : Growth) : Type 0 where
  pub clusters : 0 < g.cluster_entries
  pub blocks : 1 ≤ g.block_counters
  pub both : 2 ≤ g.cluster_entries * (g.block_counters - 1)

-- m times a number is m times the one below it, and m more
times_less : (n m : ℕ) → 1 ≤ n → m * n ≡ m * (n - 1) + m
times_less n m some = grind (arith, nat_tests, mul-add)

-- the entries that are wanted fit the clusters that spare blocks count exactly where these are enough. A block counts
-- its own cluster, and as many of the table as it has other counters
enough-fits : (g : Growth) (spare : ℕ) → IsRoomy g → IsEnough g spare ↔ (max (g.index + 1 + spare) g.len ≤ spare * (g.block_counters - 1) * g.cluster_entries)
enough-fits g spare roomy = grind (arith, nat_tests, div_ceil-le, times_less, clusters_with-is)

-- that many spare blocks are enough exactly from the least number on
pub least-enough : (g : Growth) (spare : ℕ) → IsRoomy g → (least_spare g ≤ spare) ↔ IsEnough g spare
least-enough g spare roomy =
    let entries = g.cluster_entries * (g.block_counters - 1) in
    let index = div_ceil-le (g.index + 1) (entries - 1) spare (omega (arith, roomy.both)) in
    let len = div_ceil-le g.len entries spare (omega (arith, roomy.both)) in
    let own = times_less entries spare (omega (arith, roomy.both)) in
    let turned : spare * (g.block_counters - 1) * g.cluster_entries ≡ spare * entries = omega arith in
    let is = enough-fits g spare roomy in (
      λ least. is.1 (omega (arith, index.0 (omega (arith, least)), len.0 (omega (arith, least)), own, turned)),
      λ enough. let fits = is.0 enough in omega (arith, index.1 (omega (arith, fits, own, turned)), len.1 (omega (arith, fits, turned))),
    )

-- the number by division is the least
pub least_spare-is : (g : Growth) → IsRoomy g → IsLeastSpare g (least_spare g)
least_spare-is g roomy = grind (arith, nat_tests, div_ceil-le, least-enough)

-- more spare blocks take no fewer clusters and entries
pub clusters_with-more : (g : Growth) (a b : ℕ) → 0 < g.cluster_entries → a ≤ b → clusters_with g a ≤ clusters_with g b
clusters_with-more g a b some more = grind (arith, nat_tests, div_ceil_times, clusters_with-is, div_ceil-le)

entries_with-more : (g : Growth) (a b : ℕ) → 0 < g.cluster_entries → a ≤ b → entries_with g a ≤ entries_with g b
entries_with-more g a b some more =
    let fewer = rw (clusters_with-is g a some, clusters_with-is g b some) at (clusters_with-more g a b some more) in
    rw (next_multiple-times (max (g.index + 1 + a) g.len) g.cluster_entries some, next_multiple-times (max (g.index + 1 + b) g.len) g.cluster_entries some)
    (mul-le-mul_right g.cluster_entries fewer)

-- where a cluster has 64 entries and a block 64 counters at least
pub IsRoomy_of : (g : Growth) → 64 ≤ g.cluster_entries → 64 ≤ g.block_counters → IsRoomy g
IsRoomy_of g entries counters = grind (arith, nat_tests, mul-le-mul_right)

-- so it is in every image
pub IsRoomy-image : (header : HeaderRecord) (len index : ℕ) → IsClusterBits header.v2.cluster_bits → header.base.refcount_order ≤ 6 → IsRoomy (growth_of header len index)
IsRoomy-image header len index bits order =
    let entry_bits : 6 ≤ header.v2.cluster_bits - 3 = omega (arith, bits.0) in
    let counter_bits : 6 ≤ header.v2.cluster_bits + 3 - header.base.refcount_order = omega (arith, bits.0, order) in
    let entries : 2 ^ 6 ≤ 2 ^ (header.v2.cluster_bits - 3) = pow_mono entry_bits in
    let counters : 2 ^ 6 ≤ 2 ^ (header.v2.cluster_bits + 3 - header.base.refcount_order) = pow_mono counter_bits in
    IsRoomy_of (growth_of header len index) entries counters

-- where a number isn't enough, the least is no less than what its blocks would need
pub needed-least : (g : Growth) (spare least : ℕ) → IsRoomy g → spare ≤ least → IsEnough g least → div_ceil (clusters_with g spare + spare) g.block_counters ≤ least
needed-least g spare least roomy below enough = grind (arith, nat_tests, clusters_with-more, div_ceil-le)

-- the result, where the number that is tried is the least, and where it takes too many entries already
pub possible_spare-found : (g : Growth) (spare : ℕ) → IsRoomy g → spare ≤ least_spare g → div_ceil (clusters_with g spare + spare) g.block_counters ≤ spare → entries_with g spare ≤ most_reftable_entries → Some spare ≡ possible_spare g
possible_spare-found g spare roomy below needed few = grind (arith, nat_tests, least-enough, div_ceil-le)

pub possible_spare-none : (g : Growth) (spare : ℕ) → IsRoomy g → spare ≤ least_spare g → most_reftable_entries < entries_with g spare → None ≡ possible_spare g
possible_spare-none g spare roomy below many =
    let more = entries_with-more g spare (least_spare g) roomy.clusters below in
    let past : nat_le (grown_reftable_count g) most_reftable_entries ≡ false = grind (arith, nat_tests, many, more) in
    rw past refl
