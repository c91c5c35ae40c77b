-- Which numbers of a list stand there before, and how often does each count, if it counts for those after it too?
use Rattle.std.specs.Prelude.{◌≡◌, ◌↔◌, ℕ, Bool, true, ◌==◌, ◌+◌, ◌*◌, ◌^◌, ◌<◌, nat_lt, if◌then◌else◌, List, [], ◌∷◌, length, map, slice_index, take}
use Rattle.std.specs.List.{list_any, range_with_len, sum_by}
use Rattle.qcow2_metadata.specs.Entries.{offset_field}
use Rattle.std.specs.List.Sorted.{IsNonDecreasingBy, IsPermutation}

-- whether the number at an index stands before it too
abbrev pub is_again : List ℕ → ℕ → Bool
is_again names index = list_any (λ name. name == slice_index names index) (take index names)

-- how often the number at an index counts, by a list that may be empty: each then counts once
abbrev pub times_at : List ℕ → ℕ → ℕ
times_at times index = if nat_lt index (length times) then slice_index times index else 1

-- what numbers are worth in all, from an index on, each as often as it counts
abbrev pub worth_from : (ℕ → ℕ) → (ℕ → ℕ) → ℕ → List ℕ → ℕ
worth_from times worth index [] = 0
worth_from times worth index (name ∷ names) = times index * worth name + worth_from times worth (index + 1) names

-- how often each number of a list counts: 0 times if it stands before it too, and whatever a number is worth, all are worth the
-- same as if each counted once. A number 0 is none, and may count at each place
pub record AreTimesOf (names times : List ℕ) : Type 0 where
  pub again : (index : ℕ) → index < length names → 0 < slice_index names index → (times_at times index ≡ 0) ↔ (is_again names index ≡ true)
  pub worth : (worth : ℕ → ℕ) → worth_from (times_at times) worth 0 names ≡ sum_by worth names

-- the places of a list by their numbers, and those of one number by themselves
abbrev pub sort_key : List ℕ → ℕ → ℕ
sort_key names index = slice_index names index * 2 ^ 32 + index

-- the places of a list are in that order
pub record ArePlacesInOrder (names order : List ℕ) : Type 0 where
  pub places : IsPermutation (range_with_len 0 (length names)) order
  pub rises : IsNonDecreasingBy (sort_key names) order

-- what stands in an L1 table for the L2 tables that it names: their offsets
abbrev pub table_names : List ℕ → List ℕ
table_names l1 = map offset_field l1
