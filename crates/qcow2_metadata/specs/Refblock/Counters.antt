-- Which list in memory holds the counters of a refcount block?
use Rattle.std.specs.Prelude.{◌≡◌, ℕ, ◌+◌, ◌^◌, ◌<◌, ◌≤◌, List, ◌++◌, drop, length, take}
use Rattle.std.specs.List.{All}
use Rattle.qcow2_metadata.specs.declared.refblock.counters.Counters.{Counters}
use Rattle.qcow2_metadata.specs.declared.refblock.counters.Counters.TheVariants.{U8, U16, U32, U64}
use Rattle.qcow2_metadata.specs.Refblock.Packing.{width}

-- the numbers of a list of counters
abbrev pub kept_counters : Counters → List ℕ
kept_counters (U8 list) = list.items
kept_counters (U16 list) = list.items
kept_counters (U32 list) = list.items
kept_counters (U64 list) = list.items

-- the list has the type that holds counters of an order
abbrev pub IsOfOrder : ℕ → Counters → Type 0
IsOfOrder order (U8 list) = order ≤ 3
IsOfOrder order (U16 list) = order ≡ 4
IsOfOrder order (U32 list) = order ≡ 5
IsOfOrder order (U64 list) = order ≡ 6

-- the integers of the list can hold the number
abbrev pub CanHold : Counters → ℕ → Type 0
CanHold (U8 list) number = number < 2 ^ 8
CanHold (U16 list) number = number < 2 ^ 16
CanHold (U32 list) number = number < 2 ^ 32
CanHold (U64 list) number = number < 2 ^ 64

-- each counter fits its width
abbrev pub AreCounters : ℕ → List ℕ → Type 0
AreCounters order counters = All (λ counter. counter < 2 ^ width order) counters

-- the list with these numbers in the places of its own from an index on
abbrev pub with_numbers_from : List ℕ → ℕ → List ℕ → List ℕ
with_numbers_from list first numbers = take first list ++ (numbers ++ drop (first + length numbers) list)
