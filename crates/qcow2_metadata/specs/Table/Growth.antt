-- How many entries does a table have after it has grown, and how many spare ones does a refcount table take along?
use Rattle.std.specs.Prelude.{◌≡◌, ◌⊎◌, ◌↔◌, IfErr, IfOk, IsErrOf, Result, ℕ, ◌+◌, ◌-◌, ◌*◌, ◌/◌, ◌<◌, ◌≤◌, max, nat_le, if◌then◌else◌, List, ◌++◌, length, replicate, Option, Some, None}
use Rattle.std.specs.Int.{div_ceil, next_multiple_of}
use Rattle.qcow2_base.specs.Format.{most_reftable_entries}
use Rattle.qcow2_base.specs.declared.fault.Fault.{Fault}
use Rattle.qcow2_base.specs.declared.fault.Fault.TheVariants.{CannotGrow, NoMemory}
use Rattle.qcow2_metadata.specs.Header.{HeaderRecord, geometry_of}
use Rattle.qcow2_metadata.specs.Refblock.{block_entries}
use Rattle.qcow2_metadata.specs.Placed.{new_placed}
use Rattle.qcow2_metadata.specs.Table.{TableState, l2_entries}

-- the number of entries that a table has after it has grown to hold an index: whole clusters of them
abbrev pub grown_count : TableState → ℕ → ℕ
grown_count table index = next_multiple_of (max (index + 1) (length table.numbers)) (l2_entries table.geometry.cluster_bits)

-- the entries, and then zeros up to a count
abbrev pub grown_numbers : List ℕ → ℕ → List ℕ
grown_numbers numbers count = numbers ++ replicate (count - length numbers) 0

-- a copy of a table that is to have this count of entries, the old ones and then zeros. It is refused just where they are
-- more than the most of its kind, and else fails only where memory runs out
pub record GrowsTo (count most : ℕ) (numbers : List ℕ) (header : HeaderRecord) (answer : Result TableState Fault) : Type 0 where
  pub refused : IsErrOf answer CannotGrow ↔ (most < count)
  pub faults : IfErr answer (λ fault. (fault ≡ CannotGrow) ⊎ (fault ≡ NoMemory))
  pub grown : IfOk answer (λ table. table ≡ new_placed (grown_numbers numbers count) (geometry_of header))

-- a refcount table that is to hold an index: how many entries it has, the index, how many entries fill a
-- cluster, and how many counters a refcount block has
pub record Growth : Type 0 where
  pub len : ℕ
  pub index : ℕ
  pub cluster_entries : ℕ
  pub block_counters : ℕ

-- the growth of a table of that many entries in an image with this header
abbrev pub growth_of : HeaderRecord → ℕ → ℕ → Growth
growth_of header len index = record {
  len = len;
  index = index;
  cluster_entries = l2_entries header.v2.cluster_bits;
  block_counters = block_entries header.v2.cluster_bits header.base.refcount_order;
}

-- how many entries the table has with that many spare ones after the index: whole clusters of them
abbrev pub entries_with : Growth → ℕ → ℕ
entries_with growth spare = next_multiple_of (max (growth.index + 1 + spare) growth.len) growth.cluster_entries

-- how many clusters these entries fill
abbrev pub clusters_with : Growth → ℕ → ℕ
clusters_with growth spare = entries_with growth spare / growth.cluster_entries

-- that many spare blocks have counters enough for the table's clusters and for their own
abbrev pub IsEnough : Growth → ℕ → Type 0
IsEnough growth spare = clusters_with growth spare + spare ≤ spare * growth.block_counters

-- the least number of spare blocks that is enough, one at least
pub record IsLeastSpare (growth : Growth) (spare : ℕ) : Type 0 where
  pub some : 1 ≤ spare
  pub enough : IsEnough growth spare
  pub least : (fewer : ℕ) → 1 ≤ fewer → IsEnough growth fewer → spare ≤ fewer

-- the same by division: a block counts its own cluster, and with its other counters clusters of the table that
-- hold that many entries. One of these entries is the block's own where it comes after the index
abbrev pub least_spare : Growth → ℕ
least_spare growth =
    let entries = growth.cluster_entries * (growth.block_counters - 1) in
    max (div_ceil (growth.index + 1) (entries - 1)) (div_ceil growth.len entries)

-- how many entries a refcount table has after it has grown to hold an index, and has the least spare ones after it
abbrev pub grown_reftable_count : Growth → ℕ
grown_reftable_count growth = entries_with growth (least_spare growth)

-- the least spare, where a refcount table may have that many entries
abbrev pub possible_spare : Growth → Option ℕ
possible_spare growth =
    if nat_le (grown_reftable_count growth) most_reftable_entries then Some (least_spare growth) else None
