use Rattle.std.proofs.Common.{◌≡◌, ◌≢◌, ℕ, ◌+◌, ◌-◌, ◌*◌, ◌/◌, ◌%◌, ◌^◌, ◌<◌, ◌≤◌, max, List, length, get_or, slice_index, refl, Some, None, Result, Ok, Err, OnOk, sym, ◌∙◌, ap, inl, inr, lit≤, arith, pow_mono, take_all, rules}
use Rattle.std.proofs.Math.Nat.{div-add-mod, mul-div_cancel, mul-le-mul_right}
use Rattle.std.proofs.lemmas.Bool.{cases_lt}
use Rattle.std.proofs.lemmas.Nat.{div-mul-add, div_below, le-div, mod_below, pow-add, pow_below, pow_pos}
use Rattle.qcow2_base.specs.Storage.{Holds, Image, IsPowerOfTwo, SameOutside, StorageState, be, image_of}
use Rattle.qcow2_base.proofs.StorageLemmas.{be_of_same}
use Rattle.qcow2_base.specs.declared.fault.Fault.{Fault}
use Rattle.qcow2_base.specs.declared.types.HostCluster.{HostCluster}
use Rattle.std.proofs.lemmas.List.FromFn.{get_or-map-range_with_len}
use Rattle.qcow2_metadata.proofs.TablePiecesLemmas.{numbers_stand}
use Rattle.qcow2_metadata.proofs.PackingLemmas.{counters_at-held, map_range_at}
use Rattle.qcow2_metadata.specs.Placed.{write_fault}
use Rattle.qcow2_metadata.specs.Table.{Kind, TableState, layout_of_table, table_layout, table_numbers}
use Rattle.qcow2_metadata.specs.Table.OneEntry.{EntryRange, IsWrittenEntry, IsPartOfCluster, WritesEntries, WritesEntry, numbers_in, entries_together, range_offset}

-- entries whose numbers are in bytes that an image holds
pub written_entries : (image : Image) (offset : ℕ) (bytes : List ℕ) (range : EntryRange) (numbers : List ℕ) → range.count ≡ length bytes / 8 → Holds image offset bytes
    → ((i : ℕ) → 8 * i + 8 ≤ length bytes → be (image_of bytes) (8 * i) 8 ≡ slice_index numbers (range.first + i))
    → table_numbers image offset range.count ≡ numbers_in range numbers
written_entries image offset bytes range numbers count held each =
    counters_at-held 6 range.count (8 * range.count) image offset bytes (lit≤ tt) (omega arith) (omega (arith, count)) held
    ∙ map_range_at (λ i. be (image_of bytes) (0 + 8 * i) 8) (λ i. slice_index numbers i) 0 range.first range.count
    (λ j below. let place : 0 + 8 * (0 + j) ≡ 8 * j = omega arith in rw place (each j (omega (arith, count))))

-- the greater of two powers of two is one
max-power : (a b : ℕ) → IsPowerOfTwo a → IsPowerOfTwo b → IsPowerOfTwo (max a b)
max-power a b left right = elim (cases_lt a b) [
  | inl less ↦ let is : max a b ≡ b = omega arith in rw is right
  | inr more ↦ let is : max a b ≡ a = omega arith in rw is left
]

-- the entries of an alignment that a cluster's size is no less than
part_of_power : (a cb : ℕ) → IsPowerOfTwo a → 8 ≤ a → a ≤ 2 ^ cb → IsPartOfCluster cb (a / 8)
part_of_power a cb (n, is) some few =
    let three : 3 ≤ n = grind (arith, pow_below n 3, is, some) in
    let within : n ≤ cb = grind (arith, pow_below cb n, is, few) in
    let exponent : n - 3 + 3 ≡ n = omega (arith, three) in
    let eights : a ≡ 2 ^ (n - 3) * 8 = is ∙ ap (λ m. 2 ^ m) (sym exponent) ∙ pow-add 2 (n - 3) 3 in
    (n - 3, rw eights (mul-div_cancel (2 ^ (n - 3)) (omega arith)), omega (arith, exponent, within))

pub part_of_alignments : (cb mem_align req_align : ℕ) → IsPowerOfTwo mem_align → IsPowerOfTwo req_align → max (max mem_align req_align) 8 ≤ 2 ^ cb → IsPartOfCluster cb (max (max mem_align req_align) 8 / 8)
part_of_alignments cb mem_align req_align mem req few =
    part_of_power (max (max mem_align req_align) 8) cb (max-power (max mem_align req_align) 8 (max-power mem_align req_align mem req) (3, refl)) (omega arith) few

-- the multiple of a number at or before another, and the next one
pub multiple_before : (x s : ℕ) → 0 < s → (x / s * s ≤ x) × (x < x / s * s + s)
multiple_before x s some = (omega (arith, div-add-mod x s), omega (arith, div-add-mod x s, mod_below x s some))

-- a group that begins before a whole number of groups ends there
next_within : (x s parts : ℕ) → 0 < s → x < parts * s → x / s * s + s ≤ parts * s
next_within x s parts some below = grind (arith, div_below, mul-le-mul_right)

-- a cluster is a whole number of groups of entries, and so is the longest file
cluster_is_parts : (cb count : ℕ) → IsPartOfCluster cb count → (parts : ℕ) × (2 ^ cb ≡ parts * (8 * count))
cluster_is_parts cb count (k, is, few) =
    let exponent : cb - 3 - k + (k + 3) ≡ cb = omega (arith, few) in
    let split : 2 ^ cb ≡ 2 ^ (cb - 3 - k) * (2 ^ k * 2 ^ 3) = ap (λ n. 2 ^ n) (sym exponent) ∙ pow-add 2 (cb - 3 - k) (k + 3) ∙ ap (λ n. 2 ^ (cb - 3 - k) * n) (pow-add 2 k 3) in
    (2 ^ (cb - 3 - k), rw (← is) at split ∙ omega arith)

-- where a group begins
group_start : (cb count cluster index : ℕ) → IsPartOfCluster cb count → 0 < count → cluster * 2 ^ cb + 8 * (index / count * count) ≡ (cluster * 2 ^ cb + 8 * index) / (8 * count) * (8 * count)
group_start cb count cluster index part some =
    let whole = cluster_is_parts cb count part in
    let group = cluster * whole.0 + index / count in
    let rest : cluster * (whole.0 * (8 * count)) + 8 * index ≡ group * (8 * count) + 8 * (index % count) = omega (arith, div-add-mod index count) in
    let inside : 8 * (index % count) < 8 * count = omega (arith, mod_below index count some) in
    rw (whole.1, rest, div-mul-add group (8 * count) (8 * (index % count)) inside) (omega arith)

-- a group that begins in a file of at most 2 ^ 56 bytes ends there
pub group-fits : (cb count cluster index : ℕ) → cb ≤ 56 → IsPartOfCluster cb count → 0 < count → cluster * 2 ^ cb + 8 * index < 2 ^ 56 → cluster * 2 ^ cb + 8 * (index / count * count) + 8 * count ≤ 2 ^ 56
group-fits cb count cluster index low part some below =
    let file = cluster_is_parts 56 count (part.0, part.1, omega (arith, part.2, low)) in
    rw (group_start cb count cluster index part some, file.1) (next_within (cluster * 2 ^ cb + 8 * index) (8 * count) file.0 (omega arith) (rw file.1 at below))

-- entries that are written together lie in the cluster of each of them
pub group-within : (cb count cluster index : ℕ) → IsPartOfCluster cb count → 0 < count → ((cluster * 2 ^ cb + 8 * index) / 2 ^ cb * 2 ^ cb ≤ cluster * 2 ^ cb + 8 * (index / count * count))
    × (cluster * 2 ^ cb + 8 * (index / count * count) + 8 * count ≤ (cluster * 2 ^ cb + 8 * index) / 2 ^ cb * 2 ^ cb + 2 ^ cb)
group-within cb count cluster index part some =
    let x = cluster * 2 ^ cb + 8 * index in
    let size = 8 * count in
    let whole = cluster_is_parts cb count part in
    let parts = x / 2 ^ cb * whole.0 in
    let own : x / 2 ^ cb * 2 ^ cb ≡ parts * size = ap (λ n. x / 2 ^ cb * n) whole.1 ∙ omega arith in
    let next : (parts + whole.0) * size ≡ parts * size + whole.0 * size = omega arith in
    let inside = multiple_before x (2 ^ cb) (pow_pos cb) in
    let low = le-div parts x size (omega arith) (omega (arith, own, inside.0)) in
    let high = next_within x size (parts + whole.0) (omega arith) (omega (arith, own, next, whole.1, inside.1)) in
    rw (group_start cb count cluster index part some) (omega (arith, own, mul-le-mul_right size low), omega (arith, own, next, whole.1, high))

-- a number among those that were written together is the table's
number_written : (image : Image) (offset : ℕ) (range : EntryRange) (numbers : List ℕ) (i : ℕ) → table_numbers image (offset + 8 * range.first) range.count ≡ numbers_in range numbers
    → range.first ≤ i → i < range.first + range.count → be image (offset + 8 * i) 8 ≡ slice_index numbers i
number_written image offset range numbers i written from below =
    let j = i - range.first in
    let place : offset + 8 * range.first + 8 * j ≡ offset + 8 * i = omega (arith, from) in
    let at : range.first + j ≡ i = omega (arith, from) in
    let left = get_or-map-range_with_len (λ k. be image (offset + 8 * range.first + 8 * k) 8) 0 range.count j j 0 (omega (arith, from, below)) (omega arith) in
    let right = get_or-map-range_with_len (λ k. slice_index numbers k) range.first range.count j i 0 (omega (arith, from, below)) (omega (arith, from)) in
    rw (← place) (sym left ∙ ap (λ xs. get_or xs j 0) written ∙ right)

-- an image that had the table but for one entry has it whole after that was written, with those beside it
pub table_with_entry : (offset index : ℕ) (range : EntryRange) (numbers : List ℕ) (old new : Image) → range.first ≤ index → index < range.first + range.count
    → table_numbers new (offset + 8 * range.first) range.count ≡ numbers_in range numbers → SameOutside (offset + 8 * range.first) (8 * range.count) old new
    → ((i : ℕ) → i < length numbers → i ≢ index → be old (offset + 8 * i) 8 ≡ slice_index numbers i) → table_numbers new offset (length numbers) ≡ numbers
table_with_entry offset index range numbers old new from below written outside others =
    numbers_stand new offset (length numbers) numbers (omega arith)
    (λ i within. elim (cases_lt i range.first) [
      | inl before ↦
          be_of_same new old 8 (offset + 8 * i) (offset + 8 * i) (λ k small. outside.before (offset + 8 * i + k) (omega (arith, before, small)))
          ∙ others i within (λ same. omega (arith, same, before, from))
      | inr least ↦ elim (cases_lt i (range.first + range.count)) [
        | inl inside ↦ number_written new offset range numbers i written least inside
        | inr after ↦
            be_of_same new old 8 (offset + 8 * i) (offset + 8 * i) (λ k small. outside.after (offset + 8 * i + k) (omega (arith, after, small)))
            ∙ others i within (λ same. omega (arith, same, after, below))
      ]
    ])
    ∙ take_all (length numbers) numbers (omega arith)

-- how many they are at most, and at least
pub part-few : (cb count : ℕ) → cb ≤ 21 → IsPartOfCluster cb count → (0 < count) × (count ≤ 2 ^ 18)
part-few cb count low (k, is, few) = search (rules, pow_pos, pow_mono)

-- the entries that were written are those that were to be, and then so is the table
written_of : {T : Type 0} (index : ℕ) (range : EntryRange) (kind : Kind) (cb : ℕ) (cluster : HostCluster) (numbers : List ℕ) (answer : Result T Fault) (old new : Image) → range.first ≤ index → index < range.first + range.count
    → SameOutside (range_offset (table_layout kind cb (length numbers)) cluster range) (8 * range.count) old new → OnOk answer (table_numbers new (range_offset (table_layout kind cb (length numbers)) cluster range) range.count ≡ numbers_in range numbers) → OnOk answer (IsWrittenEntry index range (table_layout kind cb (length numbers)) cluster numbers old new)
written_of index range kind cb cluster numbers (Err fault) old new from below outside written = tt
written_of index range kind cb cluster numbers (Ok value) old new from below outside written = record {
  entries = written;
  table = table_with_entry (cluster.0 * 2 ^ cb) index range numbers old new from below written outside;
}

-- nothing else in the cluster's neighbours changed
wider : (offset len cluster size : ℕ) (old new : Image) → cluster ≤ offset → offset + len ≤ cluster + size → SameOutside offset len old new → SameOutside cluster size old new
wider offset len cluster size old new from within outside = grind (arith)

-- a write of a table's entries at a valid place is one of the entry
pub WritesEntry-of : {T : Type 0} (kind : Kind) (index : ℕ) (table : TableState) (cluster : HostCluster) (answer : Result T Fault) (old new : StorageState) → table.cluster ≡ Some cluster → write_fault (layout_of_table kind table) table.cluster ≡ None
    → table.geometry.cluster_bits ≤ 21 → IsPartOfCluster table.geometry.cluster_bits (entries_together table.geometry.cluster_bits old index).count
    → WritesEntries answer (cluster.0 * 2 ^ table.geometry.cluster_bits + 8 * (entries_together table.geometry.cluster_bits old index).first) (entries_together table.geometry.cluster_bits old index) table.numbers old new
    → WritesEntry (layout_of_table kind table) index table.numbers table.cluster answer old new
WritesEntry-of kind index table cluster answer old new has none low part wrote =
    let cb = table.geometry.cluster_bits in
    let layout = layout_of_table kind table in
    let range = entries_together cb old index in
    let few = part-few cb range.count low part in
    let with_it = multiple_before index range.count few.0 in
    let within = group-within cb range.count cluster.0 index part few.0 in
    let start = (cluster.0 * 2 ^ cb + 8 * index) / 2 ^ cb * 2 ^ cb in
    record {
      refused = rw none tt;
      faults = grind (arith, wrote.faults);
      written = λ told. rw has (written_of index range kind cb cluster table.numbers answer old.byte_at new.byte_at with_it.0 with_it.1 (wrote.storage.others told) (wrote.written told));
      others = λ told. rw has (wider (range_offset layout cluster range) (8 * range.count) start (2 ^ cb) old.byte_at new.byte_at within.0 within.1 (wrote.storage.others told));
      storage = rw has wrote.storage;
    }
