use Rattle.std.proofs.Common.{◌≡◌, ◌↔◌, ◌⊎◌, ℕ, zero, suc, Bool, true, false, ◌+◌, ◌-◌, ◌%◌, ◌*◌, ◌/◌, ◌^◌, ◌<◌, ◌≤◌, List, [], ◌∷◌, length, slice_index, take, Option, None, Some, IsSome, IsSomeAnd, inl, inr, refl, sym, ap, ◌∙◌, pow-add, div-add-mod', arith}
use Rattle.std.specs.Prelude.{is_some}
use Rattle.std.proofs.lemmas.Bool.Decides.{nat_tests}
use Rattle.std.proofs.lemmas.Nat.{div-mul-add, mod_below, pow_pos}
use Rattle.std.proofs.lemmas.Bool.{cases_eq, cases_lt, true≢false}
use Rattle.std.proofs.Math.Nat.{add-mul, div-lt_iff_lt-mul, le-div_iff_mul-le, mod-le, mul-div_cancel, one-mul}
use Rattle.qcow2_metadata.proofs.EntriesLemmas.{div_rises}
use Rattle.std.proofs.lemmas.List.{get_or_past}
use Rattle.std.proofs.lemmas.Option.{none-some}
use Rattle.qcow2_metadata.proofs.TableLemmas.{first_fault-append}
use Rattle.qcow2_check.proofs.UsesLemmas.{take_more}
use Rattle.qcow2_base.specs.Format.{max_file_length}
use Rattle.qcow2_base.specs.declared.fault.Fault.{Fault}
use Rattle.qcow2_base.specs.declared.fault.Fault.TheVariants.{TablePlace}
use Rattle.qcow2_base.specs.declared.types.HostCluster.{HostCluster}
use Rattle.qcow2_check.specs.NamedTables.{named_block}
use Rattle.qcow2_metadata.specs.Header.{HeaderRecord}
use Rattle.qcow2_base.specs.Storage.{Image, IsBytes}
use Rattle.std.proofs.lemmas.List.Elements.{All-get_or}
use Rattle.qcow2_metadata.proofs.PackingLemmas.{counters_at-small}
use Rattle.qcow2_metadata.specs.Refblock.Counters.{AreCounters}
use Rattle.qcow2_metadata.specs.Refblock.Packing.{width}
use Rattle.qcow2_metadata.specs.Placed.{numbers_at, place_fault}
use Rattle.qcow2_metadata.specs.Refblock.{BlockState, block_geometry_of, block_layout, greatest_counter}
use Rattle.qcow2_metadata.specs.Table.{first_fault}
use Rattle.qcow2_check.specs.Counters.{AreFree, CountersState, IsKeptBlockOf, ReportNone, block_place_fault, blocks_fault, block_of_cluster, counter_of, counters_each, is_counted_again, unused_counter}
use Rattle.qcow2_check.specs.Repeats.{AreTimesOf, is_again, times_at}

-- the last cluster that ends by the greatest end
pub place_limit : (block cb most : ℕ) → most ≡ 2 ^ 56 / 2 ^ cb → (most ≤ block) ↔ (2 ^ 56 < block * 2 ^ cb + 2 ^ cb)
place_limit block cb most is = grind (arith, nat_tests, is, div-lt_iff_lt-mul, pow_pos)

pub refused : (header : HeaderRecord) (v : ℕ) (block : HostCluster) (most : ℕ) → named_block header.v2.cluster_bits v ≡ Some block
    → most ≡ 2 ^ 56 / 2 ^ header.v2.cluster_bits → most ≤ block.0 → block_place_fault header v ≡ Some TablePlace
refused header v block most names is past = grind (arith, nat_tests, names, is, (place_limit block.0 header.v2.cluster_bits most is).0 past)

pub accepted : (header : HeaderRecord) (v : ℕ) (block : HostCluster) (most : ℕ) → named_block header.v2.cluster_bits v ≡ Some block
    → most ≡ 2 ^ 56 / 2 ^ header.v2.cluster_bits → block.0 < most → block_place_fault header v ≡ None
accepted header v block most names is before = grind (arith, nat_tests, names, is, before, (place_limit block.0 header.v2.cluster_bits most is).1)

-- the first fault of numbers, where the first of them have none
no_fault_more : (f : ℕ → Option Fault) (vs : List ℕ) (i : ℕ) → i < length vs → first_fault f (take i vs) ≡ None
    → f (slice_index vs i) ≡ None → first_fault f (take (i + 1) vs) ≡ None
no_fault_more f vs i below none next = rw (take_more vs i 0 below)
    (first_fault-append f (take i vs) (slice_index vs i ∷ []) none ∙ grind (arith, next))

first_fault_at : (f : ℕ → Option Fault) (vs : List ℕ) (i : ℕ) (fault : Fault) → i < length vs → first_fault f (take i vs) ≡ None
    → f (slice_index vs i) ≡ Some fault → first_fault f vs ≡ Some fault
first_fault_at f [] i fault below none here = let never : ⊥ = omega (arith, below) in elim never [ ]
first_fault_at f (v ∷ vs) zero fault below none here = grind (arith, here)
first_fault_at f (v ∷ vs) (suc i) fault below none here = grind (arith, none, first_fault_at f vs i fault (omega (arith, below)))

-- the same of the places of blocks
pub places_more : (header : HeaderRecord) (vs : List ℕ) (i : ℕ) → i < length vs → blocks_fault header (take i vs) ≡ None
    → block_place_fault header (slice_index vs i) ≡ None → blocks_fault header (take (i + 1) vs) ≡ None
places_more header vs i = no_fault_more (block_place_fault header) vs i

pub refused_at : (header : HeaderRecord) (vs : List ℕ) (i : ℕ) (fault : Fault) → i < length vs → blocks_fault header (take i vs) ≡ None
    → block_place_fault header (slice_index vs i) ≡ Some fault → blocks_fault header vs ≡ Some fault
refused_at header vs i = first_fault_at (block_place_fault header) vs i

-- where all blocks can lie where the refcount table says, each cluster has a counter
no_fault_at : (f : ℕ → Option Fault) (vs : List ℕ) (i : ℕ) → f 0 ≡ None → first_fault f vs ≡ None → f (slice_index vs i) ≡ None
no_fault_at f [] i nothing none = nothing
no_fault_at f (v ∷ vs) zero nothing none = grind (arith, none)
no_fault_at f (v ∷ vs) (suc i) nothing none = no_fault_at f vs i nothing (grind (arith, none))

pub place_of_block : (header : HeaderRecord) (reftable : List ℕ) (c : ℕ) (block : HostCluster) → blocks_fault header reftable ≡ None
    → block_of_cluster header reftable c ≡ Some block → place_fault (block_layout (block_geometry_of header)) block ≡ None
place_of_block header reftable c block placed names =
    grind (arith, nat_tests, names, no_fault_at (block_place_fault header) reftable (c / counters_each header) refl placed)

same_quotient : (n c other : ℕ) → 0 < n → c ≤ other → other < c - c % n + n → other / n ≡ c / n
same_quotient n c other some from before =
    let parts : c / n * n + c % n ≡ c = div-add-mod' c n in
    let low : c / n ≤ other / n = div_rises c other n some from in
    let high : other / n < c / n + 1 = (div-lt_iff_lt-mul some).1 (omega (arith, parts, before)) in
    omega (arith, low, high)

pub same_remainder : (n c other : ℕ) → 0 < n → c ≤ other → other < c - c % n + n → c % n + (other - c) ≡ other % n
same_remainder n c other some from before =
    let one : c / n * n + c % n ≡ c = div-add-mod' c n in
    let both : other / n * n + other % n ≡ other = div-add-mod' other n in
    let same : other / n ≡ c / n = same_quotient n c other some from before in
    omega (arith, one, rw same at both, from)

-- clusters up to the end of those that one block counts have the same block
pub same_block : (header : HeaderRecord) (reftable : List ℕ) (c other : ℕ) → c ≤ other
    → other < c - c % counters_each header + counters_each header
    → block_of_cluster header reftable other ≡ block_of_cluster header reftable c
same_block header reftable c other from before =
    let n = counters_each header in
    let same : other / n ≡ c / n = same_quotient n c other (pow_pos _) from before in
    rw same refl

-- and past the refcount table's end they have none
pub ends : (header : HeaderRecord) (reftable : List ℕ) (c other : ℕ) → c ≤ other → length reftable ≤ c / counters_each header
    → block_of_cluster header reftable other ≡ None
ends header reftable c other from past =
    let n = counters_each header in
    let later : c / n ≤ other / n = div_rises c other n (pow_pos _) from in
    let zero : slice_index reftable (other / n) ≡ 0 = get_or_past reftable (other / n) 0 (omega (arith, past, later)) in
    rw zero refl

-- the counter of a cluster whose block is kept
pub kept_counter : (header : HeaderRecord) (reftable : List ℕ) (image : Image) (block : BlockState) (b : HostCluster) (c : ℕ) → block.cluster ≡ Some b
    → block_of_cluster header reftable c ≡ Some b → IsKeptBlockOf header image (Some block)
    → counter_of header reftable image c ≡ slice_index block.numbers (c % counters_each header)
kept_counter header reftable image block b c named place kept =
    let numbers : block.numbers ≡ numbers_at (block_layout (block_geometry_of header)) b image = rw named at kept in
    grind (arith, place, numbers)

-- and of one that comes after it in that block
kept_counter_after : (header : HeaderRecord) (reftable : List ℕ) (image : Image) (block : BlockState) (b : HostCluster) (c k : ℕ) → block.cluster ≡ Some b
    → block_of_cluster header reftable c ≡ Some b → IsKeptBlockOf header image (Some block)
    → c % counters_each header + k < counters_each header
    → counter_of header reftable image (c + k) ≡ slice_index block.numbers (c % counters_each header + k)
kept_counter_after header reftable image block b c k named place kept within =
    let n = counters_each header in
    let low : c % n ≤ c = mod-le c n in
    let before : c + k < c - c % n + n = omega (arith, low, within) in
    let after : c ≤ c + k = omega arith in
    let same : block_of_cluster header reftable (c + k) ≡ Some b = same_block header reftable c (c + k) after before ∙ place in
    let parts : c % n + (c + k - c) ≡ (c + k) % n = same_remainder n c (c + k) (pow_pos _) after before in
    let index : (c + k) % n ≡ c % n + k = omega (arith, parts) in
    kept_counter header reftable image block b (c + k) named same kept ∙ rw index refl

-- so where it has zeros from one on, the clusters' counters are 0
pub kept_zeros : (reader : CountersState) (image : Image) (block : BlockState) (c count : ℕ) → reader.block ≡ Some block
    → IsSomeAnd block.cluster (λ place. block_of_cluster reader.header reader.reftable c ≡ Some place)
    → c % counters_each reader.header + count ≤ counters_each reader.header
    → ((k : ℕ) → k < count → slice_index block.numbers (c % counters_each reader.header + k) ≡ 0)
    → IsKeptBlockOf reader.header image reader.block → AreFree reader image c (c + count)
kept_zeros reader image block c count is names within zeros kept = λ other after before. by_place block.cluster refl other after before
  where
    by_place : (place : Option HostCluster) → block.cluster ≡ place → AreFree reader image c (c + count)
    by_place None none other after before =
        let never : IsSomeAnd {T = HostCluster} None (λ place. block_of_cluster reader.header reader.reftable c ≡ Some place) = rw none at names in
        absurd never
    by_place (Some b) some other after before =
        let named : block_of_cluster reader.header reader.reftable c ≡ Some b = rw some at names in
        let k = other - c in
        let below : k < count = omega (arith, after, before) in
        let sum : c + k ≡ other = omega (arith, after) in
        let here : counter_of reader.header reader.reftable image (c + k) ≡ 0 =
        kept_counter_after reader.header reader.reftable image block b c k some named (rw is at kept) (omega (arith, below, within)) ∙ zeros k below in
        rw sum at here

-- and those of clusters without a block are
pub free_unused : (header : HeaderRecord) (reftable : List ℕ) (image : Image) (c : ℕ) → counter_of header reftable image c ≡ 0
    → unused_counter header reftable image c ≡ 0
free_unused header reftable image c free = by_test (is_counted_again header reftable c) refl
  where
    by_test : (again : Bool) → is_counted_again header reftable c ≡ again → unused_counter header reftable image c ≡ 0
    by_test true is = rw is refl
    by_test false is = rw is free

-- so they are reported
pub all_free : (reader : CountersState) (image : Image) (from to : ℕ) → AreFree reader image from to → ReportNone reader image from to
all_free reader image from to free = λ c after before. free_unused reader.header reader.reftable image c (free c after before)

pub no_block : (reader : CountersState) (image : Image) (from to : ℕ)
    → ((c : ℕ) → from ≤ c → c < to → block_of_cluster reader.header reader.reftable c ≡ None) → ReportNone reader image from to
no_block reader image from to none =
    λ c after before. free_unused reader.header reader.reftable image c (rw (none c after before, counter_of) refl)

-- where nothing is reported of what comes before a cluster, nor of what comes from it on, nothing is of both
pub reports_join : (reader : CountersState) (image : Image) (a b c : ℕ) → ReportNone reader image a b → ReportNone reader image b c
    → ReportNone reader image a c
reports_join reader image a b c first second = λ k after before. elim (cases_lt k b) [
  | inl low ↦ first k after low
  | inr high ↦ second k high before
]

pub ruleset joined_reports = (all_free, reports_join)

-- nothing is reported of unused clusters in a block that is named before
pub again_reports : (reader : CountersState) (image : Image) (c to : ℕ) → is_counted_again reader.header reader.reftable c ≡ true
    → to ≤ c - c % counters_each reader.header + counters_each reader.header → ReportNone reader image c to
again_reports reader image c to again within = λ other after before.
    let n = counters_each reader.header in
    let same : other / n ≡ c / n = same_quotient n c other (pow_pos _) after (omega (arith, before, within)) in
    let there : is_counted_again reader.header reader.reftable other ≡ true = rw same again in
    rw there refl

-- an entry that names a block is one of the refcount table's, and not 0
pub names_inside : (cb : ℕ) (reftable : List ℕ) (index : ℕ) (block : HostCluster) → named_block cb (slice_index reftable index) ≡ Some block
    → (index < length reftable) × (0 < slice_index reftable index)
names_inside cb reftable index block names = (
  elim (cases_lt index (length reftable)) [
    | inl inside ↦ inside
    | inr past ↦
        let blank : slice_index reftable index ≡ 0 = get_or_past reftable index 0 past in
        absurd (none-some block (ap (λ v. named_block cb v) (sym blank) ∙ names))
  ],
  elim (cases_eq (slice_index reftable index) 0) [
    | inl blank ↦ absurd (none-some block (ap (λ v. named_block cb v) (sym blank) ∙ names))
    | inr some ↦ omega (arith, some)
  ],
)

-- and lies below the greatest end where all blocks can lie where the refcount table says
named_below : (header : HeaderRecord) (reftable : List ℕ) (c : ℕ) (block : HostCluster) → blocks_fault header reftable ≡ None
    → block_of_cluster header reftable c ≡ Some block → slice_index reftable (c / counters_each header) < max_file_length
named_below header reftable c block placed names =
    let v = slice_index reftable (c / counters_each header) in
    let size = 2 ^ header.v2.cluster_bits in
    let place = place_of_block header reftable c block placed names in
    let end : block.0 * size + size ≤ max_file_length = grind (arith, nat_tests, place) in
    let some : 0 < v = (names_inside header.v2.cluster_bits reftable (c / counters_each header) block names).1 in
    let is : block.0 ≡ v / size = grind (arith, nat_tests, names, some) in
    let parts : v / size * size + v % size ≡ v = div-add-mod' v size in
    let rest : v % size < size = mod_below v size (pow_pos _) in
    omega (arith, end, parts, rest, ap (λ n. n * size) is)

-- a block that counts no more is named before
pub counted_again : (header : HeaderRecord) (reftable times : List ℕ) (c : ℕ) (block : HostCluster) → AreTimesOf reftable times
    → blocks_fault header reftable ≡ None → times_at times (c / counters_each header) ≡ 0 → block_of_cluster header reftable c ≡ Some block
    → is_counted_again header reftable c ≡ true
counted_again header reftable times c block are placed none names =
    let index = c / counters_each header in
    let there = names_inside header.v2.cluster_bits reftable index block names in
    let again : is_again reftable index ≡ true = (are.again index there.0 there.1).0 none in
    rw again (grind (arith, nat_tests, named_below header reftable c block placed names))

pub some_again : (header : HeaderRecord) (reftable times : List ℕ) (c : ℕ) → AreTimesOf reftable times → blocks_fault header reftable ≡ None
    → times_at times (c / counters_each header) ≡ 0 → is_some (block_of_cluster header reftable c) ≡ true
    → is_counted_again header reftable c ≡ true
some_again header reftable times c are placed none some = by_block (block_of_cluster header reftable c) refl some
  where
    by_block : (found : Option HostCluster) → block_of_cluster header reftable c ≡ found → is_some found ≡ true → is_counted_again header reftable c ≡ true
    by_block None names there = absurd (true≢false (sym there))
    by_block (Some block) names there = counted_again header reftable times c block are placed none names

-- and the counters of unused clusters are reported if a block counts, or there is none
pub reported : (header : HeaderRecord) (reftable times : List ℕ) (image : Image) (c : ℕ) → AreTimesOf reftable times
    → (0 < times_at times (c / counters_each header)) ⊎ (block_of_cluster header reftable c ≡ None)
    → unused_counter header reftable image c ≡ counter_of header reftable image c
reported header reftable times image c are (inr none) =
    let free : counter_of header reftable image c ≡ 0 = rw (none, counter_of) refl in
    free_unused header reftable image c free ∙ sym free
reported header reftable times image c are (inl counts) = by_block (block_of_cluster header reftable c) refl
  where
    index : ℕ
    index = c / counters_each header

    by_test : (block : HostCluster) → block_of_cluster header reftable c ≡ Some block → (again : Bool) → is_again reftable (c / counters_each header) ≡ again
        → unused_counter header reftable image c ≡ counter_of header reftable image c
    by_test block names true is =
        let there = names_inside header.v2.cluster_bits reftable index block names in
        let never : ⊥ = omega (arith, counts, (are.again index there.0 there.1).1 is) in
        absurd never
    by_test block names false is = rw is refl

    by_block : (found : Option HostCluster) → block_of_cluster header reftable c ≡ found
        → unused_counter header reftable image c ≡ counter_of header reftable image c
    by_block None none =
        let free : counter_of header reftable image c ≡ 0 = rw (none, counter_of) refl in
        free_unused header reftable image c free ∙ sym free
    by_block (Some block) names = by_test block names (is_again reftable index) refl

-- so the counters of the kept block are those of the clusters from its first one on
pub block_counters : (header : HeaderRecord) (reftable : List ℕ) (image : Image) (kept : Option BlockState) (block : BlockState) (c : ℕ)
    → kept ≡ Some block → IsSomeAnd block.cluster (λ place. block_of_cluster header reftable c ≡ Some place)
    → IsKeptBlockOf header image kept → c % counters_each header ≡ 0
    → (k : ℕ) → k < counters_each header → counter_of header reftable image (c + k) ≡ slice_index block.numbers k
block_counters header reftable image kept block c is names same start k below = by_place block.cluster refl
  where
    by_place : (place : Option HostCluster) → block.cluster ≡ place → counter_of header reftable image (c + k) ≡ slice_index block.numbers k
    by_place None none =
        let never : IsSomeAnd {T = HostCluster} None (λ place. block_of_cluster header reftable c ≡ Some place) = rw none at names in
        absurd never
    by_place (Some b) some =
        let named : block_of_cluster header reftable c ≡ Some b = rw some at names in
        let index : c % counters_each header + k ≡ k = omega (arith, start) in
        let within : c % counters_each header + k < counters_each header = omega (arith, start, below) in
        rw index at (kept_counter_after header reftable image block b c k some named (rw is at same) within)

-- clusters from the start of those that one block counts have the same block
quotient_before : (n cluster c : ℕ) → 0 < n → cluster - cluster % n ≤ c → c ≤ cluster → c / n ≡ cluster / n
quotient_before n cluster c some from to =
    let q = cluster / n in
    let parts : q * n + cluster % n ≡ cluster = div-add-mod' cluster n in
    let below : cluster % n < n = mod_below cluster n some in
    let sum : c ≡ q * n + (c - q * n) = omega (arith, parts, from) in
    ap (λ x. x / n) sum ∙ div-mul-add q n (c - q * n) (omega (arith, parts, below, from, to))

pub block_before : (header : HeaderRecord) (reftable : List ℕ) (cluster c : ℕ) → cluster - cluster % counters_each header ≤ c → c ≤ cluster
    → block_of_cluster header reftable c ≡ block_of_cluster header reftable cluster
block_before header reftable cluster c from to =
    let same : c / counters_each header ≡ cluster / counters_each header = quotient_before (counters_each header) cluster c (pow_pos _) from to in
    rw same refl

-- so where the kept block has zeros up to one, the counters of the clusters before it are 0
pub kept_zeros_before : (reader : CountersState) (image : Image) (block : BlockState) (end count : ℕ) → reader.block ≡ Some block
    → IsSomeAnd block.cluster (λ place. block_of_cluster reader.header reader.reftable end ≡ Some place)
    → count ≤ end % counters_each reader.header
    → ((k : ℕ) → end % counters_each reader.header ≤ k + count → k < end % counters_each reader.header → slice_index block.numbers k ≡ 0)
    → IsKeptBlockOf reader.header image reader.block → AreFree reader image (end - count) end
kept_zeros_before reader image block end count is names within zeros kept = λ c after before. by_place block.cluster refl c after before
  where
    n : ℕ
    n = counters_each reader.header

    by_place : (place : Option HostCluster) → block.cluster ≡ place → AreFree reader image (end - count) end
    by_place None none c after before =
        let never : IsSomeAnd {T = HostCluster} None (λ place. block_of_cluster reader.header reader.reftable end ≡ Some place) = rw none at names in
        absurd never
    by_place (Some b) some c after before =
        let from : end - end % n ≤ c = omega (arith, after, within) in
        let upto : c ≤ end = omega (arith, before) in
        let named : block_of_cluster reader.header reader.reftable c ≡ Some b =
        block_before reader.header reader.reftable end c from upto ∙ rw some at names in
        let one : c / n * n + c % n ≡ c = div-add-mod' c n in
        let both : end / n * n + end % n ≡ end = div-add-mod' end n in
        let same : c / n ≡ end / n = quotient_before n end c (pow_pos _) from upto in
        let index : end % n ≡ c % n + (end - c) = omega (arith, rw same at one, both, upto) in
        kept_counter reader.header reader.reftable image block b c some named (rw is at kept)
        ∙ zeros (c % n) (omega (arith, index, after)) (omega (arith, index, before))

-- a power of two times its part of the greatest end is that end
whole_end : (k : ℕ) → k ≤ 56 → 2 ^ 56 / 2 ^ k * 2 ^ k ≡ 2 ^ 56
whole_end k low =
    let sum : 56 - k + k ≡ 56 = omega (arith, low) in
    let parts : 2 ^ (56 - k) * 2 ^ k ≡ 2 ^ 56 = sym (pow-add 2 (56 - k) k) ∙ ap (λ n. 2 ^ n) sum in
    ap (λ n. n / 2 ^ k * 2 ^ k) (sym parts) ∙ ap (λ n. n * 2 ^ k) (mul-div_cancel (2 ^ (56 - k)) (pow_pos k)) ∙ parts

-- clusters up to the greatest end are those of the blocks before the one that would end past it
pub within_blocks : (k c : ℕ) → k ≤ 56 → c < 2 ^ 56 → c / 2 ^ k < 2 ^ 56 / 2 ^ k
within_blocks k c low below = (div-lt_iff_lt-mul (pow_pos k)).1 (rw (whole_end k low) below)

-- what comes after the clusters that a block counts is counted by later blocks
pub after_end : (k index c : ℕ) → (index + 1) * 2 ^ k ≤ c → index < c / 2 ^ k
after_end k index c past = let next : index + 1 ≤ c / 2 ^ k = (le-div_iff_mul-le (pow_pos k)).1 past in omega (arith, next)

-- and the last of them is the one before
pub last_before_end : (k index : ℕ) → ((index + 1) * 2 ^ k - 1) / 2 ^ k ≡ index
last_before_end k index =
    let some : 0 < 2 ^ k = pow_pos k in
    let more : (index + 1) * 2 ^ k ≡ index * 2 ^ k + 2 ^ k = add-mul index 1 (2 ^ k) ∙ ap (λ n. index * 2 ^ k + n) (one-mul (2 ^ k)) in
    let sum : (index + 1) * 2 ^ k - 1 ≡ index * 2 ^ k + (2 ^ k - 1) = omega (arith, more, some) in
    ap (λ n. n / 2 ^ k) sum ∙ div-mul-add index (2 ^ k) (2 ^ k - 1) (omega (arith, some))

-- they end by the greatest end
pub end_fits : (k index : ℕ) → index < 2 ^ 56 / 2 ^ k → (index + 1) * 2 ^ k ≤ 2 ^ 56
end_fits k index below = (le-div_iff_mul-le (pow_pos k)).0 (omega (arith, below))

-- an end is after the last cluster that a block counts which one of the entries before an index names
pub record EndsBlocks (header : HeaderRecord) (reftable : List ℕ) (index end : ℕ) : Type 0 where
  pub none : (c : ℕ) → end ≤ c → c / counters_each header < index → block_of_cluster header reftable c ≡ None
  pub last : 0 < end → IsSome (block_of_cluster header reftable (end - 1))
  pub fits : end ≤ max_file_length

-- the next entry names a block, or doesn't
pub ends_after : (header : HeaderRecord) (reftable : List ℕ) (index end : ℕ) → index < 2 ^ 56 / counters_each header
    → IsSome (named_block header.v2.cluster_bits (slice_index reftable index)) → end ≡ (index + 1) * counters_each header
    → EndsBlocks header reftable (index + 1) end
ends_after header reftable index end below named is =
    let k = header.v2.cluster_bits + 3 - header.base.refcount_order in
    record {
      none = λ c past less. absurd (omega (arith, after_end k index c (rw is at past), less));
      last = λ some. rw (is, last_before_end k index) named;
      fits = rw is (end_fits k index below);
    }

pub ends_before : (header : HeaderRecord) (reftable : List ℕ) (index end : ℕ) → EndsBlocks header reftable index end
    → named_block header.v2.cluster_bits (slice_index reftable index) ≡ None → EndsBlocks header reftable (index + 1) end
ends_before header reftable index end before none = record {
  none = λ c past below. elim (cases_lt (c / counters_each header) index) [
    | inl less ↦ before.none c past less
    | inr more ↦ let same : c / counters_each header ≡ index = omega (arith, more, below) in rw same none
  ];
  last = before.last;
  fits = before.fits;
}

pub ruleset ends_of_blocks = (ends, within_blocks)

-- a counter is never greater than the greatest that its width allows
counter-small : (order : ℕ) (counters : List ℕ) (i : ℕ) → AreCounters order counters → slice_index counters i < 2 ^ width order
counter-small order counters i small = grind (arith, get_or_past, pow_pos, All-get_or)

pub counter-fits : (header : HeaderRecord) (reftable : List ℕ) (image : Image) (c : ℕ) → header.base.refcount_order ≤ 6 → IsBytes image
    → counter_of header reftable image c ≤ greatest_counter header.base.refcount_order
counter-fits header reftable image c orders bytes = by_block (block_of_cluster header reftable c) refl
  where
    order : ℕ
    order = header.base.refcount_order

    by_block : (found : Option HostCluster) → block_of_cluster header reftable c ≡ found → counter_of header reftable image c ≤ greatest_counter order
    by_block None names = rw (names, counter_of) (omega arith)
    by_block (Some block) names = rw (names, counter_of) (let small = counter-small order (numbers_at (block_layout (block_geometry_of header)) block image) (c % counters_each header) (counters_at-small order image _ _ orders bytes) in omega (arith, small))
