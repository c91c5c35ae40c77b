use Rattle.std.proofs.Common.{◌≡◌, ◌⊎◌, ◌↔◌, ℕ, true, false, Option, ◌+◌, ◌-◌, ◌*◌, ◌/◌, ◌%◌, ◌^◌, ◌<◌, ◌≤◌, min, List, [], ◌∷◌, ◌++◌, length, get_or, Some, None, Result, Ok, Err, IsOkAnd, IsSome, MatchResult, refl, ap, sym, ◌∙◌, inl, inr, arith}
use Rattle.std.proofs.lemmas.Bool.{cases_lt}
use Rattle.std.proofs.lemmas.Bool.Decides.{nat_tests}
use Rattle.std.proofs.lemmas.List.{get_or_past}
use Rattle.std.proofs.lemmas.Nat.{div-add-mod', div-mul-add, mod-mul-add, mul-le, pow_pos, pow-add}
use Rattle.std.proofs.Math.Nat.{div-lt_iff_lt-mul, mod-eq_of_lt, mod-lt, mul-div_cancel, mul_assoc}
use Rattle.std.proofs.Math.Pow.{pow_mono}
use Rattle.std.specs.Option.{is_some}
use Rattle.qcow2_base.specs.Storage.{Image, OnlyReads, StorageState}
use Rattle.qcow2_base.specs.declared.fault.Fault.{Fault}
use Rattle.qcow2_base.specs.declared.fault.Fault.TheVariants.{NoMemory, Storage}
use Rattle.qcow2_image.proofs.LookupsLemmas.{refused-as}
use Rattle.qcow2_base.specs.declared.types.HostCluster.{HostCluster}
use Rattle.qcow2_metadata.proofs.EntriesLemmas.{div_rises}
use Rattle.qcow2_metadata.specs.Entries.L2Mapping.{Mapping}
use Rattle.qcow2_metadata.specs.Entries.Runs.{reads_on}
use Rattle.qcow2_metadata.specs.Header.{Geometry}
use Rattle.qcow2_metadata.specs.Table.{TableState, l2_entries, loaded_l2_table, mapping_at}
use Rattle.qcow2_metadata.specs.Table.L2Table.{IsMappedRun}
use Rattle.qcow2_check.specs.NamedTables.{named_cluster}
use Rattle.qcow2_image.specs.Lookups.{l2_cluster}
use Rattle.qcow2_image.specs.Extents.{AreExtents, AreInOneTable, Contents, ExtentsState, HasNoTable, IsExtent, IsPiece, ReadAsOne, RefusesExtent, StaysReader, content_in, contents_in, contents_of, extent_of, moved_on}
use Rattle.qcow2_image.specs.declared.extents.Extent.{Extent}
use Rattle.qcow2_image.specs.declared.extents.Content.{Content}

-- an offset's distance from its cluster's begin is less than the largest cluster
pub distance_below : (cb offset distance : ℕ) → cb ≤ 21 → distance ≡ offset % 2 ^ cb → distance < 2 ^ 21
distance_below cb offset distance high is = grind (arith, nat_tests, pow_mono, mod-lt, pow_pos)

-- where no L2 table is named before an L1 entry, nor by it, none is up to it
pub unnamed_more : (cb : ℕ) (l1 : List ℕ) (first index : ℕ) (found : Option HostCluster) → ((k : ℕ) → first ≤ k → k < index → named_cluster cb (get_or l1 k 0) ≡ None)
    → found ≡ named_cluster cb (get_or l1 index 0) → is_some found ≡ false → (k : ℕ) → first ≤ k → k < index + 1 → named_cluster cb (get_or l1 k 0) ≡ None
unnamed_more cb l1 first index found before is none k from below = grind (arith, nat_tests, before)

-- past the L1 table's end no L2 table is named
pub unnamed_from : (cb : ℕ) (l1 : List ℕ) (first index : ℕ) → length l1 ≤ index → ((k : ℕ) → first ≤ k → k < index → named_cluster cb (get_or l1 k 0) ≡ None)
    → (k : ℕ) → first ≤ k → named_cluster cb (get_or l1 k 0) ≡ None
unnamed_from cb l1 first index past before k from = grind (arith, before, get_or_past l1 k 0)

-- the parts of the disk that this number of L2 tables is for
tables_size : (cb n : ℕ) → 9 ≤ cb → n * 2 ^ (2 * cb - 3) ≡ n * l2_entries cb * 2 ^ cb
tables_size cb n low =
    let whole : cb - 3 + cb ≡ 2 * cb - 3 = omega arith in
    ap (λ x. n * x) (rw whole at (pow-add 2 (cb - 3) cb)) ∙ sym (mul_assoc n (l2_entries cb) (2 ^ cb))

-- an offset is before the part of an L1 entry where its L1 index is less
before_entry : (cb offset next : ℕ) → 9 ≤ cb → (offset / 2 ^ cb / l2_entries cb < next) ↔ (offset < next * 2 ^ (2 * cb - 3))
before_entry cb offset next low = grind (arith, nat_tests, tables_size, div-lt_iff_lt-mul, pow_pos)

pub reaches_next : (cb from next : ℕ) → 9 ≤ cb → from / 2 ^ cb / l2_entries cb + 1 ≤ next → from < next * 2 ^ (2 * cb - 3)
reaches_next cb from next low above = (before_entry cb from next low).0 (omega (arith, above))

-- no L2 table is for the bytes up to the next L1 entry that names one
pub no_table_before : (cb : ℕ) (l1 : List ℕ) (from next to : ℕ) → 9 ≤ cb → l2_cluster cb l1 (from / 2 ^ cb) ≡ None → to ≤ next * 2 ^ (2 * cb - 3)
    → ((k : ℕ) → from / 2 ^ cb / l2_entries cb + 1 ≤ k → k < next → named_cluster cb (get_or l1 k 0) ≡ None)
    → HasNoTable cb l1 from to
no_table_before cb l1 from next to low here end none =
    grind (arith, nat_tests, before_entry, div_rises, pow_pos)

pub no_table_after : (cb : ℕ) (l1 : List ℕ) (from to : ℕ) → l2_cluster cb l1 (from / 2 ^ cb) ≡ None
    → ((k : ℕ) → from / 2 ^ cb / l2_entries cb + 1 ≤ k → named_cluster cb (get_or l1 k 0) ≡ None)
    → HasNoTable cb l1 from to
no_table_after cb l1 from to here none = grind (arith, nat_tests, div_rises, pow_pos)

-- the first byte after them has one
pub table_at_end : (cb : ℕ) (l1 : List ℕ) (next end : ℕ) → 9 ≤ cb → end ≡ next * 2 ^ (2 * cb - 3) → IsSome (named_cluster cb (get_or l1 next 0))
    → IsSome (l2_cluster cb l1 (end / 2 ^ cb))
table_at_end cb l1 next end low is named =
    let first : end / 2 ^ cb ≡ next * l2_entries cb = ap (λ x. x / 2 ^ cb) (is ∙ tables_size cb next low) ∙ mul-div_cancel (next * l2_entries cb) (pow_pos cb) in
    let index : end / 2 ^ cb / l2_entries cb ≡ next = ap (λ x. x / l2_entries cb) first ∙ mul-div_cancel next (pow_pos (cb - 3)) in
    rw index named

-- what clusters read as goes on byte by byte
data_moves : (cb k before cluster d e n : ℕ) → cluster ≡ before + k → k * 2 ^ cb + e ≡ d + n → cluster * 2 ^ cb + e ≡ before * 2 ^ cb + d + n
data_moves cb k before cluster d e n is on = rw is (omega (arith, on))

content_moves : (cb k d e n : ℕ) (m m' : Mapping) → reads_on k m m' ≡ true → k * 2 ^ cb + e ≡ d + n → content_in cb e m' ≡ moved_on n (content_in cb d m)
content_moves cb k d e n m m' goes on = grind (arith, nat_tests, λ (before cluster : ℕ) (is : cluster ≡ before + k). data_moves cb k before cluster d e n is on)

-- the byte n bytes after another: its cluster, and its distance in it
record IsFurther (size from n k e : ℕ) : Type 0 where
  cluster : (from + n) / size ≡ from / size + k
  distance : (from + n) % size ≡ e
  on : k * size + e ≡ from % size + n

further : (size from n : ℕ) → 0 < size → IsFurther size from n ((from % size + n) / size) ((from % size + n) % size)
further size from n some =
    let parts = div-add-mod' from size in
    let moved = div-add-mod' (from % size + n) size in
    let less = mod-lt (from % size + n) some in
    let whole : from + n ≡ (from / size + (from % size + n) / size) * size + (from % size + n) % size = omega (arith, parts, moved) in
    record {
      cluster = rw whole (div-mul-add (from / size + (from % size + n) / size) size ((from % size + n) % size) less);
      distance = rw whole (mod-mul-add (from / size + (from % size + n) / size) size ((from % size + n) % size) less);
      on = moved;
    }

-- a run in a table is a piece: its bytes read as one, and their entries are in that table
run_reads_as_one : (table : TableState) (from count length : ℕ) → IsMappedRun table (from / 2 ^ table.geometry.cluster_bits) count
    → from % 2 ^ table.geometry.cluster_bits + length ≤ count * 2 ^ table.geometry.cluster_bits
    → ReadAsOne (contents_in table) from length (content_in table.geometry.cluster_bits (from % 2 ^ table.geometry.cluster_bits) (mapping_at table (from / 2 ^ table.geometry.cluster_bits)))
run_reads_as_one table from count length run fits = λ n below.
    let cb = table.geometry.cluster_bits in
    let k = (from % 2 ^ cb + n) / 2 ^ cb in
    let e = (from % 2 ^ cb + n) % 2 ^ cb in
    let at : IsFurther (2 ^ cb) from n k e = further (2 ^ cb) from n (pow_pos cb) in
    let few : k < count = (div-lt_iff_lt-mul (pow_pos cb)).1 (omega (arith, below, fits)) in
    rw (at.cluster, at.distance) (ap (λ content. Ok content) (content_moves cb k (from % 2 ^ cb) e n _ _ (run.each k few) at.on))

run_is_in_one_table : (table : TableState) (from count to : ℕ) → IsMappedRun table (from / 2 ^ table.geometry.cluster_bits) count
    → from % 2 ^ table.geometry.cluster_bits + (to - from) ≤ count * 2 ^ table.geometry.cluster_bits
    → AreInOneTable table.geometry.cluster_bits from to
run_is_in_one_table table from count to run fits = λ offset above below.
    let cb = table.geometry.cluster_bits in
    let size = l2_entries cb in
    let n = offset - from in
    let k = (from % 2 ^ cb + n) / 2 ^ cb in
    let e = (from % 2 ^ cb + n) % 2 ^ cb in
    let at : IsFurther (2 ^ cb) from n k e = further (2 ^ cb) from n (pow_pos cb) in
    let same : from + n ≡ offset = omega (arith, above) in
    let cluster : offset / 2 ^ cb ≡ from / 2 ^ cb + k = rw same at at.cluster in
    let few : k < count = (div-lt_iff_lt-mul (pow_pos cb)).1 (omega (arith, above, below, fits)) in
    let first = from / 2 ^ cb in
    let whole : first + k ≡ first / size * size + (first % size + k) = omega (arith, div-add-mod' first size) in
    rw (cluster, whole) (div-mul-add (first / size) size (first % size + k) (omega (arith, run.within, few)))

pub piece_of_run : (table : TableState) (from size cb cluster distance count step : ℕ) (found : Mapping) (content : Content) → from < size → cb ≡ table.geometry.cluster_bits
    → cluster ≡ from / 2 ^ table.geometry.cluster_bits → distance ≡ from % 2 ^ table.geometry.cluster_bits → IsMappedRun table cluster count → found ≡ mapping_at table cluster
    → content ≡ content_in cb distance found → step ≡ min (count * 2 ^ table.geometry.cluster_bits - distance) (size - from)
    → IsPiece (contents_in table) size from (content, from + step) × AreInOneTable table.geometry.cluster_bits from (from + step)
piece_of_run table from size cb cluster distance count step found content below bits at far run reads is steps =
    let power = pow_pos table.geometry.cluster_bits in
    let own : IsMappedRun table (from / 2 ^ table.geometry.cluster_bits) count = rw at at run in
    let room : 1 * 2 ^ table.geometry.cluster_bits ≤ count * 2 ^ table.geometry.cluster_bits = mul-le _ _ _ _ own.some (omega arith) in
    let inside = mod-lt from power in
    let short : from % 2 ^ table.geometry.cluster_bits + step ≤ count * 2 ^ table.geometry.cluster_bits = omega (arith, steps, far, room, inside) in
    let back : from + step - from ≡ step = omega arith in
    let same : content ≡ content_in table.geometry.cluster_bits (from % 2 ^ table.geometry.cluster_bits) (mapping_at table (from / 2 ^ table.geometry.cluster_bits)) = rw (bits, far, reads, at) at is in (
      (omega (arith, steps, far, room, inside, below), omega (arith, steps, below), rw (back, same) (run_reads_as_one table from count step own short)),
      run_is_in_one_table table from count (from + step) own (rw back short),
    )

-- what an offset reads as in an image, by the L2 table for it, or where that is refused, or where there is none
in_its_table : (g : Geometry) (l1 : List ℕ) (image : Image) (offset : ℕ) (table : TableState) (cluster : HostCluster) → table.geometry ≡ g
    → l2_cluster g.cluster_bits l1 (offset / 2 ^ g.cluster_bits) ≡ Some cluster → loaded_l2_table g cluster image ≡ Ok table.numbers
    → contents_of g l1 image offset ≡ contents_in table offset
in_its_table g l1 image offset table cluster same named loaded = rw (named, loaded, same) refl

pub piece_in_image : (g : Geometry) (l1 : List ℕ) (image : Image) (size from : ℕ) (table : TableState) (cluster : HostCluster) (piece : Content × ℕ) → table.geometry ≡ g
    → l2_cluster g.cluster_bits l1 (from / 2 ^ g.cluster_bits) ≡ Some cluster → loaded_l2_table g cluster image ≡ Ok table.numbers
    → IsPiece (contents_in table) size from piece → AreInOneTable g.cluster_bits from piece.1
    → IsPiece (contents_of g l1 image) size from piece
piece_in_image g l1 image size from table cluster piece same named loaded told inside =
    grind (arith, nat_tests, in_its_table)

-- what a result that is `Ok` leads to
pub ok_and_then : {T E : Type 0} (P Q : T → Type 0) (R : E → Type 0) (result : Result T E) → IsOkAnd result P → ((value : T) → P value → Q value) → MatchResult result Q R
ok_and_then P Q R result holds leads = grind (arith, holds, leads)

-- a piece and one that goes on from it
moved_twice : (m n : ℕ) (content : Content) → moved_on n (moved_on m content) ≡ moved_on (m + n) content
moved_twice m n content = grind arith

pub pieces_join : (contents : Contents) (from middle to : ℕ) (content next : Content) → from < middle → middle < to
    → ReadAsOne contents from (middle - from) content → next ≡ moved_on (middle - from) content → ReadAsOne contents middle (to - middle) next
    → ReadAsOne contents from (to - from) content
pieces_join contents from middle to content next some more first goes second = λ n below. elim (cases_lt n (middle - from)) [
  | inl before ↦ first n before
  | inr after ↦ grind (arith, moved_twice, goes, second (n - (middle - from)) (omega (arith, below, after, some, more)))
]

pub shift_fits : (cb : ℕ) → cb ≤ 21 → 1 * 2 ^ (2 * cb - 3) % 2 ^ 64 ≡ 2 ^ (2 * cb - 3)
shift_fits cb high =
    let small : 2 * cb - 3 ≤ 39 = omega (arith, high) in
    let power : 2 ^ (2 * cb - 3) ≤ 2 ^ 39 = pow_mono small in
    let one : 1 * 2 ^ (2 * cb - 3) ≡ 2 ^ (2 * cb - 3) = omega arith in
    rw one (mod-eq_of_lt (omega (arith, power)))

-- where an extent ends
moved_nowhere : (content : Content) → moved_on 0 content ≡ content
moved_nowhere content = grind arith

begins_as : (contents : Contents) (from length : ℕ) (content : Content) → 0 < length → ReadAsOne contents from length content → contents from ≡ Ok content
begins_as contents from length content some reads =
    let place : from + 0 ≡ from = omega arith in
    rw (place, moved_nowhere content) at (reads 0 some)

pub extent_that_ends : (contents : Contents) (size start : ℕ) (found : Content × ℕ) (next : Content × ℕ) → start < found.1 → found.1 ≤ size → ReadAsOne contents start (found.1 - start) found.0
    → IsPiece contents size found.1 next → (next.0 ≡ moved_on (found.1 - start) found.0 → ⊥) → IsExtent contents size start (extent_of start found)
extent_that_ends contents size start found next some within reads piece differs = record {
  start = refl;
  some = omega (arith, some);
  within = omega (arith, some, within);
  reads = reads;
  ends = λ more. (next.0, grind (arith, some, begins_as contents found.1 (next.1 - found.1) next.0 (omega (arith, piece.0)) piece.2), differs);
}

pub refused_at_end : (contents : Contents) (size start end : ℕ) (content : Content) (fault : Fault) → start < end → end < size → ReadAsOne contents start (end - start) content
    → (fault ≡ Storage) ⊎ (fault ≡ NoMemory) ⊎ (contents end ≡ Err fault) → RefusesExtent contents size start fault
refused_at_end contents size start end content fault some within reads why =
    let at : start + (end - start) ≡ end = omega (arith, some) in
    refused-as fault (λ refused. (end - start, content, omega (arith, at, within), reads, rw at refused)) why

pub refused_at_start : (contents : Contents) (size start : ℕ) (fault : Fault) → start < size
    → (fault ≡ Storage) ⊎ (fault ≡ NoMemory) ⊎ (contents start ≡ Err fault) → RefusesExtent contents size start fault
refused_at_start contents size start fault within why = refused-as fault (λ refused. grind (arith, nat_tests)) why

-- a reader that stays twice
pub stays_twice : (old new : StorageState) (first second third : ExtentsState) → OnlyReads {T = ℕ} (Ok 0) old new → StaysReader old first second → StaysReader new second third → StaysReader old first third
stays_twice old new first second third reads one other = grind (arith, nat_tests)

-- reads that returned a value, whatever that is
pub reads_any : {A B : Type 0} (value : A) (other : B) (old new : StorageState) → OnlyReads (Ok value) old new → OnlyReads (Ok other) old new
reads_any value other old new reads = record { told = (λ failed. cc, λ moved. let failed = reads.told.1 moved in cc); bytes = reads.bytes; len = reads.len; device = reads.device }

-- extents are determined by where they begin
no_shorter : (contents : Contents) (size from length : ℕ) (content : Content) (extent : Extent) → IsExtent contents size from extent → extent.content ≡ content
    → ReadAsOne contents from length content → from + length ≤ size → extent.length < length → ⊥
no_shorter contents size from length content extent is same reads within less = grind (arith, nat_tests)

extent_once : (contents : Contents) (size from : ℕ) (one other : Extent) → IsExtent contents size from one → IsExtent contents size from other → one ≡ other
extent_once contents size from one other first second =
    let content = begins_as contents from one.length one.content first.some first.reads in
    let same = begins_as contents from other.length other.content second.some second.reads in
    grind (arith, nat_tests, content, same, no_shorter)

-- a disk has one map
pub map_once : (contents : Contents) (size from : ℕ) (xs ys : List Extent) → AreExtents contents size from xs size → AreExtents contents size from ys size → xs ≡ ys
map_once contents size from [] [] one other = refl
map_once contents size from [] (y ∷ ys) one other = grind arith
map_once contents size from (x ∷ xs) [] one other = grind arith
map_once contents size from (x ∷ xs) (y ∷ ys) one other =
    grind (arith, extent_once contents size from x y one.0 other.0, map_once contents size (from + x.length) xs ys)

-- extents, and one more
pub extents_more : (contents : Contents) (size from to : ℕ) (extents : List Extent) (extent : Extent) → AreExtents contents size from extents to → IsExtent contents size to extent
    → AreExtents contents size from (extents ++ extent ∷ []) (to + extent.length)
extents_more contents size from to [] extent same is = (rw same is, rw same refl)
extents_more contents size from to (x ∷ xs) extent are is = (are.0, extents_more contents size (from + x.length) to xs extent are.1 is)
