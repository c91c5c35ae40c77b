use Rattle.std.proofs.Common.{◌≡◌, ℕ, ◌+◌, ◌*◌, ◌<◌, ◌≤◌, List, [], ◌++◌, length, get_or, replicate, slice_get, slice_index, Option, IsSome, option_map, take, refl, sym, ◌∙◌, ap, inl, inr, arith, ◌/◌, ◌%◌, ◌^◌, lit≤, All, zero, suc, ◌-◌, ◌↔◌, Bool, true, false, ◌&&◌, IsTrue, ◌∷◌, map, drop, Some, None, Result, Err, OnOk, MatchResult}
use Rattle.std.proofs.lemmas.List.{get_or-take, length-take, get_or_past, drop_more, get_or-drop, length-drop, map-append, take-append-drop, take_more}
use Rattle.std.proofs.lemmas.Bool.{cases_lt}
use Rattle.std.proofs.lemmas.Option.{slice_get-get_or}
use Rattle.qcow2_base.proofs.StorageLemmas.{be_of_same, image_of-padded}
use Rattle.qcow2_base.specs.Storage.{Image, IsBytes, be, image_of, Holds}
use Rattle.qcow2_metadata.specs.Pieces.{Stand, big_endian_bytes}
use Rattle.qcow2_base.specs.declared.types.HostCluster.{HostCluster}
use Rattle.qcow2_metadata.specs.Placed.{ReadsBack}
use Rattle.qcow2_metadata.specs.Table.{IsValidTable, Kind, table_layout, table_numbers, chunk_numbers, valid_numbers, first_fault}
use Rattle.qcow2_metadata.proofs.PackingLemmas.{byte_of_be, counters_at-append, counters_at-held, counters_at-same}
use Rattle.qcow2_metadata.proofs.RefblockLemmas.{stand-decoded, stand-same}
use Rattle.std.proofs.lemmas.List.FromFn.{fill_by_all}
use Rattle.std.specs.Simd.{first_chunks}
use Rattle.std.proofs.lemmas.Iterator.{YieldsList}
use Rattle.std.proofs.lemmas.Iterator.Adapters.{fact_from_extend}
use Rattle.std.proofs.lemmas.Iterator.Consumers.{YieldsList-at}
use Rattle.std.specs.Iterator.{Drains, Yields}
use Rattle.qcow2_base.specs.Storage.{Holds, Image, be, image_of}
use Rattle.qcow2_base.specs.declared.fault.Fault.{Fault}
use Rattle.qcow2_metadata.proofs.TableLemmas.{first_fault-append, first_fault-join, no_fault_item, no_fault_at_all}
use Rattle.std.proofs.lemmas.Bool.Decides.{nat_tests}

-- the first k numbers are in the image
pub numbers_stand : (image : Image) (offset k : ℕ) (numbers : List ℕ) → k ≤ length numbers → ((i : ℕ) → i < k → be image (offset + 8 * i) 8 ≡ get_or numbers i 0) → table_numbers image offset k ≡ take k numbers
numbers_stand image offset k numbers within each =
    sym (fill_by_all (λ i. be image (offset + 8 * i) 8) (take k numbers) k 0 (omega (arith, length-take k numbers)) (λ i below. get_or-take k numbers i 0 below ∙ sym (each i below)))

-- where the bytes of numbers of 64 bits are in an image, these are the numbers of the table there
pub table-stands : (numbers : List ℕ) (image : Image) (offset : ℕ) → All (λ v. v < 2 ^ 64) numbers
    → Stand (big_endian_bytes 8 numbers) (8 * length numbers) image offset → table_numbers image offset (length numbers) ≡ numbers
table-stands numbers image offset fits stand =
    stand-decoded 6 (length numbers) (8 * length numbers) numbers image offset (lit≤ tt) fits refl (omega arith) stand

-- the bytes of a valid table read back as its numbers
pub table_reads_back : (kind : Kind) (cb : ℕ) (cluster : Option HostCluster) (numbers : List ℕ) → IsValidTable kind cb cluster numbers → ReadsBack (table_layout kind cb (length numbers)) numbers
table_reads_back kind cb cluster numbers valid = record {
  valid = valid.entries.valid;
  decoded = λ image offset. table-stands numbers image offset valid.entries.fits;
  same = λ old new offset small stand outside.
      stand-same 6 (length numbers) (8 * length numbers) numbers old new offset (lit≤ tt) small (omega arith) stand outside;
}

-- bytes that have numbers, eight bytes each, are the bytes of these numbers
pub piece_bytes : (bytes numbers : List ℕ) (first : ℕ) → IsBytes (image_of bytes) → length bytes % 8 ≡ 0
    → ((i : ℕ) → 8 * i + 8 ≤ length bytes → be (image_of bytes) (8 * i) 8 ≡ slice_index numbers (first + i))
    → (i : ℕ) → i < length bytes → slice_index bytes i ≡ big_endian_bytes 8 numbers (8 * first + i)
piece_bytes bytes numbers first small eights each i below =
    let own : 8 * (i / 8) + i % 8 ≡ i = omega arith in
    let number : (8 * first + i) / 8 ≡ first + i / 8 = omega arith in
    let byte : (8 * first + i) % 8 ≡ i % 8 = omega arith in
    let stands = each (i / 8) (omega (arith, below, eights)) in
    let part = byte_of_be (image_of bytes) (8 * (i / 8)) 8 (i % 8) small (omega arith) in
    rw (number, byte, ← stands) (sym (rw own at part))

-- numbers in the bytes of those that a table has from an index on, and zeros after them
pub held_then_zeros : (bytes numbers : List ℕ) (first held n i : ℕ) → length bytes ≡ 8 * held → (held ≤ i → length numbers ≤ first + i)
    → ((j : ℕ) → 8 * j + 8 ≤ length bytes → be (image_of bytes) (8 * j) 8 ≡ slice_index numbers (first + j))
    → be (image_of (bytes ++ replicate n 0)) (8 * i) 8 ≡ slice_index numbers (first + i)
unfolding be
held_then_zeros bytes numbers first held n i len past each =
    be_of_same (image_of (bytes ++ replicate n 0)) (image_of bytes) 8 (8 * i) (8 * i) (λ k small. ap (λ (image : Image). image (8 * i + k)) (image_of-padded bytes n))
    ∙ elim (cases_lt i held) [
      | inl below ↦ each i (omega (arith, below, len))
      | inr after ↦
          be_of_same (image_of bytes) (image_of []) 8 (8 * i) 0 (λ k small. get_or_past bytes (8 * i + k) 0 (omega (arith, after, len)))
          ∙ sym (get_or_past numbers (first + i) 0 (past after))
    ]

-- there is an element where there is one of a list
pub found_in_list : {A : Type 0} (number : A → ℕ) (found : Option A) (numbers : List ℕ) (i : ℕ) → option_map number found ≡ slice_get numbers i → i < length numbers → IsSome found
found_in_list number found numbers i same below = grind (arith, slice_get-get_or numbers i 0 below)

-- the numbers of a table's first entries, and those of the entries after them
table_numbers-append : (image : Image) (offset k m : ℕ) → table_numbers image offset (k + m) ≡ table_numbers image offset k ++ table_numbers image (offset + 8 * k) m
table_numbers-append image offset k m = counters_at-append 6 k m (8 * k) image offset (lit≤ tt) (omega arith)

-- the numbers of the first k pieces of eight bytes are the table's
chunk_numbers-first : (k : ℕ) (bytes : List ℕ) → 8 * k ≤ length bytes → chunk_numbers (first_chunks 8 k bytes) ≡ table_numbers (image_of bytes) 0 k
chunk_numbers-first zero bytes within = refl
chunk_numbers-first (suc k) bytes within =
    let first : be (image_of (take 8 bytes)) 0 8 ≡ be (image_of bytes) 0 8 =
    be_of_same (image_of (take 8 bytes)) (image_of bytes) 8 0 0 (λ j small. get_or-take 8 bytes (0 + j) 0 (omega arith)) in
    let rest = chunk_numbers-first k (drop 8 bytes) (omega (arith, length-drop 8 bytes)) in
    let moved = counters_at-same 6 k (8 * k) (image_of (drop 8 bytes)) (image_of bytes) 0 8 (lit≤ tt) (omega arith) (λ j below. get_or-drop 8 bytes (0 + j) 0 ∙ ap (λ (n : ℕ). get_or bytes n 0) (omega arith)) in
    let more : suc k ≡ 1 + k = omega arith in
    rw first (ap (λ (xs : List ℕ). be (image_of bytes) 0 8 ∷ xs) (rest ∙ moved) ∙ sym (rw (← more) at (table_numbers-append (image_of bytes) 0 1 k)))

-- and so where they are all the whole pieces
pub chunk_numbers-all : (bytes : List ℕ) (chunks : List (List ℕ)) → chunks ≡ first_chunks 8 (length bytes / 8) bytes → chunk_numbers chunks ≡ table_numbers (image_of bytes) 0 (length bytes / 8)
chunk_numbers-all bytes chunks is = ap chunk_numbers is ∙ chunk_numbers-first (length bytes / 8) bytes (omega arith)

-- one piece more
pub chunk_numbers-more : (chunks : List (List ℕ)) (i : ℕ) (d : List ℕ) → i < length chunks → chunk_numbers (take (i + 1) chunks) ≡ chunk_numbers (take i chunks) ++ be (image_of (get_or chunks i d)) 0 8 ∷ []
chunk_numbers-more chunks i d within =
    ap chunk_numbers (take_more chunks i d within) ∙ map-append (λ (chunk : List ℕ). be (image_of chunk) 0 8) (take i chunks) (get_or chunks i d ∷ [])

-- whether a number more is an entry too
pub lawful_more : (fault : ℕ → Option Fault) (xs : List ℕ) (v : ℕ) (before this : Bool) → IsTrue before ↔ (first_fault fault xs ≡ None) → IsTrue this ↔ (fault v ≡ None) → IsTrue (before && this) ↔ (first_fault fault (xs ++ v ∷ []) ≡ None)
lawful_more fault xs v false this before last = grind (arith, nat_tests, no_fault_at_all, first_fault-join)
lawful_more fault xs v true this before last = grind (arith, nat_tests, first_fault-append, no_fault_at_all)

-- the first number that is no entry decides
pub first_fault-at : (fault : ℕ → Option Fault) (chunks : List (List ℕ)) (i : ℕ) (d : List ℕ) (f : Fault) → i < length chunks → first_fault fault (chunk_numbers (take i chunks)) ≡ None → fault (be (image_of (get_or chunks i d)) 0 8) ≡ Some f → first_fault fault (chunk_numbers chunks) ≡ Some f
first_fault-at fault chunks i d f within none bad =
    let number = λ (chunk : List ℕ). be (image_of chunk) 0 8 in
    let split = ap chunk_numbers (sym (take-append-drop i chunks)) ∙ map-append number (take i chunks) (drop i chunks) in
    let rest = ap chunk_numbers (drop_more chunks i d within) in
    ap (first_fault fault) split ∙ first_fault-append fault (chunk_numbers (take i chunks)) (chunk_numbers (drop i chunks)) none
    ∙ ap (first_fault fault) rest ∙ rw bad refl

-- one piece of m entries more, whose bytes were read
pub table_numbers-read : (image : Image) (offset k m : ℕ) (bytes before : List ℕ) → Holds image (offset + 8 * k) bytes → 8 * m ≤ length bytes → before ≡ table_numbers image offset k → before ++ table_numbers (image_of bytes) 0 m ≡ table_numbers image offset (k + m)
table_numbers-read image offset k m bytes before held within so_far =
    let piece = counters_at-held 6 m (8 * m) image (offset + 8 * k) bytes (lit≤ tt) (omega arith) within held in
    rw (so_far, ← piece) (sym (table_numbers-append image offset k m))

-- a piece with a number that is no entry, after pieces with none, decides
pub decoded-refused_piece : (fault : ℕ → Option Fault) (image : Image) (offset k m n : ℕ) (bytes : List ℕ) (f : Fault) → k + m ≤ n → Holds image (offset + 8 * k) bytes → 8 * m ≤ length bytes → first_fault fault (table_numbers image offset k) ≡ None → first_fault fault (table_numbers (image_of bytes) 0 m) ≡ Some f → valid_numbers fault (table_numbers image offset n) ≡ Err f
decoded-refused_piece fault image offset k m n bytes f within held len none bad =
    let rest = n - (k + m) in
    let whole : n ≡ k + (m + rest) = omega arith in
    let here = counters_at-held 6 m (8 * m) image (offset + 8 * k) bytes (lit≤ tt) (omega arith) len held in
    let found : first_fault fault (table_numbers image offset (k + (m + rest))) ≡ Some f =
    rw (table_numbers-append image offset k (m + rest), first_fault-append fault (table_numbers image offset k) _ none, table_numbers-append image (offset + 8 * k) m rest, first_fault-join fault (table_numbers image (offset + 8 * k) m) _, here, bad) refl in
    rw (rw (← whole) at found) refl

-- what `extend` leaves after a chain whose items are seen through v
pub viewed_from_extend : {T A C E Q : Type 0} {steps : T → Option A → T → Type 0} {all : List C} {P : List A → Type 0} {s : T} (v : A → C) (r : Result (Unit {0}) E) → ((it : T) × (xs : List A) × (it ≡ s) × P xs × MatchResult r (λ _. Drains steps it xs) (λ _. (t : T) × Yields steps it xs t)) → YieldsList steps v s all → ((xs : List A) → map v xs ≡ all → P xs → Q) → OnOk r Q
viewed_from_extend v r ran road says = fact_from_extend v r ran (λ it b. YieldsList-at b road) says

-- each piece of eight bytes holds an entry's number, where all do
pub lawful_chunk : (fault : ℕ → Option Fault) (chunks : List (List ℕ)) (k : ℕ) (chunk : List ℕ) → first_fault fault (chunk_numbers chunks) ≡ None → k < length chunks → chunk ≡ get_or chunks k chunk → fault (be (image_of chunk) 0 8) ≡ None
lawful_chunk fault chunks k chunk none below is = grind (arith, nat_tests, no_fault_item)

-- the first of numbers with no fault have none
pub first_fault-take : (fault : ℕ → Option Fault) (xs : List ℕ) (k : ℕ) → first_fault fault xs ≡ None → first_fault fault (take k xs) ≡ None
first_fault-take fault xs k none =
    let joined = first_fault-join fault (take k xs) (drop k xs) in
    (no_fault_at_all _ _ (sym (rw (take-append-drop k xs) at joined) ∙ none)).0
