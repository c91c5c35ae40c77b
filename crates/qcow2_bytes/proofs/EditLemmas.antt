use Rattle.std.proofs.Common.{◌≡◌, ℕ, ◌+◌, ◌*◌, ◌%◌, ◌==◌, ◌^◌, IsTrue, Ok, ◌<◌, ◌≤◌, List, [], ◌∷◌, slice_index, zero-add, ◌++◌, get_or, length, map, set, take, Result, refl, sym, ◌∙◌, ap, zero-mul, arith}
use Rattle.std.proofs.lemmas.Bool.Decides.{nat_tests}
use Rattle.std.proofs.lemmas.List.{length-map, length-take, map-append, take_all, take_more}
use Rattle.qcow2_base.specs.Storage.{Image, be, image_of}
use Rattle.qcow2_base.specs.Types.{IsClusterBits}
use Rattle.qcow2_base.specs.declared.fault.Fault.{Fault}
use Rattle.qcow2_edits.specs.Edits.{edits_left, edits_or_refusal}
use Rattle.qcow2_edits.specs.declared.edits.Edit.{Edit}
use Rattle.qcow2_edits.specs.declared.edits.Outcome.{Outcome}
use Rattle.qcow2_metadata.specs.Header.{Geometry}
use Rattle.qcow2_metadata.specs.Placed.{new_placed}
use Rattle.qcow2_metadata.specs.Table.{TableState, l2_entries, table_numbers}
use Rattle.qcow2_metadata.specs.Table.L2Guards.{RunEnd}
use Rattle.qcow2_metadata.proofs.TableLemmas.{full_cluster}
use Rattle.qcow2_metadata.proofs.TablePiecesLemmas.{numbers_stand}
use Rattle.qcow2_bytes.proofs.ExtentsLemmas.{put-more}
use Rattle.qcow2_bytes.specs.Images.Extents.{IsPutOver}
use Rattle.qcow2_bytes.specs.Tables.Edit.{AnswersEdits, EditPlaces, HoldsRun, edit_said, run_of_bytes}
use Rattle.qcow2_bytes.specs.declared.tables.edit.EditCounts.{EditCounts}
use Rattle.qcow2_bytes.specs.declared.tables.edit.EditFields.{EditFields}

-- the next item of a list is put
pub put-next : {T U : Type 0} (f : T → U) (items : List T) (i : ℕ) (d : T) (old new : List U) (item : U)
    → i < length items → length items ≤ length old → item ≡ f (get_or items i d)
    → IsPutOver (map f (take i items)) old new → IsPutOver (map f (take (i + 1) items)) old (set new i item)
put-next f items i d old new item below room is put =
    let count : length (map f (take i items)) ≡ i = length-map (take i items) f ∙ omega (arith, length-take i items, below) in
    let more : map f (take (i + 1) items) ≡ map f (take i items) ++ item ∷ [] =
    ap (map f) (take_more items i d below) ∙ map-append f (take i items) (get_or items i d ∷ []) ∙ ap (λ x. map f (take i items) ++ x ∷ []) (sym is) in
    rw more (rw count at (put-more (map f (take i items)) old new item (omega (arith, count, below, room)) put))

-- the numbers of the table at the begin of an image that has these bytes
pub first_table : (image : Image) (bytes : List ℕ) (cb n m : ℕ) → image ≡ image_of bytes → n ≡ m
    → table_numbers image (0 * 2 ^ cb) n ≡ table_numbers (image_of bytes) 0 m
first_table image bytes cb n m same count =
    ap (λ (there : Image). table_numbers there (0 * 2 ^ cb) n) same ∙ ap (λ (offset : ℕ). table_numbers (image_of bytes) offset n) (zero-mul (2 ^ cb))
    ∙ ap (λ (k : ℕ). table_numbers (image_of bytes) 0 k) count

-- what edits leave of a table that was read from bytes, is what they leave of the bytes
pub run-loaded : (g : Geometry) (edits : List EditFields) (bytes : List ℕ) (table : TableState) (items : List Edit) (answer : Result RunEnd Fault)
    → table.geometry ≡ g → table.numbers ≡ table_numbers (image_of bytes) 0 (l2_entries g.cluster_bits)
    → items ≡ map (edit_said g.cluster_bits) edits → edits_or_refusal table items ≡ answer → run_of_bytes g edits bytes ≡ answer
run-loaded g edits bytes table items answer geometry numbers said left =
    let left_of = λ (ns : List ℕ) (h : Geometry) (es : List Edit). edits_or_refusal (new_placed ns h) es in
    ap (λ (ns : List ℕ). left_of ns g (map (edit_said g.cluster_bits) edits)) (sym numbers)
    ∙ ap (λ (h : Geometry). left_of table.numbers h (map (edit_said g.cluster_bits) edits)) (sym geometry)
    ∙ ap (λ (es : List Edit). left_of table.numbers table.geometry es) (sym said)
    ∙ left

-- bytes that have each of a table's numbers, have them all
pub all-stand : (image : Image) (numbers : List ℕ) (n : ℕ) → n ≡ length numbers → ((i : ℕ) → i < length numbers → be image (8 * i) 8 ≡ slice_index numbers i)
    → table_numbers image 0 n ≡ numbers
all-stand image numbers n count each =
    ap (λ (k : ℕ). table_numbers image 0 k) count
    ∙ numbers_stand image 0 (length numbers) numbers (omega arith) (λ i below. ap (λ (offset : ℕ). be image offset 8) (zero-add (8 * i)) ∙ each i below)
    ∙ take_all (length numbers) numbers (omega arith)

-- an L2 table fills a cluster
pub entry_bytes : (cb n : ℕ) → IsClusterBits cb → IsTrue (n == l2_entries cb) → 8 * n ≡ 2 ^ cb
entry_bytes cb n bits is =
    let same : n ≡ l2_entries cb = grind (arith, nat_tests, is) in
    ap (λ (k : ℕ). 8 * k) same ∙ full_cluster cb bits.0

-- so its bytes are whole entries
pub whole_entries : (cb n : ℕ) → IsClusterBits cb → n ≡ 2 ^ cb → n % 8 ≡ 0
whole_entries cb n bits is = omega (arith, is, full_cluster cb bits.0)

-- edits were put where there is room for what they did to references
pub answers-put : (g : Geometry) (table : TableState) (outcome : Outcome) (counts : EditCounts) (old new : EditPlaces)
    → counts.freed ≡ length outcome.freed.items → counts.gained ≡ length outcome.gained.items
    → counts.freed ≤ length old.freed → counts.gained ≤ length old.gained → HoldsRun g (edits_left table outcome) old new
    → AnswersEdits g (Ok (edits_left table outcome)) old new (Ok counts)
answers-put g table outcome counts old new freed gained first second edited =
    (edits_left table outcome, refl, grind (arith, freed, gained, length-map), grind (arith, nat_tests, first, second), edited)
