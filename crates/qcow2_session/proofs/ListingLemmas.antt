use Rattle.std.proofs.lemmas.Bool.Decides.{nat_tests}
use Rattle.std.proofs.Common.{◌≡◌, ◌≢◌, ◌⊎◌, ℕ, zero, suc, add-zero, inr, ◌+◌, ◌-◌, ◌*◌, ◌%◌, ◌^◌, ◌<◌, ◌≤◌, List, [], ◌∷◌, ◌++◌, length, get_or, map, take, Option, Result, Ok, Err, IsOkAnd, IsTrue, ap, sym, refl, ◌∙◌, append_assoc, append-nil, arith}
use Rattle.std.specs.List.{concat}
use Rattle.std.specs.Io.KnownBytes.{Appends}
use Rattle.std.proofs.KnownBytes.{Appends-nil, Appends-trans}
use Rattle.std.proofs.lemmas.List.{map-append}
use Rattle.std.proofs.lemmas.List.Folds.{concat-append}
use Rattle.std.proofs.lemmas.Nat.{mod-mul-add}
use Rattle.qcow2_base.specs.Storage.{Image, OnlyReads, StorageState}
use Rattle.qcow2_base.specs.declared.fault.Fault.{Fault}
use Rattle.qcow2_base.specs.declared.fault.Fault.TheVariants.{NoMemory, Storage}
use Rattle.qcow2_base.specs.declared.types.HostCluster.{HostCluster}
use Rattle.qcow2_metadata.specs.Header.{Geometry, geometry_of}
use Rattle.qcow2_metadata.specs.Table.{TableState, loaded_l2_table, mapping_at}
use Rattle.qcow2_metadata.specs.Entries.L2Mapping.{Mapping, mapping}
use Rattle.qcow2_session.proofs.OutputLemmas.{part-after}
use Rattle.qcow2_session.proofs.PrintingLemmas.{prints_no-more, read_fault-of, run_between, then_prints}
use Rattle.qcow2_session.specs.Commands.Printing.{OutputBytes, OutputGets, PrintsText, Run}
use Rattle.qcow2_session.specs.Commands.Entries.{IsTold, entry_line, entry_lines, label_text, table_lines}
use Rattle.qcow2_session.specs.Commands.List.{PrintsList, PrintsTables, PrintsTablesBefore, TableTexts, texts_left, texts_of}
use Rattle.qcow2_image.specs.BlankTables.{IsBlank}
use Rattle.qcow2_image.specs.L2Tables.{NamedTables, RefusesTable, WalkState, tables_left}
use Rattle.qcow2_session.specs.declared.commands.entries.Label.TheVariants.{Offset}

-- the lines of one more entry
entry_lines-take-suc : (label : ℕ → List ℕ) (g : Geometry) (from : ℕ) (xs : List ℕ) (i : ℕ) →
    i < length xs → entry_lines label g from (take (suc i) xs) ≡
    entry_lines label g from (take i xs) ++
    entry_line g.cluster_bits (label (from + i)) (mapping g (from + i) (get_or xs i 0))
entry_lines-take-suc label g from [] i below = absurd (omega arith)
entry_lines-take-suc label g from (x ∷ xs) zero below = simp (append-nil, add-zero)
entry_lines-take-suc label g from (x ∷ xs) (suc i) below =
    let place : from + 1 + i ≡ from + suc i = omega arith in
    let rest = rw place at (entry_lines-take-suc label g (from + 1) xs i (omega arith)) in
    let here = entry_line g.cluster_bits (label from) (mapping g from x) in
    ap (λ t. here ++ t) rest ∙ sym (append_assoc here _ _)

-- the lines of the first entries come first
entry_lines-begin : (label : ℕ → List ℕ) (g : Geometry) (from : ℕ) (xs : List ℕ) (i : ℕ) → (rest : List ℕ) × (entry_lines label g from xs ≡ entry_lines label g from (take i xs) ++ rest)
entry_lines-begin label g from xs zero = (entry_lines label g from xs, refl)
entry_lines-begin label g from [] (suc i) = ([], refl)
entry_lines-begin label g from (x ∷ xs) (suc i) =
    let others = entry_lines-begin label g (from + 1) xs i in
    let here = entry_line g.cluster_bits (label from) (mapping g from x) in
    (others.0, ap (λ t. here ++ t) others.1 ∙ sym (append_assoc here _ _))

-- after the lines of the entries before i comes that of entry i of the table for an L1 index
table_lines-more : (a b c : Option (List ℕ)) (label : ℕ → List ℕ) (g : Geometry) (index : ℕ) (xs : List ℕ) (i : ℕ) (found : Mapping) → i < length xs → length xs ≡ 2 ^ (g.cluster_bits - 3)
    → found ≡ mapping g (index * 2 ^ (g.cluster_bits - 3) + i) (get_or xs ((index * 2 ^ (g.cluster_bits - 3) + i) % 2 ^ (g.cluster_bits - 3)) 0)
    → Appends a b (entry_lines label g (index * 2 ^ (g.cluster_bits - 3)) (take i xs))
    → Appends b c (entry_line g.cluster_bits (label (index * 2 ^ (g.cluster_bits - 3) + i)) found)
    → Appends a c (entry_lines label g (index * 2 ^ (g.cluster_bits - 3)) (take (i + 1) xs))
table_lines-more a b c label g index xs i found below count is before here =
    grind (arith, mod-mul-add, Appends-trans, entry_lines-take-suc)

-- the line of an entry failed
pub table_lines-failed : {T U : Type 0} (fault : Fault) (a b c : Option (List ℕ)) (label : ℕ → List ℕ) (g : Geometry) (index : ℕ) (xs : List ℕ) (i : ℕ) (found : Mapping) → i < length xs → length xs ≡ 2 ^ (g.cluster_bits - 3)
    → found ≡ mapping g (index * 2 ^ (g.cluster_bits - 3) + i) (get_or xs ((index * 2 ^ (g.cluster_bits - 3) + i) % 2 ^ (g.cluster_bits - 3)) 0)
    → Appends a b (entry_lines label g (index * 2 ^ (g.cluster_bits - 3)) (take i xs))
    → PrintsText {T = U} (Err fault) b c (entry_line g.cluster_bits (label (index * 2 ^ (g.cluster_bits - 3) + i)) found)
    → PrintsText {T = T} (Err fault) a c (entry_lines label g (index * 2 ^ (g.cluster_bits - 3)) xs)
table_lines-failed fault a b c label g index xs i found below count is before failed =
    let first = index * 2 ^ (g.cluster_bits - 3) in
    let begin = entry_lines-begin label g first xs (suc i) in
    let next = entry_lines-take-suc label g first xs i below in
    let there : (first + i) % 2 ^ (g.cluster_bits - 3) ≡ i = grind (arith, mod-mul-add) in
    rw (begin.1, next) (prints_no-more fault a c _ begin.0 (then_prints (Err fault) a b c _ _ before (rw (is, there) at failed)))

-- entries without a line after one, as many as that
lines_of_run : (label : ℕ → List ℕ) (g : Geometry) (from : ℕ) (xs : List ℕ) (i n : ℕ) → i + n < length xs
    → ((k : ℕ) → 1 ≤ k → k ≤ n → entry_line g.cluster_bits (label (from + (i + k))) (mapping g (from + (i + k)) (get_or xs (i + k) 0)) ≡ [])
    → entry_lines label g from (take (suc (i + n)) xs) ≡ entry_lines label g from (take (suc i) xs)
lines_of_run label g from xs i zero below none = rw (add-zero i) refl
lines_of_run label g from xs i (suc n) below none =
    let place : i + suc n ≡ suc (i + n) = omega arith in
    let last = rw (none (suc n) (omega arith) (omega arith), append-nil) at (entry_lines-take-suc label g from xs (i + suc n) below) in
    last ∙ rw place (lines_of_run label g from xs i n (omega (arith, below)) (λ k some few. none k some (omega (arith, few))))

-- the lines of the entries before one of a table, that of its own, and none of those that are told with it
pub table_lines-told : (a b c : Option (List ℕ)) (label : ℕ → List ℕ) (table : TableState) (index i count : ℕ) (found : Mapping) → i < length table.numbers
    → length table.numbers ≡ 2 ^ (table.geometry.cluster_bits - 3) → found ≡ mapping_at table (index * 2 ^ (table.geometry.cluster_bits - 3) + i)
    → IsTold table (index * 2 ^ (table.geometry.cluster_bits - 3) + i) count
    → Appends a b (entry_lines label table.geometry (index * 2 ^ (table.geometry.cluster_bits - 3)) (take i table.numbers))
    → Appends b c (entry_line table.geometry.cluster_bits (label (index * 2 ^ (table.geometry.cluster_bits - 3) + i)) found)
    → (i + count ≤ length table.numbers) × Appends a c (entry_lines label table.geometry (index * 2 ^ (table.geometry.cluster_bits - 3)) (take (i + count) table.numbers))
table_lines-told a b c label table index i count found below full is told before here =
    let size = 2 ^ (table.geometry.cluster_bits - 3) in
    let first = index * size in
    let at : (k : ℕ) → i + k < size → (first + i + k) % size ≡ i + k = λ k inside.
    let moved : first + i + k ≡ first + (i + k) = omega arith in
    rw moved (mod-mul-add index size (i + k) inside) in
    let own : (first + i) % size ≡ i = mod-mul-add index size i (rw full at below) in
    let fits : i + count ≤ size = rw own at told.within in
    let last : i + (count - 1) < length table.numbers = rw full (omega (arith, fits, told.some)) in
    let end : i + count ≡ suc (i + (count - 1)) = omega (arith, told.some) in
    let none : (k : ℕ) → 1 ≤ k → k ≤ count - 1 → entry_line table.geometry.cluster_bits (label (first + (i + k))) (mapping table.geometry (first + (i + k)) (get_or table.numbers (i + k) 0)) ≡ [] = λ k some few.
    let moved : first + i + k ≡ first + (i + k) = omega arith in
    let left = rw (at k (omega (arith, few, told.some, fits)), moved) at (told.left k some (omega (arith, few, told.some))) in
    rw left refl in
    let one : suc i ≡ i + 1 = omega arith in (
      rw full fits,
      rw (end, lines_of_run label table.geometry first table.numbers i (count - 1) last none, one)
          (table_lines-more a b c label table.geometry index table.numbers i found below full is before here),
    )

-- a table that leaves all guest clusters to the backing file has no line
pub blank_lines : (label : ℕ → List ℕ) (g : Geometry) (from : ℕ) (xs : List ℕ) → IsBlank g xs → entry_lines label g from xs ≡ []
blank_lines label g from [] blank = refl
blank_lines label g from (x ∷ xs) blank =
    let rest = blank_lines label g (from + 1) xs (λ guest_cluster i below. blank guest_cluster (suc i) (omega (arith, below))) in
    rw (blank from 0 (omega arith), rest) refl

-- the lines of tables after those of others
pub tables-printed : (some more : List (List ℕ)) (a b c : Option (List ℕ)) → Appends a b (concat some) → Appends b c (concat more) → Appends a c (concat (some ++ more))
tables-printed some more a b c before here = rw (concat-append some more) (Appends-trans a b c _ _ before here)

-- tables that are known to load, and others
pub tables-known : (some more : List (List ℕ)) (rest all : TableTexts) → all ≡ map Ok some ++ (map Ok more ++ rest) → all ≡ map Ok (some ++ more) ++ rest
tables-known some more rest all are = rw (map-append {B = Result (List ℕ) Fault} Ok some more, append_assoc) are

-- the text of the tables that are left, by the first of them
pub texts-more : (left next : WalkState) (index : ℕ) (numbers : List ℕ) (image : Image) → next.header ≡ left.header
    → tables_left left image ≡ (index, Ok numbers) ∷ tables_left next image
    → texts_left left image ≡ Ok (table_lines Offset (geometry_of left.header) index numbers) ∷ texts_left next image
texts-more left next index numbers image header first = grind (arith, nat_tests)

-- one more table of a walk is printed
pub one-printed : (left next : WalkState) (index : ℕ) (cluster : HostCluster) (numbers : List ℕ) (image : Image) (all : TableTexts) (a b c : OutputBytes) → next.header ≡ left.header
    → tables_left left image ≡ (index, loaded_l2_table (geometry_of left.header) cluster image) ∷ tables_left next image
    → loaded_l2_table (geometry_of left.header) cluster image ≡ Ok numbers
    → (printed : List (List ℕ)) × (all ≡ map Ok printed ++ texts_left left image) × Appends a b (concat printed)
    → Appends b c (table_lines Offset (geometry_of left.header) index numbers)
    → (printed : List (List ℕ)) × (all ≡ map Ok printed ++ texts_left next image) × Appends a c (concat printed)
one-printed left next index cluster numbers image all a b c header passed loaded before here =
    let lines = table_lines Offset (geometry_of left.header) index numbers in
    let texts = texts-more left next index numbers image header (rw loaded at passed) in (
      before.0 ++ (lines ∷ []),
      tables-known before.0 (lines ∷ []) (texts_left next image) all (rw texts at before.1),
      tables-printed before.0 (lines ∷ []) a b c before.2 (rw (append-nil lines) here),
    )

-- and one that is blank, which has no line
pub blank-printed : (left next : WalkState) (index : ℕ) (cluster : HostCluster) (image : Image) (all : TableTexts) (a b : OutputBytes) → next.header ≡ left.header
    → tables_left left image ≡ (index, loaded_l2_table (geometry_of left.header) cluster image) ∷ tables_left next image
    → IsOkAnd (loaded_l2_table (geometry_of left.header) cluster image) (IsBlank (geometry_of left.header))
    → (printed : List (List ℕ)) × (all ≡ map Ok printed ++ texts_left left image) × Appends a b (concat printed)
    → (printed : List (List ℕ)) × (all ≡ map Ok printed ++ texts_left next image) × Appends a b (concat printed)
blank-printed left next index cluster image all a b header passed known before = by_load (loaded_l2_table (geometry_of left.header) cluster image) refl known
  where
    by_load : (load : Result (List ℕ) Fault) → loaded_l2_table (geometry_of left.header) cluster image ≡ load → IsOkAnd load (IsBlank (geometry_of left.header))
        → (printed : List (List ℕ)) × (all ≡ map Ok printed ++ texts_left next image) × Appends a b (concat printed)
    by_load (Ok numbers) loaded blank =
        let none = blank_lines (label_text Offset (left.header.v2.cluster_bits)) (geometry_of left.header) (index * 2 ^ (left.header.v2.cluster_bits - 3)) numbers blank in
        one-printed left next index cluster numbers image all a b b header passed loaded before (rw none (Appends-nil b))
    by_load (Err fault) loaded known = absurd known

-- the output failed in the lines of a table, after those of others were printed
pub ended-printing : {A O T : Type 0} (fault : Fault) (known : List (List ℕ)) (lines : List ℕ) (rest all : TableTexts) (run : Run A O) (b : OutputBytes)
    → all ≡ map Ok known ++ Ok lines ∷ rest → Appends (run.contents run.before) b (concat known)
    → PrintsText {T = T} (Err fault) b (run.contents run.after) lines → run.new.failures ≡ run.old.failures → PrintsTablesBefore fault run all
ended-printing fault known lines rest all run b are before failed calm = record {
  printed = known;
  table = Ok lines;
  rest = rest;
  are = are;
  why = inr ((failed.fault, calm), part-after _ b _ (concat known) lines before failed.part);
}

-- the print of tables ended at the first of those that are left
pub ended-at : {A O : Type 0} (fault : Fault) (g : Geometry) (known : List (List ℕ)) (left : NamedTables) (all : TableTexts) (run : Run A O)
    → all ≡ map Ok known ++ texts_of g left → OutputGets run (concat known) → RefusesTable left fault → (fault ≡ Storage → run.new.failures ≢ run.old.failures)
    → PrintsTablesBefore fault run all
ended-at fault g known [] all run are before refused failed = absurd refused
ended-at fault g known (table ∷ rest) all run are before refused failed =
    grind (arith, nat_tests, are, before, refused, failed)

-- and so after reads that returned a value
ended-after : {T A O : Type 0} (value : T) (fault : Fault) (tables : TableTexts) (run : Run A O) (between : StorageState)
    → OnlyReads (Ok value) run.old between → PrintsTablesBefore fault (record run { old = between }) tables → PrintsTablesBefore fault run tables
ended-after value fault tables run between reads ended = grind (arith, nat_tests, reads, ended)

-- tables that can't be loaded: nothing is printed
pub PrintsList-none : {A O : Type 0} (fault : Fault) (tables : Image → Result TableTexts Fault) (contents : O → OutputBytes) (old new : StorageState) (a : O)
    → (IsTrue old.tells → (fault ≡ Storage) ⊎ (fault ≡ NoMemory) ⊎ (tables old.byte_at ≡ Err fault)) → (fault ≡ Storage → new.failures ≢ old.failures)
    → PrintsList {A = A} (run_between contents (Err fault) old new a a) tables
PrintsList-none fault tables contents old new a refused failed = grind (arith, nat_tests, read_fault-of, Appends-nil, refused, failed)

-- the tables that an L1 table names, after that was loaded
pub PrintsList-tables : {A O V : Type 0} (value : V) (answer : Result A Fault) (tables : Image → Result TableTexts Fault) (each : Image → TableTexts) (contents : O → OutputBytes) (old between new : StorageState) (a b : O)
    → (IsTrue old.tells → tables old.byte_at ≡ Ok (each old.byte_at)) → OnlyReads (Ok value) old between
    → PrintsTables (run_between contents answer between new a b) each → PrintsList (run_between contents answer old new a b) tables
PrintsList-tables value (Ok done) tables each contents old between new a b are reads prints = grind (arith, nat_tests, are, reads.device, reads.bytes, prints.lines)
PrintsList-tables {A = A} value (Err fault) tables each contents old between new a b are reads prints =
    grind (arith, nat_tests, are, reads.device, reads.bytes, prints.refused, ended-after value fault (each old.byte_at) (run_between {A = A} contents (Err fault) old new a b) between reads)
