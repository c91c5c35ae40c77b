use Rattle.std.proofs.Common.{◌≡◌, ℕ, zero, suc, Bool, true, false, ◌==◌, ◌+◌, ◌-◌, ◌*◌, ◌^◌, ◌<◌, ◌≤◌, List, [], ◌∷◌, ◌++◌, drop, flat_map, get_or, length, map, set, take, Result, Ok, IsTrue, ap, refl, sym, ◌∙◌, arith}
use native.Mathlib.Numerals.{unary_clauses}
use Rattle.std.proofs.Math.Pow.{pow_mono}
use Rattle.std.proofs.lemmas.Grind.{flat_map-append}
use Rattle.std.proofs.lemmas.List.{map-append}
use Rattle.std.proofs.lemmas.Nat.{mul-lt}
use Rattle.qcow2_base.specs.Storage.{Image, OnImage, OnlyReads, StorageState}
use Rattle.qcow2_base.specs.declared.fault.Fault.{Fault}
use Rattle.qcow2_check.proofs.FlagsLemmas.{guest_offset_fits}
use Rattle.qcow2_check.specs.Counters.{CountersState, IsSameButBlock, counter_of, placed_reftable}
use Rattle.qcow2_check.specs.NamedTables.{loaded_l1_table}
use Rattle.qcow2_check.specs.Uses.{image_tables}
use Rattle.qcow2_check.specs.Walk.{tables_list}
use Rattle.qcow2_check.specs.declared.uses.Use.{Use}
use Rattle.qcow2_check.specs.declared.uses.UseKind.{UseKind}
use Rattle.qcow2_check.specs.declared.uses.UseKind.TheVariants as kind
use Rattle.qcow2_metadata.specs.Header.{HeaderRecord}
use Rattle.qcow2_metadata.specs.Results.{and_then, result_map}
use Rattle.qcow2_session.proofs.PrintingLemmas.{prints_no-more, then_prints}
use Rattle.qcow2_session.specs.Commands.Tables.{AddsRows, RowsState, counted_row, counting_row, image_rows, key_rows, mapping_row, rows_of}
use Rattle.qcow2_session.specs.declared.commands.tables.TableLine.{TableLine}

-- what an L2 table maps begins at an offset that fits 64 bits
pub ruleset table_starts = (guest_offset_fits)

-- the number of bytes that an L2 table maps fits 64 bits
pub mapped_fits : (cb : ℕ) → cb ≤ 21 → 2 ^ (cb - 3) * 2 ^ cb < 2 ^ 64
mapped_fits cb low =
    let few : cb - 3 ≤ 18 = omega (arith, low) in
    let entries : 2 ^ (cb - 3) ≤ 2 ^ 18 = pow_mono few in
    let size : 2 ^ cb ≤ 2 ^ 21 = pow_mono low in
    let all = mul-lt (2 ^ (cb - 3)) (2 ^ cb) (2 ^ 18 + 1) (2 ^ 21 + 1) (omega (arith, entries)) (omega (arith, size)) in
    omega (arith, all)

-- the first cluster that a block counts fits 64 bits
pub block_start_fits : (bits index : ℕ) → bits ≤ 24 → index < 4194304 → index * 2 ^ bits < 2 ^ 64
block_start_fits bits index low below =
    let each : 2 ^ bits ≤ 2 ^ 24 = pow_mono low in
    let all = mul-lt index (2 ^ bits) 4194304 (2 ^ 24 + 1) below (omega (arith, each)) in
    omega (arith, all)

-- rows of which the first had their counters read
abbrev pub rows_read : (TableLine → TableLine) → List TableLine → ℕ → List TableLine
rows_read read rows i = map read (take i rows) ++ drop i rows

read-next : (read : TableLine → TableLine) (rows : List TableLine) (i : ℕ) (default : TableLine) → i < length rows
    → set (rows_read read rows i) i (read (get_or (rows_read read rows i) i default)) ≡ rows_read read rows (i + 1)
read-next read [] i default below = let never : ⊥ = omega (arith, below) in elim never [ ]
read-next read (row ∷ rows) zero default below = refl
read-next read (row ∷ rows) (suc i) default below =
    simp unary_clauses (ap (λ rest. read row ∷ rest) (simp unary_clauses at (read-next read rows i default (omega (arith, below)))))

-- an answer that is the expected value is that value
abbrev pub IsAnswer : {X : Type 0} → X → X → Type 0
IsAnswer {X} meant value = ◌≡◌ {A = Result X Fault} (Ok meant) (Ok value)

same : {X : Type 0} (meant value : X) → IsAnswer meant value → meant ≡ value
same meant value is = grind (arith, is)

-- those rows, and the next, whose counter is read after others
pub rows-more : {T : Type 0} (x : T) (image mid : StorageState) (old now : CountersState) (rows so_far : List TableLine) (i : ℕ) (default row : TableLine)
    → i < length rows → IsTrue image.tells → OnlyReads (Ok x) image mid → IsSameButBlock image old now
    → OnImage mid (λ bytes. IsAnswer (counted_row (counter_of now.header now.reftable bytes) (get_or so_far i default)) row)
    → so_far ≡ rows_read (counted_row (counter_of old.header old.reftable image.byte_at)) rows i
    → set so_far i row ≡ rows_read (counted_row (counter_of old.header old.reftable image.byte_at)) rows (i + 1)
rows-more x image mid old now rows so_far i default row below told reads kept exact before =
    let read = λ (counters : CountersState) (bytes : Image). counted_row (counter_of counters.header counters.reftable bytes) in
    let reads_same : read now mid.byte_at ≡ read old image.byte_at = ap (λ (counters : CountersState). read counters mid.byte_at) kept.same ∙ ap (read old) reads.bytes in
    let next : row ≡ read old image.byte_at (get_or so_far i default) =
    sym (same _ _ (exact (rw reads.device.tells told))) ∙ ap (λ f. f (get_or so_far i default)) reads_same in
    rw (next, before) (read-next (read old image.byte_at) rows i default below)

-- a use's row after its counter was read
counted-row : (header : HeaderRecord) (counter : ℕ → ℕ) (used : Use) → map (counted_row counter) (mapping_row header (λ c. 0) used) ≡ mapping_row header counter used
counted-row header counter used = by_kind used.kind refl
  where
    keys-counted : (none : Bool) → used.clusters.count.0 == 0 ≡ none
        → map (counted_row counter) (key_rows used.clusters.first used.clusters.count.0) ≡ key_rows used.clusters.first used.clusters.count.0
    keys-counted true is = rw is refl
    keys-counted false is = rw is refl

    by_kind : (k : UseKind) → used.kind ≡ k → map (counted_row counter) (mapping_row header (λ c. 0) used) ≡ mapping_row header counter used
    by_kind kind.L2Table is = rw is refl
    by_kind kind.Header is = rw is refl
    by_kind kind.L1Table is = rw is refl
    by_kind kind.RefcountTable is = rw is refl
    by_kind kind.EncryptionHeader is = rw is (keys-counted (used.clusters.count.0 == 0) refl)
    by_kind kind.RefcountBlock is = rw is refl
    by_kind kind.Data is = rw is refl
    by_kind kind.Compressed is = rw is refl

-- those of all uses
pub counted-rows : (header : HeaderRecord) (counter : ℕ → ℕ) (uses : List Use)
    → map (counted_row counter) (flat_map (mapping_row header (λ c. 0)) uses) ≡ flat_map (mapping_row header counter) uses
counted-rows header counter [] = refl
counted-rows header counter (used ∷ uses) = grind (arith, map-append, counted-row header counter used, counted-rows header counter uses)

-- all rows, by what was read in turn
pub all-rows : (header : HeaderRecord) (old mid : Image) (l1 reftable : List ℕ) (walked : RowsState) (mapping : List TableLine) → loaded_l1_table header old ≡ Ok l1
    → placed_reftable header old ≡ Ok reftable → mid ≡ old
    → AddsRows (tables_list (image_tables header l1 reftable)) (record { header = header; mapping = []; counting = [] }) walked
    → IsAnswer (map (counted_row (counter_of header reftable mid)) walked.mapping) mapping → image_rows header old ≡ Ok (mapping ++ walked.counting)
all-rows header old mid l1 reftable walked mapping loads places bytes adds read =
    let uses = tables_list (image_tables header l1 reftable) in
    let counter = counter_of header reftable old in
    let first : mapping ≡ flat_map (mapping_row header counter) uses = sym (same _ _ read)
    ∙ ap (λ (image : Image). map (counted_row (counter_of header reftable image)) walked.mapping) bytes
    ∙ ap (λ (rows : RowsState). map (counted_row counter) rows.mapping) adds ∙ counted-rows header counter uses in
    let last : walked.counting ≡ flat_map (counting_row header) uses = ap (λ (rows : RowsState). rows.counting) adds in
    ap (λ numbers. and_then numbers (λ l1. result_map (λ named. rows_of (image_tables header l1 named) old) (placed_reftable header old))) loads
    ∙ ap (result_map (λ named. rows_of (image_tables header l1 named) old)) places
    ∙ ap Ok (sym (ap (λ rows. rows ++ walked.counting) first ∙ ap (λ rows. flat_map (mapping_row header counter) uses ++ rows) last))

-- two lists of rows are printed after each other
pub ruleset rows_printed = (then_prints, prints_no-more, flat_map-append)
