use Rattle.std.proofs.Common.{◌≡◌, ◌≢◌, ℕ, zero, suc, true, ◌+◌, ◌-◌, ◌*◌, ◌/◌, ◌%◌, ◌<◌, ◌≤◌, List, [], ◌∷◌, ◌++◌, map, length, slice_index, length-set, None, Option, inl, inr, refl, ap, sym, subst, ◌∙◌, map-id, arith}
use Rattle.std.proofs.lemmas.Bool.{cases_eq}
use Rattle.std.proofs.lemmas.Bool.Decides.{nat_tests}
use Rattle.std.proofs.lemmas.List.{get_or-set_other, get_or-set_same}
use Rattle.std.proofs.lemmas.Nat.{div-add-mod', mod-mul-add, pow_pos}
use Rattle.std.proofs.lemmas.Simd.{map-map}
use Rattle.std.specs.List.{range_with_len}
use Rattle.qcow2_base.specs.Types.{IsClusterBits}
use Rattle.qcow2_base.specs.declared.fault.Fault.{Fault}
use Rattle.qcow2_metadata.proofs.TableLemmas.{first_fault-set, no_fault_item}
use Rattle.qcow2_metadata.specs.Entries.L2Entry.{l2_fault}
use Rattle.qcow2_metadata.specs.Header.{Geometry, HeaderRecord, geometry_of}
use Rattle.qcow2_metadata.specs.Table.{first_fault, l2_entries}
use Rattle.qcow2_metadata.specs.Table.L2Guards.{TableEdit, after_edit, can_be_made, entry_after, fits_table, run_of}
use Rattle.qcow2_edits.specs.Edits.{table_edit}
use Rattle.qcow2_edits.specs.declared.edits.Edit.{Edit}
use Rattle.qcow2_apply.specs.GuestEdits.{edit_at, edits_by, table_end, table_start}
use Rattle.qcow2_apply.specs.Tables.{AreMade, run_in}
use Rattle.qcow2_apply.specs.declared.guest_edits.GuestEdit.{GuestEdit}
use Rattle.qcow2_apply.specs.declared.guest_edits.GuestEdit.TheVariants.{Discard, Map, Zero}
use Rattle.qcow2_session.proofs.EditedEntryLemmas.{edited-lawful}

-- an edit leaves as many numbers, and so do edits
length-after : (g : Geometry) (e : TableEdit) (numbers : List ℕ) → length (after_edit g e numbers) ≡ length numbers
length-after g e numbers = length-set numbers e.index (entry_after g e.edit (slice_index numbers e.index))

pub length-run : (g : Geometry) (edits : List TableEdit) (numbers : List ℕ) → length (run_of g edits numbers).numbers ≡ length numbers
length-run g [] numbers = refl
length-run g (e ∷ edits) numbers = length-run g edits (after_edit g e numbers) ∙ length-after g e numbers

-- the numbers that edits leave after others
pub run-append : (g : Geometry) (before later : List TableEdit) (numbers : List ℕ)
    → (run_of g (before ++ later) numbers).numbers ≡ (run_of g later (run_of g before numbers).numbers).numbers
run-append g [] later numbers = refl
run-append g (e ∷ before) later numbers = run-append g before later (after_edit g e numbers)

-- edits in a row leave an entry that none of them names
run-elsewhere : (g : Geometry) (f : ℕ → TableEdit) (start count k : ℕ) (numbers : List ℕ)
    → ((x : ℕ) → start ≤ x → x < start + count → (f x).index ≢ k)
    → slice_index (run_of g (map f (range_with_len start count)) numbers).numbers k ≡ slice_index numbers k
run-elsewhere g f start zero k numbers differs = refl
run-elsewhere g f start (suc count) k numbers differs =
    run-elsewhere g f (start + 1) count k (after_edit g (f start) numbers) (λ x from below. differs x (omega (arith, from)) (omega (arith, below)))
    ∙ get_or-set_other numbers (f start).index k (entry_after g (f start).edit (slice_index numbers (f start).index)) 0
    (λ same. differs start (omega arith) (omega arith) (sym same))

-- of edits in a row the one that names an entry changes it
run-there : (g : Geometry) (f : ℕ → TableEdit) (start count at k : ℕ) (numbers : List ℕ) → start ≤ at → at < start + count → (f at).index ≡ k
    → ((x : ℕ) → start ≤ x → x < start + count → x ≢ at → (f x).index ≢ k) → k < length numbers
    → slice_index (run_of g (map f (range_with_len start count)) numbers).numbers k ≡ entry_after g (f at).edit (slice_index numbers k)
run-there g f start zero at k numbers from below names differs within = absurd (omega (arith, from, below))
run-there g f start (suc count) at k numbers from below names differs within = elim (cases_eq start at) [
  | inl here ↦
      let named : (f start).index ≡ k = ap (λ x. (f x).index) here ∙ names in
      run-elsewhere g f (start + 1) count k (after_edit g (f start) numbers)
      (λ x later before. differs x (omega (arith, later)) (omega (arith, before)) (λ same. absurd (omega (arith, same, later, here))))
      ∙ set-there (f start) named ∙ ap (λ x. entry_after g (f x).edit (slice_index numbers k)) here
  | inr other ↦
      run-there g f (start + 1) count at k (after_edit g (f start) numbers) (omega (arith, from, other)) (omega (arith, below)) names
      (λ x later before apart. differs x (omega (arith, later)) (omega (arith, before)) apart) (omega (arith, length-after g (f start) numbers, within))
      ∙ ap (entry_after g (f at).edit) (get_or-set_other numbers (f start).index k (entry_after g (f start).edit (slice_index numbers (f start).index)) 0
      (λ same. differs start (omega arith) (omega arith) other (sym same)))
]
  where
    set-there : (e : TableEdit) → e.index ≡ k → slice_index (after_edit g e numbers) k ≡ entry_after g e.edit (slice_index numbers k)
    set-there e named =
        subst (λ j. slice_index (after_edit g e numbers) j ≡ entry_after g e.edit (slice_index numbers j)) named
        (get_or-set_same numbers e.index (entry_after g e.edit (slice_index numbers e.index)) 0 (omega (arith, named, within)))

-- the index in its table of a guest cluster of that table
index-in : (table n x : ℕ) → table * n ≤ x → x < table * n + n → x % n ≡ x - table * n
index-in table n x from below =
    let whole : x ≡ table * n + (x - table * n) = omega (arith, from) in
    ap (λ y. y % n) whole ∙ mod-mul-add table n (x - table * n) (omega (arith, from, below))

-- the edit of an entry is that of its index
index-of : (edit : GuestEdit) (index : ℕ) → (table_edit (edit_at edit index)).index ≡ index
index-of (Map offset host_cluster) index = refl
index-of (Zero offset size keep_allocation) index = refl
index-of (Discard offset size) index = refl

-- a guest cluster is one of the table that its entry is in
in-table : (n x : ℕ) → 0 < n → (x / n * n ≤ x) × (x < x / n * n + n) × (x % n < n)
in-table n x some = let parts = div-add-mod' x n in
    let rest : x % n < n = mod-below in (omega (arith, parts), omega (arith, parts, rest), rest)
  where
    mod-below : x % n < n
    mod-below = grind (arith, some)

-- the edits of a table by an edit of the disk change the entry of a guest cluster that is one of the edit's, and no other
abbrev change_of : ℕ → GuestEdit → ℕ → TableEdit
change_of cb edit x = table_edit (edit_at edit (x % l2_entries cb))

as-row : (g : Geometry) (cb table : ℕ) (edit : GuestEdit) (numbers : List ℕ)
    → run_of g (map table_edit (edits_by cb table edit)) numbers
    ≡ run_of g (map (change_of cb edit) (range_with_len (table_start cb table edit) (table_end cb table edit - table_start cb table edit))) numbers
as-row g cb table edit numbers = ap (λ edits. run_of g edits numbers)
    (map-map table_edit (λ x. edit_at edit (x % l2_entries cb)) (range_with_len (table_start cb table edit) (table_end cb table edit - table_start cb table edit)))

-- two guest clusters of a table have two entries
entries-differ : (cb table : ℕ) (edit : GuestEdit) (x at : ℕ) → table * l2_entries cb ≤ x → x < table * l2_entries cb + l2_entries cb
    → table * l2_entries cb ≤ at → at < table * l2_entries cb + l2_entries cb → x ≢ at → (change_of cb edit x).index ≢ at % l2_entries cb
entries-differ cb table edit x at from below from' below' differs same =
    let n = l2_entries cb in
    let one = index-in table n x from below in
    let other = index-in table n at from' below' in
    let equal : x % n ≡ at % n = sym (index-of edit (x % n)) ∙ same in
    differs (omega (arith, one, other, equal, from, from'))

pub edits-there : (g : Geometry) (cb : ℕ) (edit : GuestEdit) (at : ℕ) (numbers : List ℕ) → length numbers ≡ l2_entries cb
    → table_start cb (at / l2_entries cb) edit ≤ at → at < table_end cb (at / l2_entries cb) edit
    → slice_index (run_of g (map table_edit (edits_by cb (at / l2_entries cb) edit)) numbers).numbers (at % l2_entries cb)
    ≡ entry_after g (table_edit (edit_at edit (at % l2_entries cb))).edit (slice_index numbers (at % l2_entries cb))
edits-there g cb edit at numbers full from below =
    let n = l2_entries cb in
    let table = at / n in
    let start = table_start cb table edit in
    let count = table_end cb table edit - start in
    let here = in-table n at (pow_pos _) in
    ap (λ end. slice_index end.numbers (at % n)) (as-row g cb table edit numbers)
    ∙ run-there g (change_of cb edit) start count at (at % n) numbers from (omega (arith, from, below)) (index-of edit (at % n))
    (λ x from' below' differs. entries-differ cb table edit x at (grind (arith, nat_tests, from')) (grind (arith, nat_tests, below', from, below)) here.0 here.1 differs)
    (omega (arith, full, here.2))

pub edits-elsewhere : (g : Geometry) (cb : ℕ) (edit : GuestEdit) (at : ℕ) (numbers : List ℕ)
    → ((table_start cb (at / l2_entries cb) edit ≤ at → at < table_end cb (at / l2_entries cb) edit → ⊥))
    → slice_index (run_of g (map table_edit (edits_by cb (at / l2_entries cb) edit)) numbers).numbers (at % l2_entries cb)
    ≡ slice_index numbers (at % l2_entries cb)
edits-elsewhere g cb edit at numbers outside =
    let n = l2_entries cb in
    let table = at / n in
    let start = table_start cb table edit in
    let count = table_end cb table edit - start in
    let here = in-table n at (pow_pos _) in
    ap (λ end. slice_index end.numbers (at % n)) (as-row g cb table edit numbers)
    ∙ run-elsewhere g (change_of cb edit) start count (at % n) numbers
    (λ x from below. entries-differ cb table edit x at (grind (arith, nat_tests, from)) (grind (arith, nat_tests, below, from)) here.0 here.1
    (λ same. outside (omega (arith, from, same)) (omega (arith, below, from, same))))

-- edits that can be made leave a table that can be loaded
lawful-at : (fault : ℕ → Option Fault) (numbers : List ℕ) (i : ℕ) → first_fault fault numbers ≡ None → i < length numbers → fault (slice_index numbers i) ≡ None
lawful-at fault numbers i none below = no_fault_item (λ (v : ℕ). v) fault numbers i 0 (rw map-id none) below

pub run-lawful : (header : HeaderRecord) (edits : List Edit) (numbers : List ℕ) → IsClusterBits header.v2.cluster_bits → AreMade header edits
    → length numbers ≡ l2_entries header.v2.cluster_bits → first_fault (l2_fault header.v2.cluster_bits) numbers ≡ None
    → first_fault (l2_fault header.v2.cluster_bits) (run_in header edits numbers).numbers ≡ None
run-lawful header [] numbers bits made full none = none
run-lawful header (edit ∷ edits) numbers bits made full none =
    let g = geometry_of header in
    let cb = header.v2.cluster_bits in
    let e = table_edit edit in
    let fits : fits_table g (l2_entries cb) e ≡ true = made 0 edit (omega arith) in
    let within : e.index < l2_entries cb = grind (arith, nat_tests, fits) in
    let can : can_be_made g e.edit ≡ true = grind (arith, nat_tests, fits) in
    let was = lawful-at (l2_fault cb) numbers e.index none (omega (arith, within, full)) in
    let is = edited-lawful header e.edit (slice_index numbers e.index) bits can was in
    run-lawful header edits (after_edit g e numbers) bits (λ k d below. made (suc k) d (omega (arith, below))) (length-after g e numbers ∙ full)
    (first_fault-set (l2_fault cb) numbers e.index (entry_after g e.edit (slice_index numbers e.index)) none is)
