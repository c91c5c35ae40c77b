use Rattle.std.proofs.Common.{◌≡◌, ℕ, true, false, ◌+◌, ◌*◌, ◌/◌, ◌%◌, ◌^◌, ◌<◌, ◌≤◌, ◌&&◌, nat_le, nat_lt, if◌then◌else◌, List, [], ◌∷◌, ◌++◌, map, length, slice_index, inl, inr, ◌⊎◌, refl, ap, sym, ◌∙◌, arith}
use Rattle.std.proofs.Math.Nat.{div-lt_iff_lt-mul}
use Rattle.std.proofs.lemmas.Bool.{cases_Bool, cases_lt}
use Rattle.std.proofs.lemmas.Bool.Decides.{nat_tests}
use Rattle.std.proofs.lemmas.List.{map-append}
use Rattle.std.proofs.lemmas.Nat.{div-add-mod', pow_pos}
use Rattle.qcow2_base.specs.Types.{IsClusterBits}
use Rattle.qcow2_metadata.specs.Entries.L2Mapping.{mapping}
use Rattle.qcow2_metadata.specs.Header.{HeaderRecord, geometry_of}
use Rattle.qcow2_metadata.specs.Table.{l2_entries}
use Rattle.qcow2_metadata.specs.Table.L2Guards.{run_of}
use Rattle.qcow2_edits.specs.Edits.{table_edit}
use Rattle.qcow2_apply.proofs.TablesLemmas.{unfit-none}
use Rattle.qcow2_apply.specs.GuestEdits.{cluster_end, edits_by, edits_in, first_cluster, guest_edit_fits, guest_length, guest_offset, is_mappable_by, table_end, table_start}
use Rattle.qcow2_apply.specs.Tables.{AllFit, run_in}
use Rattle.qcow2_apply.specs.declared.guest_edits.GuestEdit.{GuestEdit}
use Rattle.qcow2_session.proofs.EditedEntryLemmas.{edited-reads}
use Rattle.qcow2_session.proofs.EditedTableLemmas.{edits-elsewhere, edits-there, length-run, run-append}
use Rattle.qcow2_session.specs.EditedDisk.{covers, mapping_after, mapping_left}

-- a range of whole clusters has a byte where its clusters have that of the byte
covered : (p start size o : ℕ) → 0 < p → start % p ≡ 0 → size % p ≡ 0
    → (nat_le start o && nat_lt o (start + size)) ≡ (nat_le (start / p) (o / p) && nat_lt (o / p) (start / p + size / p))
covered p start size o some aligned whole =
    let first = div-add-mod' start p in
    let all = div-add-mod' size p in
    let low : (o / p < start / p) × (o < start / p * p) ⊎ (start / p ≤ o / p) × (start / p * p ≤ o) = bound (start / p) in
    let high : (o / p < start / p + size / p) × (o < (start / p + size / p) * p) ⊎ (start / p + size / p ≤ o / p) × ((start / p + size / p) * p ≤ o) = bound (start / p + size / p) in
    let sum : (start / p + size / p) * p ≡ start / p * p + size / p * p = omega arith in
    grind (arith, nat_tests, first, all, low, high, sum, aligned, whole)
  where
    bound : (n : ℕ) → (o / p < n) × (o < n * p) ⊎ (n ≤ o / p) × (n * p ≤ o)
    bound n = elim (cases_lt (o / p) n) [
      | inl less ↦ inl (less, (div-lt_iff_lt-mul some).0 less)
      | inr least ↦ elim (cases_lt o (n * p)) [
        | inl less ↦ absurd (omega (arith, least, (div-lt_iff_lt-mul some).1 less))
        | inr past ↦ inr (least, past)
      ]
    ]

covers-cluster : (header : HeaderRecord) (edit : GuestEdit) (o : ℕ) → guest_edit_fits header edit ≡ true
    → covers header.v2.cluster_bits o edit
    ≡ (nat_le (first_cluster header.v2.cluster_bits edit) (o / 2 ^ header.v2.cluster_bits)
    && nat_lt (o / 2 ^ header.v2.cluster_bits) (cluster_end header.v2.cluster_bits edit))
covers-cluster header edit o fits =
    let cb = header.v2.cluster_bits in
    covered (2 ^ cb) (guest_offset edit).0 (guest_length cb edit) o (pow_pos cb) (grind (arith, nat_tests, fits)) (grind (arith, nat_tests, fits))

-- of edits that all fit the first does and the others do
pub fit-first : (header : HeaderRecord) (edit : GuestEdit) (edits : List GuestEdit) → AllFit header (edit ∷ edits)
    → (guest_edit_fits header edit ≡ true) × AllFit header edits
fit-first header edit edits fit = unfit-none (guest_edit_fits header) edit edits fit

-- a guest cluster that an edit has is one of the edit's in its table
pub in-edit : (header : HeaderRecord) (edit : GuestEdit) (o : ℕ) → guest_edit_fits header edit ≡ true → covers header.v2.cluster_bits o edit ≡ true
    → let cb = header.v2.cluster_bits in let at = o / 2 ^ cb in
    (table_start cb (at / l2_entries cb) edit ≤ at) × (at < table_end cb (at / l2_entries cb) edit)
in-edit header edit o fits covers =
    let cb = header.v2.cluster_bits in
    let at = o / 2 ^ cb in
    let n = l2_entries cb in
    let has = sym (covers-cluster header edit o fits) ∙ covers in
    let whole = div-add-mod' at n in
    let rest : at % n < n = grind (arith, pow_pos) in
    (grind (arith, nat_tests, has, whole), grind (arith, nat_tests, has, whole, rest))

off-edit : (header : HeaderRecord) (edit : GuestEdit) (o : ℕ) → guest_edit_fits header edit ≡ true → covers header.v2.cluster_bits o edit ≡ false
    → let cb = header.v2.cluster_bits in let at = o / 2 ^ cb in
    table_start cb (at / l2_entries cb) edit ≤ at → at < table_end cb (at / l2_entries cb) edit → ⊥
off-edit header edit o fits covers from below =
    let has = sym (covers-cluster header edit o fits) ∙ covers in
    grind (arith, nat_tests, has, from, below)

-- what a guest cluster reads as by its entry, after one edit of the disk
one-reads : (header : HeaderRecord) (edit : GuestEdit) (o : ℕ) (numbers : List ℕ) → IsClusterBits header.v2.cluster_bits
    → guest_edit_fits header edit ≡ true → length numbers ≡ l2_entries header.v2.cluster_bits
    → let cb = header.v2.cluster_bits in let g = geometry_of header in let at = o / 2 ^ cb in let index = at % l2_entries cb in
    mapping g at (slice_index (run_in header (edits_by cb (at / l2_entries cb) edit) numbers).numbers index)
    ≡ (if covers cb o edit then mapping_after cb at edit (mapping g at (slice_index numbers index)) else mapping g at (slice_index numbers index))
one-reads header edit o numbers bits fits full =
    let cb = header.v2.cluster_bits in
    let g = geometry_of header in
    let at = o / 2 ^ cb in
    let index = at % l2_entries cb in
    elim (cases_Bool (covers cb o edit)) [
      | inl is ↦
          let within = in-edit header edit o fits is in
          let can : is_mappable_by header edit ≡ true = grind (arith, fits) in
          ap (mapping g at) (edits-there g cb edit at numbers full within.0 within.1)
          ∙ edited-reads header edit index at (slice_index numbers index) bits can ∙ rw is refl
      | inr is ↦ ap (mapping g at) (edits-elsewhere g cb edit at numbers (off-edit header edit o fits is)) ∙ rw is refl
    ]

-- and after edits
pub entry-reads : (header : HeaderRecord) (edits : List GuestEdit) (o : ℕ) (numbers : List ℕ) → IsClusterBits header.v2.cluster_bits
    → AllFit header edits → length numbers ≡ l2_entries header.v2.cluster_bits
    → let cb = header.v2.cluster_bits in let g = geometry_of header in let at = o / 2 ^ cb in let index = at % l2_entries cb in
    mapping g at (slice_index (run_in header (edits_in cb (at / l2_entries cb) edits) numbers).numbers index)
    ≡ mapping_left cb o edits (mapping g at (slice_index numbers index))
entry-reads header [] o numbers bits fit full = refl
entry-reads header (edit ∷ edits) o numbers bits fit full =
    let cb = header.v2.cluster_bits in
    let g = geometry_of header in
    let at = o / 2 ^ cb in
    let index = at % l2_entries cb in
    let first = edits_by cb (at / l2_entries cb) edit in
    let others = edits_in cb (at / l2_entries cb) edits in
    let left = (run_in header first numbers).numbers in
    let each = fit-first header edit edits fit in
    let joined : (run_in header (first ++ others) numbers).numbers ≡ (run_in header others left).numbers =
    ap (λ list. (run_of g list numbers).numbers) (map-append table_edit first others) ∙ run-append g (map table_edit first) (map table_edit others) numbers in
    ap (λ list. mapping g at (slice_index list index)) joined
    ∙ entry-reads header edits o left bits each.1 (length-run g (map table_edit first) numbers ∙ full)
    ∙ ap (mapping_left cb o edits) (one-reads header edit o numbers bits each.0 full)
