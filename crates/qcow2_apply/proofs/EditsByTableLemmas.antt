use Rattle.std.proofs.Common.{◌≡◌, ◌≢◌, ◌⊎◌, ℕ, zero, suc, Bool, true, false, ◌&&◌, ◌||◌, ◌==◌, not, ◌+◌, ◌*◌, ◌/◌, ◌%◌, ◌≤◌, ◌<◌, List, [], ◌∷◌, ◌++◌, length, get_or, take, flat_map, slice_get, slice_index, if◌then◌else◌, Option, None, Some, IsSome, nat_le, nat_lt, ap, refl, subst, sym, ◌∙◌, inl, inr, mod-lt, div-add-mod', arith}
use Rattle.std.proofs.lemmas.Bool.{cases_Bool, cases_eq, cases_lt}
use Rattle.std.proofs.lemmas.Bool.Decides.{nat_tests}
use Rattle.std.proofs.lemmas.Grind.{div_ceil_times}
use Rattle.std.proofs.lemmas.List.{append-nil, flat_map_more, take_all, take_more}
use Rattle.std.proofs.lemmas.List.Concat.{flat_map-append}
use Rattle.std.proofs.lemmas.List.Elements.{All-filter, filter-append}
use Rattle.std.proofs.lemmas.List.FromFn.{get_or-range_with_len, length-range_with_len}
use Rattle.std.proofs.lemmas.Nat.{mul-le}
use Rattle.std.specs.Int.{div_ceil}
use Rattle.std.specs.List.{All, filter, list_any, range_with_len}
use Rattle.qcow2_base.specs.declared.fault.Fault.{Fault}
use Rattle.qcow2_edits.specs.declared.edits.Edit.{Edit}
use Rattle.qcow2_metadata.specs.Header.{HeaderRecord}
use Rattle.qcow2_metadata.specs.Table.{first_fault, l2_entries}
use Rattle.qcow2_apply.proofs.GuestEditsLemmas.{no-edits-by, range-split, some-edits-in}
use Rattle.qcow2_base.specs.declared.types.HostCluster.{HostCluster}
use Rattle.qcow2_check.specs.NamedTables.{named_cluster}
use Rattle.qcow2_apply.specs.EditsByTable.{IsByTable, is_of_table, is_one_in, kept_positions, positions_in}
use Rattle.qcow2_apply.specs.GuestEdits.{cluster_end, edits_by, edits_in, first_cluster, guest_edit_fits, has_clusters_in}
use Rattle.qcow2_apply.specs.declared.edits_by_table.EditsByTable.{EditsByTable}
use Rattle.qcow2_apply.specs.declared.guest_edits.GuestEdit.{GuestEdit}

-- an edit that a list has at a position
pub slice-here : (edits : List GuestEdit) (at : ℕ) (d : GuestEdit) → at < length edits → slice_get edits at ≡ Some (get_or edits at d)
slice-here [] at d below = absurd (omega (arith, below))
slice-here (edit ∷ edits) zero d below = refl
slice-here (edit ∷ edits) (suc at) d below = slice-here edits at d (omega (arith, below))

-- a guest cluster is in the tables from its own on
from-table : (n x i : ℕ) → 0 < n → (x / n ≤ i → x < i * n + n) × (x < i * n + n → x / n ≤ i)
from-table n x i some =
    let parts : x / n * n + x % n ≡ x = div-add-mod' x n in
    let small : x % n < n = mod-lt x some in (
      λ from. omega (arith, parts, small, mul-le (x / n) n i n from (omega arith)),
      λ before. elim (cases_lt i (x / n)) [
        | inl past ↦ absurd (omega (arith, parts, before, mul-le (i + 1) n (x / n) n (omega (arith, past)) (omega arith)))
        | inr within ↦ within
      ],
    )

-- and an end in those before the next
to-table : (n end i : ℕ) → 0 < n → (i < div_ceil end n → i * n < end) × (i * n < end → i < div_ceil end n)
to-table n end i some =
    let bounds = div_ceil_times end n some in (
      λ below. omega (arith, bounds, mul-le (i + 1) n (div_ceil end n) n (omega (arith, below)) (omega arith)),
      λ before. elim (cases_lt i (div_ceil end n)) [
        | inl within ↦ within
        | inr past ↦ absurd (omega (arith, bounds, before, mul-le (div_ceil end n) n i n past (omega arith)))
      ],
    )

-- one position more
pub filter-next : (test : ℕ → Bool) (n : ℕ) → filter test (range_with_len 0 (n + 1)) ≡ filter test (range_with_len 0 n) ++ (if test n then n ∷ [] else [])
filter-next test n = rw (range-split n 1, filter-append test (range_with_len 0 n) (range_with_len n 1)) refl

-- what nothing comes of can be left out
flat-kept : {X : Type 0} (test : ℕ → Bool) (f : ℕ → List X) → ((n : ℕ) → test n ≡ false → f n ≡ []) → (ns : List ℕ) → flat_map f (filter test ns) ≡ flat_map f ns
flat-kept test f none [] = refl
flat-kept test f none (n ∷ ns) = elim (cases_Bool (test n)) [
  | inl is ↦ rw is (ap (λ list. f n ++ list) (flat-kept test f none ns))
  | inr not ↦ rw (not, none n not) (flat-kept test f none ns)
]

pub first-kept : (test : ℕ → Bool) (f : ℕ → Option Fault) → ((n : ℕ) → test n ≡ false → f n ≡ None) → (ns : List ℕ) → first_fault f (filter test ns) ≡ first_fault f ns
first-kept test f none [] = refl
first-kept test f none (n ∷ ns) = elim (cases_Bool (test n)) [
  | inl is ↦ rw (is, first-kept test f none ns) refl
  | inr not ↦ rw (not, none n not) (first-kept test f none ns)
]

none-kept : (test : ℕ → Bool) → ((n : ℕ) → test n ≡ false) → (ns : List ℕ) → filter test ns ≡ []
none-kept test none [] = refl
none-kept test none (n ∷ ns) = rw (none n) (none-kept test none ns)

-- the edits of a table that an edit is, if there is one
abbrev pub edits_if : ℕ → ℕ → Option GuestEdit → List Edit
edits_if cb i None = []
edits_if cb i (Some edit) = edits_by cb i edit

-- those that the edit at a position is
abbrev pub edits_by_at : ℕ → ℕ → List GuestEdit → ℕ → List Edit
edits_by_at cb i edits at = edits_if cb i (slice_get edits at)

pub by-here : (cb i : ℕ) (edits : List GuestEdit) (at : ℕ) (d : GuestEdit) → at < length edits → edits_by_at cb i edits at ≡ edits_by cb i (get_or edits at d)
by-here cb i edits at d below = ap (edits_if cb i) (slice-here edits at d below)

none-by-at : (cb i : ℕ) (edits : List GuestEdit) (at : ℕ) → is_of_table cb i edits at ≡ false → edits_by_at cb i edits at ≡ []
none-by-at cb i edits at = by_found (slice_get edits at)
  where
    by_found : (found : Option GuestEdit) → is_one_in cb i found ≡ false → edits_if cb i found ≡ []
    by_found None none = refl
    by_found (Some edit) none = no-edits-by cb i edit none

by-taken : (cb i : ℕ) (edits : List GuestEdit) (d : GuestEdit) (n : ℕ) → n ≤ length edits
    → flat_map (edits_by_at cb i edits) (range_with_len 0 n) ≡ flat_map (edits_by cb i) (take n edits)
by-taken cb i edits d zero within = refl
by-taken cb i edits d (suc n) within =
    let more : n + 1 ≡ suc n = omega arith in
    let before = by-taken cb i edits d n (omega (arith, within)) in
    let here = by-here cb i edits n d (omega (arith, within)) in
    subst (λ m. flat_map (edits_by_at cb i edits) (range_with_len 0 m) ≡ flat_map (edits_by cb i) (take m edits)) more
    (ap (flat_map (edits_by_at cb i edits)) (range-split n 1) ∙ flat_map-append (edits_by_at cb i edits) (range_with_len 0 n) (n ∷ [])
    ∙ ap (λ list. list ++ (edits_by_at cb i edits n ++ [])) before ∙ ap (λ list. flat_map (edits_by cb i) (take n edits) ++ (list ++ [])) here
    ∙ sym (flat_map-append (edits_by cb i) (take n edits) (get_or edits n d ∷ [])) ∙ ap (flat_map (edits_by cb i)) (sym (take_more edits n d (omega (arith, within)))))

-- the edits of a table are those of the edits at its positions
pub edits-by-positions : (cb i : ℕ) (edits : List GuestEdit) → flat_map (edits_by_at cb i edits) (positions_in cb i edits) ≡ edits_in cb i edits
edits-by-positions cb i [] = refl
edits-by-positions cb i (edit ∷ edits) =
    let all = edit ∷ edits in
    flat-kept (is_of_table cb i all) (edits_by_at cb i all) (none-by-at cb i all) (range_with_len 0 (length all))
    ∙ by-taken cb i all edit (length all) (omega arith) ∙ ap (flat_map (edits_by cb i)) (take_all (length all) all (omega arith))

-- a kept position is one of the list
pub position-below : (cb i : ℕ) (edits : List GuestEdit) (k d : ℕ) → k < length (positions_in cb i edits) → get_or (positions_in cb i edits) k d < length edits
position-below cb i edits k d below = All-filter (is_of_table cb i edits) (λ at. at < length edits) (range_with_len 0 (length edits)) all k d below
  where
    all : All (λ at. at < length edits) (range_with_len 0 (length edits))
    all j e within = let short : j < length edits = omega (arith, within, length-range_with_len 0 (length edits)) in
        omega (arith, short, get_or-range_with_len 0 (length edits) j e short)

-- edits of which none is of a table have no positions there, and others have one
none-of-table : (cb i : ℕ) (edits : List GuestEdit) → list_any (has_clusters_in cb i) edits ≡ false → (at : ℕ) → is_of_table cb i edits at ≡ false
none-of-table cb i [] none at = refl
none-of-table cb i (edit ∷ edits) none zero = grind (arith, none)
none-of-table cb i (edit ∷ edits) none (suc at) = none-of-table cb i edits (grind (arith, none)) at

pub some-of-table : (cb i : ℕ) (edits : List GuestEdit) → positions_in cb i edits ≢ [] → list_any (has_clusters_in cb i) edits ≡ true
some-of-table cb i edits some = elim (cases_Bool (list_any (has_clusters_in cb i) edits)) [
  | inl is ↦ is
  | inr none ↦ absurd (some (none-kept (is_of_table cb i edits) (none-of-table cb i edits none) (range_with_len 0 (length edits))))
]

pub no-positions : (cb i : ℕ) (edits : List GuestEdit) → positions_in cb i edits ≡ [] → edits_in cb i edits ≡ []
no-positions cb i edits none = sym (edits-by-positions cb i edits) ∙ ap (flat_map (edits_by_at cb i edits)) none

pub none-of-them : (cb i : ℕ) (edits : List GuestEdit) → positions_in cb i edits ≡ [] → list_any (has_clusters_in cb i) edits ≡ false
none-of-them cb i edits none = elim (cases_Bool (list_any (has_clusters_in cb i) edits)) [
  | inl is ↦ absurd (some-edits-in cb i edits is (no-positions cb i edits none))
  | inr not ↦ not
]

-- the tables of a range are those from its first cluster's to its last one's
pub has_of_tables : (cb i first end : ℕ) (edit : GuestEdit) → 0 < l2_entries cb → first_cluster cb edit < cluster_end cb edit → first ≡ first_cluster cb edit / l2_entries cb
    → end ≡ div_ceil (cluster_end cb edit) (l2_entries cb) → has_clusters_in cb i edit ≡ (nat_le first i && nat_lt i end)
has_of_tables cb i first end edit some range first_is end_is =
    let from = from-table (l2_entries cb) (first_cluster cb edit) i some in
    let to = to-table (l2_entries cb) (cluster_end cb edit) i some in
    rw (first_is, end_is) (elim (cases_lt (first_cluster cb edit) (i * l2_entries cb + l2_entries cb)) [
      | inl after ↦ elim (cases_lt (i * l2_entries cb) (cluster_end cb edit)) [
        | inl before ↦ grind (arith, nat_tests, from.1 after, to.1 before, after, before, range, some)
        | inr past ↦ elim (cases_lt i (div_ceil (cluster_end cb edit) (l2_entries cb))) [
          | inl below ↦ absurd (omega (arith, to.0 below, past))
          | inr above ↦ grind (arith, nat_tests, above, past)
        ]
      ]
      | inr ahead ↦ elim (cases_lt i (first_cluster cb edit / l2_entries cb)) [
        | inl below ↦ grind (arith, nat_tests, below, ahead)
        | inr within ↦ absurd (omega (arith, from.0 within, ahead))
      ]
    ])

-- the list at a position of those of a table
pub taken-all : (cb i : ℕ) (edits : List GuestEdit) (ps : List ℕ) (n : ℕ) → ps ≡ positions_in cb i edits → length ps ≤ n
    → flat_map (edits_by_at cb i edits) (take n ps) ≡ edits_in cb i edits
taken-all cb i edits ps n is past = ap (flat_map (edits_by_at cb i edits)) (take_all n ps past ∙ is) ∙ edits-by-positions cb i edits

-- a kept position is one of the list
pub listed-below : (cb i : ℕ) (edits : List GuestEdit) (ps : List ℕ) (k d : ℕ) → ps ≡ positions_in cb i edits → k < length ps → get_or ps k d < length edits
listed-below cb i edits ps k d is below = rw is (position-below cb i edits k d (rw is at below))

-- one position more
pub taken-next : (cb i : ℕ) (edits : List GuestEdit) (ps : List ℕ) (k d : ℕ) (e : GuestEdit) → ps ≡ positions_in cb i edits → k < length ps
    → flat_map (edits_by_at cb i edits) (take (k + 1) ps) ≡ flat_map (edits_by_at cb i edits) (take k ps) ++ edits_by cb i (get_or edits (get_or ps k d) e)
taken-next cb i edits ps k d e is below =
    ap (flat_map (edits_by_at cb i edits)) (take_more ps k d below) ∙ sym (flat_map_more (edits_by_at cb i edits) [] (take k ps) (get_or ps k d))
    ∙ ap (λ list. flat_map (edits_by_at cb i edits) (take k ps) ++ list) (by-here cb i edits (get_or ps k d) e (listed-below cb i edits ps k d is below))

pub list-next : (cb i : ℕ) (edits : List GuestEdit) (ps : List ℕ) (k d : ℕ) (e : GuestEdit) (before after : List Edit) → ps ≡ positions_in cb i edits → k < length ps
    → before ≡ flat_map (edits_by_at cb i edits) (take k ps) → after ≡ before ++ edits_by cb i (get_or edits (get_or ps k d) e)
    → after ≡ flat_map (edits_by_at cb i edits) (take (k + 1) ps)
list-next cb i edits ps k d e before after is below so_far more =
    more ∙ ap (λ list. list ++ edits_by cb i (get_or edits (get_or ps k d) e)) so_far ∙ sym (taken-next cb i edits ps k d e is below)

-- an edit that fits has clusters
pub fits-range : (header : HeaderRecord) (edit : GuestEdit) → guest_edit_fits header edit ≡ true → first_cluster header.v2.cluster_bits edit < cluster_end header.v2.cluster_bits edit
fits-range header edit fits = grind (arith, nat_tests, fits)

-- a position is kept, or it isn't, after others
joined : (a b c : Bool) (p : ℕ) (before mid after : List ℕ) → mid ≡ before ++ (if a then p ∷ [] else []) → after ≡ mid ++ (if b then p ∷ [] else [])
    → (a ≡ false) ⊎ (b ≡ false) → c ≡ (a || b) → after ≡ before ++ (if c then p ∷ [] else [])
joined false b c p before mid after so_far more apart is = subst (λ t. after ≡ before ++ (if t then p ∷ [] else [])) (sym is)
    (more ∙ ap (λ list. list ++ (if b then p ∷ [] else [])) (so_far ∙ append-nil before))
joined true false c p before mid after so_far more apart is = subst (λ t. after ≡ before ++ (if t then p ∷ [] else [])) (sym is) (more ∙ append-nil mid ∙ so_far)
joined true true c p before mid after so_far more (inl never) is = absurd (grind (arith, never))
joined true true c p before mid after so_far more (inr never) is = absurd (grind (arith, never))

-- one table more
pub kept-more : (first index p i : ℕ) (before mid after : List ℕ) → first ≤ index → mid ≡ before ++ (if nat_le first i && nat_lt i index then p ∷ [] else [])
    → after ≡ mid ++ (if i == index then p ∷ [] else []) → after ≡ before ++ (if nat_le first i && nat_lt i (index + 1) then p ∷ [] else [])
kept-more first index p i before mid after from so_far more =
    joined (nat_le first i && nat_lt i index) (i == index) (nat_le first i && nat_lt i (index + 1)) p before mid after so_far more
    (elim (cases_eq i index) [
      | inl here ↦ inl (grind (arith, nat_tests, here))
      | inr differs ↦ inr (grind (arith, nat_tests, differs))
    ])
    (elim (cases_eq i index) [
      | inl here ↦ grind (arith, nat_tests, here, from)
      | inr differs ↦ grind (arith, nat_tests, differs)
    ])

pub kept-still : (first index p i : ℕ) (before mid : List ℕ) → i ≢ index → mid ≡ before ++ (if nat_le first i && nat_lt i index then p ∷ [] else [])
    → mid ≡ before ++ (if nat_le first i && nat_lt i (index + 1) then p ∷ [] else [])
kept-still first index p i before mid differs so_far =
    let same : (nat_le first i && nat_lt i (index + 1)) ≡ (nat_le first i && nat_lt i index) = grind (arith, nat_tests, differs) in
    subst (λ t. mid ≡ before ++ (if t then p ∷ [] else [])) (sym same) so_far

-- all of them
pub kept-all : (first index end p i : ℕ) (has : Bool) (before after : List ℕ) → has ≡ (nat_le first i && nat_lt i end) → (i < end → i < index)
    → (index ≤ end) ⊎ (index ≡ first) → after ≡ before ++ (if nat_le first i && nat_lt i index then p ∷ [] else [])
    → after ≡ before ++ (if has then p ∷ [] else [])
kept-all first index end p i has before after is past within so_far =
    let same : has ≡ (nat_le first i && nat_lt i index) = is ∙ tests (cases_lt i end) (cases_lt i index) within in
    subst (λ t. after ≡ before ++ (if t then p ∷ [] else [])) (sym same) so_far
  where
    tests : (i < end) ⊎ (end ≤ i) → (i < index) ⊎ (index ≤ i) → (index ≤ end) ⊎ (index ≡ first)
        → (nat_le first i && nat_lt i end) ≡ (nat_le first i && nat_lt i index)
    tests (inl below) (inl before) within = grind (arith, nat_tests, below, before)
    tests (inl below) (inr after) within = absurd (omega (arith, past below, after))
    tests (inr above) (inl before) (inl less) = absurd (omega (arith, above, before, less))
    tests (inr above) (inl before) (inr begun) = grind (arith, nat_tests, above, before, begun)
    tests (inr above) (inr after) within = grind (arith, nat_tests, above, after)

-- an entry that names a table is none that doesn't
some-or-none : (found : Option HostCluster) → IsSome found → found ≡ None → ⊥
some-or-none None some is = absurd (grind (arith, some))
some-or-none (Some cluster) some is = absurd (grind (arith, is))

pub differs-named : (cb : ℕ) (l1 : List ℕ) (i index : ℕ) → IsSome (named_cluster cb (slice_index l1 i)) → named_cluster cb (slice_index l1 index) ≡ None → i ≢ index
differs-named cb l1 i index some none same =
    some-or-none (named_cluster cb (slice_index l1 index)) (subst (λ k. IsSome (named_cluster cb (slice_index l1 k))) same some) none

-- the position of one edit more
pub positions-next : (cb i : ℕ) (edits : List GuestEdit) (at : ℕ) (d : GuestEdit) (before after : List ℕ) → at < length edits
    → before ≡ filter (is_of_table cb i edits) (range_with_len 0 at) → after ≡ before ++ (if has_clusters_in cb i (get_or edits at d) then at ∷ [] else [])
    → after ≡ filter (is_of_table cb i edits) (range_with_len 0 (at + 1))
positions-next cb i edits at d before after below is more =
    let here : is_of_table cb i edits at ≡ has_clusters_in cb i (get_or edits at d) = ap (is_one_in cb i) (slice-here edits at d below) in
    more ∙ ap (λ list. list ++ (if has_clusters_in cb i (get_or edits at d) then at ∷ [] else [])) is
    ∙ ap (λ t. filter (is_of_table cb i edits) (range_with_len 0 at) ++ (if t then at ∷ [] else [])) (sym here) ∙ sym (filter-next (is_of_table cb i edits) at)

-- what is kept for a table that is named
pub kept-are : (header : HeaderRecord) (l1 : List ℕ) (edits : List GuestEdit) (by_table : EditsByTable) (i : ℕ) (cluster : HostCluster) (ps : List ℕ)
    → IsByTable header l1 edits by_table → named_cluster header.v2.cluster_bits (slice_index l1 i) ≡ Some cluster → ps ≡ kept_positions by_table i
    → ps ≡ positions_in header.v2.cluster_bits i edits
kept-are header l1 edits by_table i cluster ps kept names is = is ∙ kept i (subst IsSome (sym names) refl)

empty-is : (ps : List ℕ) → length ps ≡ 0 → ps ≡ []
empty-is [] none = refl
empty-is (p ∷ ps) none = absurd (omega (arith, none))

-- where that is nothing, no edit is of the table
pub none-listed : (cb i : ℕ) (edits : List GuestEdit) (ps : List ℕ) → ps ≡ positions_in cb i edits → length ps ≡ 0
    → (edits_in cb i edits ≡ []) × (list_any (has_clusters_in cb i) edits ≡ false)
none-listed cb i edits ps is none =
    let empty : positions_in cb i edits ≡ [] = sym is ∙ empty-is ps none in (no-positions cb i edits empty, none-of-them cb i edits empty)

-- and where that is something, one is
pub some-listed : (cb i : ℕ) (edits : List GuestEdit) (ps : List ℕ) → ps ≡ positions_in cb i edits → 0 < length ps
    → (edits_in cb i edits ≢ []) × (list_any (has_clusters_in cb i) edits ≡ true)
some-listed cb i edits ps is some =
    let has = some-of-table cb i edits (λ none. omega (arith, some, ap length (is ∙ none))) in (some-edits-in cb i edits has, has)
