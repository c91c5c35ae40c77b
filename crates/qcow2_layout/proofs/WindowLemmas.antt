use Rattle.std.proofs.Common.{◌≡◌, ◌⊎◌, ℕ, zero, suc, ◌+◌, ◌-◌, ◌^◌, ◌<◌, ◌≤◌, Bool, true, false, All, fold, length, slice_index, List, [], ◌∷◌, ◌++◌, inl, inr, refl, sym, ap, ◌∙◌, arith}
use Rattle.std.proofs.lemmas.Bool.{cases_lt}
use Rattle.std.proofs.lemmas.Bool.Decides.{nat_tests}
use Rattle.std.proofs.lemmas.Grind.{fold-append}
use Rattle.std.proofs.lemmas.List.Elements.{All-append, All-cons, All-nil}
use Rattle.qcow2_base.specs.Storage.{Image}
use Rattle.qcow2_base.specs.declared.types.HostCluster.{HostCluster}
use Rattle.qcow2_metadata.specs.Entries.{is_among}
use Rattle.qcow2_check.specs.Tally.{TallyState, cell_at}
use Rattle.qcow2_check.specs.Uses.{ImageTables}
use Rattle.qcow2_check.specs.Walk.{IsOwned, one_use, row_list, use_list}
use Rattle.qcow2_check.specs.declared.uses.Use.{Use}
use Rattle.qcow2_check.specs.declared.uses.UseKind.{UseKind}
use Rattle.qcow2_check.specs.declared.uses.UseKind.TheVariants.{Data}
use Rattle.qcow2_layout.proofs.PartsLemmas.{code-some}
use Rattle.qcow2_layout.specs.Parts.{use_in}
use Rattle.qcow2_layout.specs.Window.{PlacesAll, PlacesMore, cell_after, cell_further, cell_of, code_of}
use Rattle.qcow2_layout.specs.Window.Cells.{PlacesGroup}

-- no uses
pub places_none : (a : TallyState) → PlacesMore [] a a
places_none a = grind arith

-- uses that are placed after others
pub places_then : (first second : List Use) (a b c : TallyState)
    → PlacesMore first a b → PlacesMore second b c → PlacesMore (first ++ second) a c
places_then first second a b c one other = record {
  owned = All-append IsOwned first second one.owned other.owned;
  first = other.first ∙ one.first;
  end = omega (arith, one.end, other.end);
  cells = grind (arith, one, other, fold-append);
}

-- clusters one after another that are placed one by one
pub places_next : (kind : UseKind) (first : HostCluster) (count at owner : ℕ) (a b c : TallyState) → first.0 ≤ at
    → count ≡ at - first.0
    → PlacesMore (one_use kind first count owner ∷ []) a b → PlacesMore (one_use kind (record { 0 = at }) 1 owner ∷ []) b c
    → PlacesMore (one_use kind first (at + 1 - first.0) owner ∷ []) a c
places_next kind first count at owner a b c from is one other = grind (arith, nat_tests, one, other)

-- a cell that has a use stays
pub used-stays : (uses : List Use) (c cell : ℕ) → 0 < cell → fold (cell_after c) cell uses ≡ cell
used-stays [] c cell some = refl
used-stays (used ∷ uses) c cell some =
    let same : cell_after c cell used ≡ cell = grind (arith, nat_tests, some) in
    rw same (used-stays uses c cell some)

-- and one that has none is that of the first use that has its cluster
pub first-use : (uses : List Use) (c : ℕ) → fold (cell_after c) 0 uses ≡ cell_of (use_in uses c)
first-use [] c = refl
first-use (used ∷ uses) c = by_use (is_among used.clusters c) refl (first-use uses c)
  where
    by_use : (has : Bool) → is_among used.clusters c ≡ has → fold (cell_after c) 0 uses ≡ cell_of (use_in uses c)
        → fold (cell_after c) 0 (used ∷ uses) ≡ cell_of (use_in (used ∷ uses) c)
    by_use true is rest = rw is (used-stays uses c (code_of used.kind used.owner) (code-some used.kind used.owner))
    by_use false is rest = rw is rest

-- cells after all uses, and no others
pub places_all : (tables : ImageTables) (image : Image) (old new : TallyState) → ((c : ℕ) → cell_at old c ≡ 0)
    → PlacesMore (use_list tables image) old new → PlacesAll tables image new
places_all tables image old new none more = record {
  owned = more.owned;
  cells = λ c from before.
      more.cells c (rw more.first at from) before ∙ ap (λ cell. fold (cell_after c) cell (use_list tables image)) (none c) ∙ first-use (use_list tables image) c;
}

-- the cell of a cluster after guest data in a row: before and after the row, and within
row-outside : (first guest n c cell : ℕ) → (c < first) ⊎ (first + n ≤ c) → fold (cell_after c) cell (row_list first guest n) ≡ cell
row-outside first guest zero c cell outside = refl
row-outside first guest (suc n) c cell outside =
    let next : (c < first + 1) ⊎ (first + 1 + n ≤ c) = elim outside [
      | inl before ↦ inl (omega (arith, before))
      | inr after ↦ inr (omega (arith, after))
    ] in
    let other : is_among (record { first = record { 0 = first }; count = record { 0 = 1 } }) c ≡ false = elim outside [
      | inl before ↦ grind (arith, nat_tests, before)
      | inr after ↦ grind (arith, nat_tests, after)
    ] in
    let same : cell_after c cell (one_use Data (record { 0 = first }) 1 guest) ≡ cell = grind (arith, nat_tests, other) in
    ap (λ x. fold (cell_after c) x (row_list (first + 1) (guest + 1) n)) same ∙ row-outside (first + 1) (guest + 1) n c cell next

row-inside : (first guest n c : ℕ) → first ≤ c → c < first + n → fold (cell_after c) 0 (row_list first guest n) ≡ 8 + guest + (c - first)
row-inside first guest zero c from below = absurd (omega (arith, from, below))
row-inside first guest (suc n) c from below =
    elim (cases_lt first c) [
      | inl later ↦
          let none : cell_after c 0 (one_use Data (record { 0 = first }) 1 guest) ≡ 0 = grind (arith, nat_tests, later) in
          let sum : 8 + (guest + 1) + (c - (first + 1)) ≡ 8 + guest + (c - first) = omega (arith, later) in
          ap (λ x. fold (cell_after c) x (row_list (first + 1) (guest + 1) n)) none
          ∙ row-inside (first + 1) (guest + 1) n c (omega (arith, later)) (omega (arith, below)) ∙ sum
      | inr here ↦
          let some : cell_after c 0 (one_use Data (record { 0 = first }) 1 guest) ≡ 8 + guest = grind (arith, nat_tests, here, from) in
          let sum : 8 + guest ≡ 8 + guest + (c - first) = omega (arith, here, from) in
          ap (λ x. fold (cell_after c) x (row_list (first + 1) (guest + 1) n)) some
          ∙ used-stays (row_list (first + 1) (guest + 1) n) c (8 + guest) (omega arith) ∙ sum
    ]

row-owned : (first guest n : ℕ) → guest + n ≤ 2 ^ 40 → All IsOwned (row_list first guest n)
row-owned first guest zero fits = All-nil IsOwned
row-owned first guest (suc n) fits =
    All-cons IsOwned (one_use Data (record { 0 = first }) 1 guest) (row_list (first + 1) (guest + 1) n) (omega (arith, fits))
    (row-owned (first + 1) (guest + 1) n (omega (arith, fits)))

-- 16 dense cells that are placed at once
group-cell : (old new : TallyState) (first index guest c : ℕ) → old.first ≤ first → index ≡ first - old.first → old.first ≤ c
    → new ≡ record old { dense = new.dense } → PlacesGroup index (8 + guest) old.dense new.dense
    → cell_at new c ≡ fold (cell_after c) (cell_at old c) (row_list first guest 16)
group-cell old new first index guest c from at after same places =
    let first_same : new.first ≡ old.first = ap (λ (t : TallyState). t.first) same in
    let sparse_same : new.sparse ≡ old.sparse = ap (λ (t : TallyState). t.sparse) same in
    elim (cases_lt c first) [
      | inl sooner ↦
          let cell = places.others (c - old.first) (inl (omega (arith, sooner, at, after))) in
          rw (row-outside first guest 16 c (cell_at old c) (inl sooner)) (grind (arith, nat_tests, first_same, sparse_same, places.count, cell, sooner))
      | inr later ↦ elim (cases_lt c (first + 16)) [
        | inl inside ↦
            let place : index + (c - first) ≡ c - old.first = omega (arith, at, from, later) in
            let cell = rw place at (places.each (c - first) (omega (arith, inside, later))) in
            let dense : c - old.first < length old.dense = omega (arith, places.within, inside, at, from) in
            let was : cell_at old c ≡ slice_index old.dense (c - old.first) = grind (arith, nat_tests, dense) in
            let is : cell_at new c ≡ slice_index new.dense (c - old.first) = grind (arith, nat_tests, first_same, places.count, dense) in
            elim (cases_lt 0 (cell_at old c)) [
              | inl some ↦ rw (used-stays (row_list first guest 16) c (cell_at old c) some) (grind (arith, nat_tests, is, was, cell, some))
              | inr none ↦
                  let zero_cell : cell_at old c ≡ 0 = omega (arith, none) in
                  rw (zero_cell, row-inside first guest 16 c later inside) (grind (arith, nat_tests, is, was, cell, zero_cell))
            ]
        | inr past ↦
            let cell = places.others (c - old.first) (inr (omega (arith, past, at, from))) in
            rw (row-outside first guest 16 c (cell_at old c) (inr past)) (grind (arith, nat_tests, first_same, sparse_same, places.count, cell, past))
      ]
    ]

pub group_places : (old new : TallyState) (first index guest : ℕ) → old.first ≤ first → index ≡ first - old.first → guest + 16 ≤ 2 ^ 40
    → new ≡ record old { dense = new.dense } → PlacesGroup index (8 + guest) old.dense new.dense
    → PlacesMore (row_list first guest 16) old new
group_places old new first index guest from at fits same places = record {
  owned = row-owned first guest 16 fits;
  first = ap (λ (t : TallyState). t.first) same;
  end = let end : new.end ≡ old.end = ap (λ (t : TallyState). t.end) same in omega (arith, end);
  cells = λ c after before. group-cell old new first index guest c from at after same places;
}

-- twice further on in a run
further-twice : (cell a b : ℕ) → cell_further (cell_further cell a) b ≡ cell_further cell (a + b)
further-twice cell a b = grind (arith, nat_tests)

-- cells that go on from the last of others
pub group_further : (cells : List ℕ) (index end : ℕ) → index < end
    → ((i : ℕ) → index ≤ i → i < end → slice_index cells i ≡ cell_further (slice_index cells index) (i - index))
    → ((k : ℕ) → k < 16 → slice_index cells (end + k) ≡ cell_further (slice_index cells (end - 1)) (k + 1))
    → (i : ℕ) → index ≤ i → i < end + 16 → slice_index cells i ≡ cell_further (slice_index cells index) (i - index)
group_further cells index end some one more i from below = elim (cases_lt i end) [
  | inl before ↦ one i from before
  | inr after ↦
      let k = i - end in
      let place : end + k ≡ i = omega (arith, after) in
      let sum : end - 1 - index + (k + 1) ≡ i - index = omega (arith, after, some) in
      let last = one (end - 1) (omega (arith, some)) (omega (arith, some)) in
      rw place at (more k (omega (arith, below, after))) ∙ ap (λ n. cell_further n (k + 1)) last
      ∙ further-twice (slice_index cells index) (end - 1 - index) (k + 1) ∙ ap (cell_further (slice_index cells index)) sum
]

-- dense cells that are one run
pub run_cells : (window : TallyState) (from end : ℕ) → window.first ≤ from → from - window.first < length window.dense → end ≤ length window.dense
    → ((i : ℕ) → from - window.first ≤ i → i < end
    → slice_index window.dense i ≡ cell_further (slice_index window.dense (from - window.first)) (i - (from - window.first)))
    → (k : ℕ) → from + k < window.first + end → cell_at window (from + k) ≡ cell_further (cell_at window from) k
run_cells window from end first inside within one k below =
    let i = from + k - window.first in
    let count : i - (from - window.first) ≡ k = omega (arith, first) in
    let dense : i < length window.dense = omega (arith, first, below, within) in
    let here : cell_at window from ≡ slice_index window.dense (from - window.first) = grind (arith, nat_tests, inside) in
    let there : cell_at window (from + k) ≡ slice_index window.dense i = grind (arith, nat_tests, dense) in
    there ∙ one i (omega (arith, first)) (omega (arith, first, below)) ∙ ap (cell_further (slice_index window.dense (from - window.first))) count
    ∙ ap (λ n. cell_further n k) (sym here)

-- and end there
pub run_ends : (window : TallyState) (from end : ℕ) → window.first ≤ from → from - window.first < end → end < length window.dense
    → (slice_index window.dense end ≡ cell_further (slice_index window.dense (from - window.first)) (end - (from - window.first)) → ⊥)
    → cell_at window (window.first + end) ≡ cell_further (cell_at window from) (window.first + end - from) → ⊥
run_ends window from end first some within differs same =
    let count : window.first + end - from ≡ end - (from - window.first) = omega (arith, first) in
    let inside : from - window.first < length window.dense = omega (arith, some, within) in
    let here : cell_at window from ≡ slice_index window.dense (from - window.first) = grind (arith, nat_tests, inside) in
    let place : window.first + end - window.first ≡ end = omega arith in
    let there : cell_at window (window.first + end) ≡ slice_index window.dense end = grind (arith, nat_tests, within, place) in
    differs (sym there ∙ same ∙ ap (λ n. cell_further n (window.first + end - from)) here ∙ ap (cell_further (slice_index window.dense (from - window.first))) count)
