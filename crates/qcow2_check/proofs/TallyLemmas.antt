use Rattle.std.proofs.Common.{◌≡◌, ℕ, zero, suc, Bool, true, false, if◌then◌else◌, ◌==◌, refl, ◌∙◌, ◌/◌, ◌%◌, ◌*◌, ◌+◌, ◌-◌, ◌<◌, ◌≤◌, length, slice_index, List, [], ◌∷◌, ◌++◌, ap, sym, inl, inr, arith}
use Rattle.std.proofs.lemmas.Bool.Decides.{nat_tests}
use Rattle.qcow2_base.specs.declared.types.HostCluster.{HostCluster}
use Rattle.qcow2_check.specs.Tally.{used_clusters}
use Rattle.qcow2_check.specs.declared.tally.TallyKind.{TallyKind}
use Rattle.std.proofs.lemmas.Grind.{fold-append}
use Rattle.qcow2_check.specs.Tally.{CountsMore, CountsTimes, IsPlain, TallyState, ClusterUse, cell_at, cell_with, mark_of, repetition, with_use, with_uses}
use Rattle.qcow2_check.specs.Tally.Cells.{AddsGroup}
use Rattle.qcow2_check.specs.declared.tally.TallyKind.TheVariants.{Fixed, Guest, L2Table}
use Rattle.qcow2_metadata.specs.Entries.{is_among}
use Rattle.std.specs.List.{fold}
use Rattle.std.proofs.lemmas.List.{append-nil}
use Rattle.std.proofs.lemmas.Bool.{cases_lt}

-- uses that are counted after others
pub counts_then : (first second : List ClusterUse) (a b c : TallyState)
    → CountsMore first a b → CountsMore second b c → CountsMore (first ++ second) a c
counts_then first second a b c one other = grind (arith, one, other, fold-append)

-- clusters whose dense cells are plain
pub plain_dense : (tally : TallyState) (counters : List ℕ) (first index : ℕ) → tally.first ≤ first → index ≡ first - tally.first
    → index + length counters ≤ length tally.dense
    → ((k : ℕ) → k < length counters → IsPlain (slice_index tally.dense (index + k)) (slice_index counters k))
    → (k : ℕ) → k < length counters → IsPlain (cell_at tally (first + k)) (slice_index counters k)
plain_dense tally counters first index after is within plain k below =
    let place : first + k - tally.first ≡ index + k = omega (arith, after, is) in
    let inside : index + k < length tally.dense = omega (arith, within, below) in
    let cell : cell_at tally (first + k) ≡ slice_index tally.dense (index + k) = grind (arith, nat_tests, place, inside) in
    rw cell (plain k below)

-- 16 dense cells that count one use more
group_cell : (old new : TallyState) (first index c : ℕ) → old.first ≤ first → index ≡ first - old.first → old.first ≤ c
    → new ≡ record old { dense = new.dense } → AddsGroup index old.dense new.dense
    → cell_at new c ≡ cell_with c (cell_at old c) (used_clusters Guest (record { 0 = first }) 16)
group_cell old new first index c from at after same adds =
    let first_same : new.first ≡ old.first = ap (λ (t : TallyState). t.first) same in
    let sparse_same : new.sparse ≡ old.sparse = ap (λ (t : TallyState). t.sparse) same in
    elim (cases_lt c first) [
      | inl sooner ↦
          let cell = adds.others (c - old.first) (inl (omega (arith, sooner, at, after))) in
          grind (arith, nat_tests, first_same, sparse_same, adds.count, cell, sooner)
      | inr later ↦ elim (cases_lt c (first + 16)) [
        | inl inside ↦
            let place : index + (c - first) ≡ c - old.first = omega (arith, at, from, later) in
            let cell = rw place at (adds.each (c - first) (omega (arith, inside, later))) in
            let dense : c - old.first < length old.dense = omega (arith, adds.within, inside, at, from) in
            grind (arith, nat_tests, first_same, adds.count, cell, dense, inside, later)
        | inr past ↦
            let cell = adds.others (c - old.first) (inr (omega (arith, past, at, from))) in
            grind (arith, nat_tests, first_same, sparse_same, adds.count, cell, past)
      ]
    ]

pub group_counts : (old new : TallyState) (first index : ℕ) → old.first ≤ first → index ≡ first - old.first
    → new ≡ record old { dense = new.dense } → AddsGroup index old.dense new.dense
    → CountsMore (used_clusters Guest (record { 0 = first }) 16 ∷ []) old new
group_counts old new first index from at same adds = record {
  first = ap (λ (t : TallyState). t.first) same;
  end = let end : new.end ≡ old.end = ap (λ (t : TallyState). t.end) same in omega (arith, end);
  cells = λ c after before. group_cell old new first index c from at after same adds;
}

-- a cell that counts one use more is marked by it
marked : (kind : TallyKind) (cell : ℕ) → with_use kind cell / mark_of kind % 2 ≡ 1
marked Fixed cell = grind (arith, nat_tests)
marked L2Table cell = grind (arith, nat_tests)
marked Guest cell = grind (arith, nat_tests)

-- so that many uses add eight times their number, and the mark once
marked_more : (kind : TallyKind) (times cell : ℕ) → cell / mark_of kind % 2 ≡ 1 → with_uses kind times cell ≡ cell + 8 * times
marked_more kind zero cell is = omega arith
marked_more kind (suc times) cell is =
    let next : with_use kind cell ≡ cell + 8 = grind (arith, nat_tests, is) in
    let more = marked_more kind times (with_use kind cell) (marked kind cell) in
    omega (arith, more, next)

pub uses_added : (kind : TallyKind) (times cell : ℕ) → 0 < times
    → with_uses kind times cell ≡ cell + (8 * times + (if cell / mark_of kind % 2 == 1 then 0 else mark_of kind))
uses_added kind zero cell some = let never : ⊥ = omega (arith, some) in elim never [ ]
uses_added kind (suc times) cell some =
    let more = marked_more kind times (with_use kind cell) (marked kind cell) in
    grind (arith, more)

-- the cell after a use that many times over
repeated_cell : (c times cell : ℕ) (used : ClusterUse)
    → fold (cell_with c) cell (repetition times (used ∷ [])) ≡ (if is_among used.clusters c then with_uses used.kind times cell else cell)
repeated_cell c times cell used = by_test (is_among used.clusters c) refl times cell
  where
    by_test : (test : Bool) → is_among used.clusters c ≡ test → (times cell : ℕ)
        → fold (cell_with c) cell (repetition times (used ∷ [])) ≡ (if test then with_uses used.kind times cell else cell)
    by_test true is zero cell = refl
    by_test false is zero cell = refl
    by_test true is (suc times) cell =
        ap (λ test. fold (cell_with c) (if test then with_use used.kind cell else cell) (repetition times (used ∷ []))) is
        ∙ by_test true is times (with_use used.kind cell)
    by_test false is (suc times) cell =
        ap (λ test. fold (cell_with c) (if test then with_use used.kind cell else cell) (repetition times (used ∷ []))) is
        ∙ by_test false is times cell

pub times_count : (times : ℕ) (used : ClusterUse) (a b : TallyState) → CountsTimes times used a b → CountsMore (repetition times (used ∷ [])) a b
times_count times used a b counts = record {
  first = counts.first;
  end = counts.end;
  cells = λ c from before. counts.cells c from before ∙ sym (repeated_cell c times (cell_at a c) used);
}

-- clusters one after another that are counted one by one
pub counts_next : (kind : TallyKind) (first : HostCluster) (count at times : ℕ) (a b c : TallyState) → first.0 ≤ at → count ≡ at - first.0
    → CountsTimes times (used_clusters kind first count) a b → CountsTimes times (used_clusters kind (record { 0 = at }) 1) b c
    → CountsTimes times (used_clusters kind first (at + 1 - first.0)) a c
counts_next kind first count at times a b c from is one other = grind (arith, nat_tests, one, other)

-- no uses that many times over
pub nothing_counts : (times : ℕ) (tally : TallyState) → CountsMore (repetition times []) tally tally
nothing_counts times tally = rw (none times) (record { first = refl; end = omega arith; cells = λ c from before. refl })
  where
    none : (times : ℕ) → repetition {Used = ClusterUse} times [] ≡ []
    none zero = refl
    none (suc times) = none times

-- once is no more
pub once_counts : (uses : List ClusterUse) (a b : TallyState) → CountsMore (repetition 1 uses) a b → CountsMore uses a b
once_counts uses a b counts = rw (← append-nil uses) counts
