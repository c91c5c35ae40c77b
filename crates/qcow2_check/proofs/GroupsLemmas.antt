use Rattle.std.proofs.Common.{◌≡◌, ℕ, zero, suc, false, ◌+◌, ◌<◌, ◌≤◌, ◌∙◌, List, [], ◌∷◌, flat_map, take, fold, length, get_or, slice_index, Some, add-zero, ap, refl, subst, sym, arith}
use Rattle.std.proofs.lemmas.Bool.Decides.{nat_tests}
use Rattle.std.proofs.lemmas.Grind.{fold-append}
use Rattle.qcow2_base.specs.Types.{IsClusterBits}
use Rattle.qcow2_metadata.specs.Entries.L2Entry.{allocation}
use Rattle.qcow2_metadata.specs.Header.{Geometry, geometry}
use Rattle.qcow2_metadata.specs.declared.entries.ClustersToFreeEntry.{ClustersToFreeEntry}
use Rattle.qcow2_check.proofs.FlagsLemmas.{inside_only}
use Rattle.qcow2_check.proofs.UsesLemmas.{single_use, standard_cluster, unallocated_more, unallocated_uses, uses_more}
use Rattle.qcow2_check.specs.Groups.{IsInRow, IsRow}
use Rattle.qcow2_check.specs.Tally.{ClusterUse, CountsGroup, CountsMore, TallyState, cell_at, cell_with, used_clusters}
use Rattle.qcow2_check.specs.Uses.{entry_uses}
use Rattle.qcow2_check.specs.Walk.{entry_list, one_use}
use Rattle.qcow2_check.specs.declared.tally.TallyKind.TheVariants.{Guest}
use Rattle.qcow2_check.specs.declared.uses.UseKind.TheVariants.{Data}

-- an entry in a row uses its one cluster
row_entry : (g : Geometry) (v c : ℕ) → g.external_data_file ≡ false → IsClusterBits g.cluster_bits → IsInRow g.cluster_bits v c → 0 < c
    → entry_uses g v ≡ used_clusters Guest (record { 0 = c }) 1 ∷ []
row_entry g v c inside bits is some =
    let cb = g.cluster_bits in
    let clusters : ClustersToFreeEntry = record { first = record { 0 = c }; count = record { 0 = 1 } } in
    let refers : allocation (geometry cb false) v ≡ Some clusters = standard_cluster cb v c bits is.standard is.valid is.cluster some in
    subst (λ x. entry_uses x v ≡ used_clusters Guest (record { 0 = c }) 1 ∷ []) (inside_only g inside) (single_use cb v c clusters refers refl refl)

-- and that is data of its guest cluster
pub row_use : (g : Geometry) (guest v c : ℕ) → g.external_data_file ≡ false → IsClusterBits g.cluster_bits → IsInRow g.cluster_bits v c → 0 < c
    → entry_list g guest v ≡ one_use Data (record { 0 = c }) 1 guest ∷ []
row_use g guest v c inside bits is some =
    let cb = g.cluster_bits in
    let clusters : ClustersToFreeEntry = record { first = record { 0 = c }; count = record { 0 = 1 } } in
    let refers : allocation (geometry cb false) v ≡ Some clusters = standard_cluster cb v c bits is.standard is.valid is.cluster some in
    let here : allocation g v ≡ Some clusters = subst (λ x. allocation x v ≡ Some clusters) (inside_only g inside) refers in
    grind (arith, nat_tests, inside, here, is.standard)

-- the uses of single clusters one after another are counted as one of all of them
row_counts : (f : ℕ → List ClusterUse) (numbers : List ℕ) (i k start c cell : ℕ) → i + k ≤ length numbers
    → ((j : ℕ) → j < k → f (slice_index numbers (i + j)) ≡ used_clusters Guest (record { 0 = start + j }) 1 ∷ [])
    → fold (cell_with c) cell (flat_map f (take (i + k) numbers))
    ≡ cell_with c (fold (cell_with c) cell (flat_map f (take i numbers))) (used_clusters Guest (record { 0 = start }) k)
row_counts f numbers i zero start c cell within each = rw (add-zero i) (grind (arith, nat_tests))
row_counts f numbers i (suc k) start c cell within each =
    let sum : i + suc k ≡ i + k + 1 = omega arith in
    let last : f (get_or numbers (i + k) 0) ≡ used_clusters Guest (record { 0 = start + k }) 1 ∷ [] = each k (omega arith) in
    let before = row_counts f numbers i k start c cell (omega (arith, within)) (λ j below. each j (omega (arith, below))) in
    rw (sum, uses_more f numbers (i + k) 0 (omega (arith, within)), last, fold-append (cell_with c) cell (flat_map f (take (i + k) numbers)) (used_clusters Guest (record { 0 = start + k }) 1 ∷ []), before)
    (grind (arith, nat_tests))

-- 16 entries in a row
pub row_group : (g : Geometry) (numbers : List ℕ) (index start : ℕ) (old new : TallyState) → g.external_data_file ≡ false → IsClusterBits g.cluster_bits
    → index + 16 ≤ length numbers → IsRow g.cluster_bits numbers index start
    → CountsMore (used_clusters Guest (record { 0 = start }) 16 ∷ []) old new → CountsGroup (entry_uses g) numbers index old new
row_group g numbers index start old new inside bits within row counts = λ begun before. record {
  first = counts.first ∙ before.first;
  end = omega (arith, counts.end, before.end);
  cells = λ c from below.
      counts.cells c (omega (arith, before.first, from)) below ∙ ap (λ cell. cell_with c cell (used_clusters Guest (record { 0 = start }) 16)) (before.cells c from (omega (arith, below, counts.end)))
      ∙ sym (row_counts (entry_uses g) numbers index 16 start c (cell_at begun c) within
      (λ j small. row_entry g (slice_index numbers (index + j)) (start + j) inside bits (row.each j small) (omega (arith, row.some))));
}

-- 16 entries 0
pub unallocated_group : (g : Geometry) (numbers : List ℕ) (index : ℕ) (old : TallyState) → g.external_data_file ≡ false → index + 16 ≤ length numbers
    → ((j : ℕ) → j < 16 → slice_index numbers (index + j) ≡ 0) → CountsGroup (entry_uses g) numbers index old old
unallocated_group g numbers index old inside within zeros = λ start before.
    rw (unallocated_more (entry_uses g) numbers index 16 (unallocated_uses g inside) within zeros) before
