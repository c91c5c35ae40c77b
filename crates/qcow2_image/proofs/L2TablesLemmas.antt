use Rattle.std.proofs.lemmas.Bool.Decides.{nat_tests}
use Rattle.std.proofs.Common.{◌≡◌, ℕ, zero, suc, ◌+◌, ◌<◌, ◌≤◌, List, [], ◌∷◌, ◌++◌, drop, get_or, length, Some, None, option_map, option_to_list, inl, inr, refl, ap, arith}
use Rattle.std.proofs.lemmas.Bool.{cases_lt}
use Rattle.std.proofs.lemmas.List.{drop_more, get_or_past}
use Rattle.std.proofs.Math.ListN.{drop_of_length-le}
use Rattle.qcow2_base.specs.Storage.{Image}
use Rattle.qcow2_base.specs.declared.types.HostCluster.{HostCluster}
use Rattle.qcow2_metadata.specs.Header.{Geometry}
use Rattle.qcow2_metadata.specs.Table.{loaded_l2_table}
use Rattle.qcow2_image.specs.L2Tables.{named_tables}
use Rattle.qcow2_check.specs.NamedTables.{named_cluster}

-- tables from an index on: that of the entry there, and those from the next one on
from_index : (g : Geometry) (l1 : List ℕ) (image : Image) (i : ℕ) → i < length l1
    → named_tables g i (drop i l1) image ≡ option_to_list (option_map (λ cluster. (i, loaded_l2_table g cluster image)) (named_cluster g.cluster_bits (get_or l1 i 0))) ++ named_tables g (i + 1) (drop (i + 1) l1) image
from_index g l1 image i below = ap (λ vs. named_tables g i vs image) (drop_more l1 i 0 below)

-- where no entry names a table any more, there is none
pub none_left : (g : Geometry) (l1 : List ℕ) (image : Image) (n i : ℕ) → length l1 ≤ i + n
    → ((k : ℕ) → i ≤ k → named_cluster g.cluster_bits (get_or l1 k 0) ≡ None) → named_tables g i (drop i l1) image ≡ []
none_left g l1 image zero i past none = rw (drop_of_length-le l1 {i = i} (omega (arith, past))) refl
none_left g l1 image (suc n) i past none = elim (cases_lt i (length l1)) [
  | inl below ↦ grind (arith, from_index g l1 image i below, none, none_left g l1 image n (i + 1))
  | inr end ↦ rw (drop_of_length-le l1 end) refl
]

-- an entry that names a table is one of the L1 table's
named_below : (cb : ℕ) (l1 : List ℕ) (k : ℕ) (cluster : HostCluster) → named_cluster cb (get_or l1 k 0) ≡ Some cluster → k < length l1
named_below cb l1 k cluster named = grind (arith, nat_tests, get_or_past)

-- where the next entry that names a table is that many further on, its table is the first
pub first_left : (g : Geometry) (l1 : List ℕ) (image : Image) (n i next : ℕ) (cluster : HostCluster) → next ≡ i + n
    → ((k : ℕ) → i ≤ k → k < next → named_cluster g.cluster_bits (get_or l1 k 0) ≡ None)
    → named_cluster g.cluster_bits (get_or l1 next 0) ≡ Some cluster
    → named_tables g i (drop i l1) image ≡ (next, loaded_l2_table g cluster image) ∷ named_tables g (next + 1) (drop (next + 1) l1) image
first_left g l1 image zero i next cluster is none named =
    grind (arith, is, named, from_index g l1 image next (named_below g.cluster_bits l1 next cluster named))
first_left g l1 image (suc n) i next cluster is none named =
    let below : i < length l1 = omega (arith, is, named_below g.cluster_bits l1 next cluster named) in
    rw (from_index g l1 image i below, none i (omega arith) (omega (arith, is)))
    (first_left g l1 image n (i + 1) next cluster (omega (arith, is)) (λ k after. none k (omega (arith, after))) named)
