use Rattle.std.proofs.Common.{◌≡◌, ℕ, ◌+◌, ◌-◌, Bool, true, false, is_some, [], ◌∷◌, Option, Some, None, IfSome, IsTrue, ◌∙◌, refl, subst, arith}
use Rattle.qcow2_metadata.specs.Entries.L2Entry.{allocation}
use Rattle.qcow2_metadata.specs.Header.{Geometry, geometry}
use Rattle.qcow2_metadata.specs.declared.entries.ClustersToFreeEntry.{ClustersToFreeEntry}
use Rattle.qcow2_check.proofs.FlagsLemmas.{inside_only}
use Rattle.qcow2_check.specs.Tally.{TallyState}
use Rattle.qcow2_check.specs.Walk.{entry_kind, entry_list, one_use}
use Rattle.qcow2_layout.proofs.WindowLemmas.{places_none}
use Rattle.qcow2_layout.specs.Window.{PlacesMore}

-- an entry that refers to none, or to one cluster
no-list : (g : Geometry) (guest v : ℕ) → allocation g v ≡ None → entry_list g guest v ≡ []
no-list g guest v none = by_file g.external_data_file refl
  where
    by_file : (external : Bool) → g.external_data_file ≡ external → entry_list g guest v ≡ []
    by_file true is = grind (arith, is, none)
    by_file false is = grind (arith, is, none)

one-list : (g : Geometry) (guest v first : ℕ) (clusters : ClustersToFreeEntry) → g.external_data_file ≡ false → allocation g v ≡ Some clusters
    → clusters.first.0 ≡ first → clusters.count.0 ≡ 1 → entry_list g guest v ≡ one_use (entry_kind v) (record { 0 = first }) 1 guest ∷ []
one-list g guest v first clusters inside refers at one = grind (arith, inside, refers, at, one)

-- so its reference is placed, if it has any
pub single_placed : (g : Geometry) (guest v first last : ℕ) (used : Bool) (old new : TallyState) → g.external_data_file ≡ false → first ≡ last
    → used ≡ is_some (allocation (geometry g.cluster_bits false) v)
    → IfSome (allocation (geometry g.cluster_bits false) v) (λ clusters. (clusters.first.0 ≡ first) × (clusters.count.0 ≡ last - first + 1))
    → (IsTrue used → PlacesMore (one_use (entry_kind v) (record { 0 = first }) 1 guest ∷ []) old new) → (used ≡ false → new ≡ old)
    → PlacesMore (entry_list g guest v) old new
single_placed g guest v first last used old new inside single refers bounds places same =
    by_clusters (allocation g v) refl (subst (λ x. used ≡ is_some (allocation x v)) (inside_only g inside) refers)
    (subst (λ x. IfSome (allocation x v) (λ clusters. (clusters.first.0 ≡ first) × (clusters.count.0 ≡ last - first + 1))) (inside_only g inside) bounds)
  where
    by_clusters : (found : Option ClustersToFreeEntry) → allocation g v ≡ found → used ≡ is_some (allocation g v)
        → IfSome (allocation g v) (λ clusters. (clusters.first.0 ≡ first) × (clusters.count.0 ≡ last - first + 1)) → PlacesMore (entry_list g guest v) old new
    by_clusters None none is ends =
        let unused : used ≡ false = is ∙ rw none refl in
        rw (no-list g guest v none, same unused) (places_none old)
    by_clusters (Some clusters) some is ends =
        let both : (clusters.first.0 ≡ first) × (clusters.count.0 ≡ last - first + 1) = rw some at ends in
        let one : clusters.count.0 ≡ 1 = omega (arith, both.1, single) in
        let is_used : used ≡ true = is ∙ rw some refl in
        rw (one-list g guest v first clusters inside some both.0 one) (places is_used)
