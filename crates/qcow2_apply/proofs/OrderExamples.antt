-- Examples of lists of changed clusters that are in order, and of those that aren't.
use Rattle.std.proofs.Common.{◌≡◌, ℕ, zero, suc, ◌<◌, ◌≤◌, [], ◌∷◌, arith}
use Rattle.std.proofs.lemmas.Bool.Decides.{nat_tests}
use Rattle.std.specs.List.Sorted.{IsStrictlyIncreasing}
use Rattle.qcow2_base.specs.Format.{max_file_length}
use Rattle.qcow2_base.specs.Storage.{Image}
use Rattle.qcow2_edits.specs.Edits.{cluster_numbers}
use Rattle.qcow2_metadata.specs.Table.L2Guards.{handed_back, times_gained}
use Rattle.qcow2_metadata.specs.declared.entries.ClustersToFreeEntry.{ClustersToFreeEntry}
use Rattle.qcow2_apply.specs.CounterTables.{CounterTablesState}
use Rattle.qcow2_apply.specs.ChangedClusters.{ListsChanges, bounds_of, kept_clusters, times_kept}
use Rattle.qcow2_apply.specs.declared.changed_clusters.ChangedClusters.{ChangedClusters}
use Rattle.qcow2_apply.specs.declared.changes.Changes.{Changes}

abbrev pub range : ℕ → ℕ → ClustersToFreeEntry
range first count = record { first = record { 0 = first }; count = record { 0 = count } }

-- ranges that lie apart are in order
apart : IsStrictlyIncreasing (bounds_of (range 5 2 ∷ range 8 1 ∷ []))
apart zero below = omega arith
apart (suc zero) below = omega arith
apart (suc (suc zero)) below = omega arith
apart (suc (suc (suc k))) below = absurd (omega (arith, below))

-- an empty one isn't, nor are two that could be joined, two that overlap, and two the other way round
empty : IsStrictlyIncreasing (bounds_of (range 5 0 ∷ [])) → ⊥
empty up = absurd (let less : 5 < 5 = up 0 (omega arith) in omega (arith, less))

meeting : IsStrictlyIncreasing (bounds_of (range 5 2 ∷ range 7 1 ∷ [])) → ⊥
meeting up = absurd (let less : 7 < 7 = up 1 (omega arith) in omega (arith, less))

overlapping : IsStrictlyIncreasing (bounds_of (range 5 2 ∷ range 6 3 ∷ [])) → ⊥
overlapping up = absurd (let less : 7 < 6 = up 1 (omega arith) in omega (arith, less))

backwards : IsStrictlyIncreasing (bounds_of (range 8 1 ∷ range 5 2 ∷ [])) → ⊥
backwards up = absurd (let less : 9 < 5 = up 1 (omega arith) in omega (arith, less))

-- nor are clusters the other way round, or one that comes twice
kept-backwards : (a b : ℕ) → IsStrictlyIncreasing (kept_clusters (record { cluster = record { 0 = 9 }; counter = a } ∷ record { cluster = record { 0 = 4 }; counter = b } ∷ [])) → ⊥
kept-backwards a b up = absurd (let less : 9 < 4 = up 0 (omega arith) in omega (arith, less))

gained-twice : IsStrictlyIncreasing (cluster_numbers (record { 0 = 9 } ∷ record { 0 = 9 } ∷ [])) → ⊥
gained-twice up = absurd (let less : 9 < 9 = up 0 (omega arith) in omega (arith, less))

-- no cluster from 2^56 on is listed
none-far : (tables : CounterTablesState) (gains losses : Changes) (image : Image) (clusters : ChangedClusters) (n c : ℕ)
    → ListsChanges tables gains losses image clusters → max_file_length ≤ c
    → (handed_back clusters.freed.items c ≡ 0) × (times_kept clusters.kept.items n c ≡ 0) × (times_gained (cluster_numbers clusters.gained.items) c ≡ 0)
none-far tables gains losses image clusters n c lists far = (
  grind (arith, nat_tests, lists.freed_is c, far),
  grind (arith, nat_tests, lists.kept_is n c, far),
  grind (arith, nat_tests, lists.gained_is c, far),
)
