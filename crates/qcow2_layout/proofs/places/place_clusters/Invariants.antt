use Rattle.std.proofs.Common.{◌-◌, ◌≤◌, [], ◌∷◌}
use Rattle.qcow2_check.specs.Walk.{one_use}
use Rattle.qcow2_layout.specs.Window.{PlacesMore}
use Rattle.qcow2_layout.proofs.places.place_clusters.Given as goal

-- the clusters before this one are placed
abbrev pub invariant-loop-cluster : goal.invariant-loop-cluster
invariant-loop-cluster l = record {
  placed : PlacesMore (one_use l.used.kind l.used.clusters.first (l.cluster - l.used.clusters.first.0) l.used.owner ∷ []) l.initial.window l.window;
  within : l.cluster ≤ l.cluster-end;
}
