use Rattle.qcow2_check.specs.Walk.{row_list}
use Rattle.qcow2_layout.specs.Window.{PlacesMore}
use Rattle.qcow2_layout.proofs.places.place_each.Given as goal

-- the clusters before this one are placed
abbrev pub invariant-loop-k : goal.invariant-loop-k
invariant-loop-k l = PlacesMore (row_list l.first l.guest l.k) l.initial.window l.window
