use Rattle.std.proofs.Common.{◌≡◌, ◌-◌, ◌≤◌, length, take}
use Rattle.qcow2_check.specs.Walk.{entries_list}
use Rattle.qcow2_layout.specs.Window.{PlacesMore}
use Rattle.qcow2_layout.proofs.places.WindowUseSink.take_table.Given as goal

-- what the entries before this one refer to is placed
abbrev pub invariant-loop-index : goal.invariant-loop-index
invariant-loop-index l = record {
  within : l.index ≤ length l.table.numbers;
  all : l.entries ≡ length l.table.numbers;
  bits : l.cluster_bits ≡ l.table.geometry.cluster_bits;
  taken : PlacesMore (entries_list l.table.geometry l.l1_index (take l.index l.table.numbers)) l.initial.self l.self;
}

abbrev pub decreases-loop-index : goal.decreases-loop-index
decreases-loop-index l = length l.table.numbers - l.index
