use Rattle.std.proofs.Common.{take}
use Rattle.qcow2_edits.specs.Settled.{ChangesBlock, change_in, times_counted}
use Rattle.qcow2_edits.proofs.settled.count_list.Given as goal

-- the counters of the clusters before this one are changed
abbrev pub invariant-loop-at : goal.invariant-loop-at
invariant-loop-at g l =
    ChangesBlock (change_in l.direction) (times_counted g.C.Counted.clusters (take l.at l.list) l.first) l.initial.block l.block
