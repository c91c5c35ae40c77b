use Rattle.std.proofs.Common.{take}
use Rattle.qcow2_check.specs.Walk.{block_list, list_from}
use Rattle.qcow2_check.proofs.walk.walk_blocks.Given as goal

-- the blocks that the entries before this one name are taken
abbrev pub invariant-loop-index : goal.invariant-loop-index
invariant-loop-index g l =
    g.U.UseSink.takes (list_from (block_list l.reftable.geometry.cluster_bits) 0 (take l.index l.reftable.numbers)) l.initial.sink l.sink
