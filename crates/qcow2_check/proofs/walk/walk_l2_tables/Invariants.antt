use Rattle.std.proofs.Common.{take}
use Rattle.qcow2_check.specs.Walk.{table_list, list_from}
use Rattle.qcow2_check.proofs.walk.walk_l2_tables.Given as goal

-- the L2 tables that the entries before this one name are taken
abbrev pub invariant-loop-index : goal.invariant-loop-index
invariant-loop-index g l =
    g.U.UseSink.takes (list_from (table_list l.l1_table.geometry.cluster_bits) 0 (take l.index l.l1_table.numbers)) l.initial.sink l.sink
