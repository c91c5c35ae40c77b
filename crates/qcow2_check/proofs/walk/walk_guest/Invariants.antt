use Rattle.qcow2_metadata.specs.Header.{geometry_of}
use Rattle.qcow2_check.proofs.SinkLemmas.{AreWalked}
use Rattle.qcow2_check.specs.Walk.{l1_list}
use Rattle.qcow2_check.proofs.walk.walk_guest.Given as goal

-- the L2 tables that the entries before this one name are loaded, and what they refer to is taken
abbrev pub invariant-loop-index : goal.invariant-loop-index
invariant-loop-index g l = AreWalked g.U.UseSink.takes (geometry_of l.tables.header) l.tables.l1 (l1_list (geometry_of l.tables.header)) l.index
    (g.S.Storage.state l.fn.image) (g.S.Storage.state l.image) l.fn.sink l.sink
