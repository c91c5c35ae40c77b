use Rattle.qcow2_metadata.specs.Header.{geometry_of}
use Rattle.qcow2_check.proofs.RepeatedLemmas.{unrepeated_uses}
use Rattle.qcow2_check.proofs.SinkLemmas.{AreWalked}
use Rattle.qcow2_check.proofs.walk.walk_guest_once.Given as goal

-- the L2 tables that the entries before this one name can be loaded, and what those refer to that count there is taken
abbrev pub invariant-loop-index : goal.invariant-loop-index
invariant-loop-index g l =
    AreWalked g.U.UseSink.takes (geometry_of l.tables.header) l.tables.l1 (unrepeated_uses (geometry_of l.tables.header) l.repeats) l.index
    (g.S.Storage.state l.fn.image) (g.S.Storage.state l.image) l.fn.sink l.sink
