use Rattle.std.proofs.Common.{Ok}
use Rattle.qcow2_base.specs.Storage.{OnImage, OnlyReads}
use Rattle.qcow2_apply.specs.PlannedChanges.{CanCount}
use Rattle.qcow2_apply.proofs.planned_changes.check_blocks_from.Given as goal

-- the counters of the blocks before this one can count the changes
abbrev pub invariant-loop-index : goal.invariant-loop-index
invariant-loop-index g l = record {
  counts : OnImage (g.S.Storage.state l.fn.image) (CanCount l.tables l.gains l.losses l.from l.index);
  storage : OnlyReads (Ok l.index) (g.S.Storage.state l.fn.image) (g.S.Storage.state l.image);
}
