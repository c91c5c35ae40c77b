use Rattle.std.proofs.Common.{◌*◌, Ok}
use Rattle.qcow2_base.specs.Storage.{OnImage, OnlyReads}
use Rattle.qcow2_check.specs.Counters.{counters_each}
use Rattle.qcow2_apply.specs.ChangedClusters.{EndInOrder, HasListed}
use Rattle.qcow2_apply.specs.PlannedChanges.{CanCount}
use Rattle.qcow2_apply.proofs.changed_clusters.list_changed.Given as goal

-- the clusters of the blocks before this one are listed, in their order
abbrev pub invariant-loop-index : goal.invariant-loop-index
invariant-loop-index g l = record {
  listed : OnImage (g.S.Storage.state l.fn.image) (λ bytes. HasListed l.tables l.gains l.losses l.index bytes l.clusters);
  order : EndInOrder (l.index * counters_each l.tables.header) l.clusters;
  counts : OnImage (g.S.Storage.state l.fn.image) (CanCount l.tables l.gains l.losses 0 l.index);
  storage : OnlyReads (Ok l.index) (g.S.Storage.state l.fn.image) (g.S.Storage.state l.image);
}
