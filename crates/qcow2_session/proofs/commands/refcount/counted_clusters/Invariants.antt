use Rattle.std.proofs.Common.{◌≡◌, map, take, Ok}
use Rattle.qcow2_base.specs.Storage.{OnImage, OnlyReads}
use Rattle.qcow2_check.specs.Counters.{IsSameButBlock}
use Rattle.qcow2_session.specs.Commands.Refcount.{with_counter}
use Rattle.qcow2_session.proofs.commands.refcount.counted_clusters.Given as goal

-- the clusters before this one are there with their counters
abbrev pub invariant-loop-cluster : goal.invariant-loop-cluster
invariant-loop-cluster g l =
    let old = g.S.Storage.state l.initial.image in
    let start = l.initial.counters in
    record {
      counted : OnImage old (λ bytes. l.counted.items ≡ map (with_counter start.header start.reftable bytes) (take l.cluster-index l.clusters));
      reader : IsSameButBlock old start l.counters;
      storage : OnlyReads (Ok l.cluster-index) old (g.S.Storage.state l.image);
    }
