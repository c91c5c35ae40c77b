use Rattle.std.proofs.Common.{Ok}
use Rattle.qcow2_base.specs.Storage.{OnlyReads}
use Rattle.qcow2_check.specs.Counters.{IsSameButBlock}
use Rattle.qcow2_explain.proofs.clusters.first_shared.Given as goal

-- the reader reads the same image, of which no byte has changed
abbrev pub invariant-loop-l1_index : goal.invariant-loop-l1_index
invariant-loop-l1_index g l = record {
  reader : IsSameButBlock (g.S.Storage.state l.initial.image) l.initial.counters l.counters;
  storage : OnlyReads (Ok l.l1_index) (g.S.Storage.state l.initial.image) (g.S.Storage.state l.image);
}
