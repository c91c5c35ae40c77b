use Rattle.std.proofs.Common.{◌≡◌, ◌%◌, ◌<◌, ◌-◌, length, Ok}
use Rattle.std.specs.Int.{div_ceil}
use Rattle.qcow2_base.specs.Storage.{OnImage, OnlyReads}
use Rattle.qcow2_check.specs.Counters.{IsSameButBlock, counter_of, counters_each}
use Rattle.qcow2_check.specs.Soles.{AreSoles}
use Rattle.qcow2_check.proofs.soles.Soles.load.Given as goal

-- the marks of the blocks before this one are right, by the counters of the same image
abbrev pub invariant-loop-first : goal.invariant-loop-first
invariant-loop-first g l =
    let old = g.S.Storage.state l.fn.image in
    record {
      soles : OnImage old (λ bytes. AreSoles (counter_of l.fn.counters.header l.fn.counters.reftable bytes) l.soles);
      len : length l.soles ≡ div_ceil l.end 64;
      first : l.first < l.end → l.first % counters_each l.fn.counters.header ≡ 0;
      reader : IsSameButBlock old l.fn.counters l.counters;
      storage : OnlyReads (Ok l.first) old (g.S.Storage.state l.image);
    }

abbrev pub decreases-loop-first : goal.decreases-loop-first
decreases-loop-first g l = l.end - l.first
