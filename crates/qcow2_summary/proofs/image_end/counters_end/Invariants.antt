use Rattle.std.proofs.Common.{◌≡◌, ℕ, false, ◌<◌, ◌≤◌, Ok}
use Rattle.qcow2_base.specs.Storage.{OnImage, OnlyReads}
use Rattle.qcow2_check.specs.Counters.{IsSameButBlock}
use Rattle.qcow2_summary.specs.ImageEnd.{is_counted}
use Rattle.qcow2_summary.proofs.image_end.counters_end.Given as goal

-- no cluster from the number on has a counter, below the limit
abbrev pub invariant-loop-end : goal.invariant-loop-end
invariant-loop-end g l =
    let old = g.S.Storage.state l.fn.image in
    record {
      none : OnImage old (λ bytes. (c : ℕ) → l.end ≤ c → c < l.limit
          → is_counted l.fn.counters.header l.fn.counters.reftable bytes c ≡ false);
      within : l.end ≤ l.limit;
      reader : IsSameButBlock old l.fn.counters l.counters;
      storage : OnlyReads (Ok l.end) old (g.S.Storage.state l.image);
    }

abbrev pub decreases-loop-end : goal.decreases-loop-end
decreases-loop-end g l = l.end
