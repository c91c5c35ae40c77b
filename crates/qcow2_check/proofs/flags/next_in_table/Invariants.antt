use Rattle.std.proofs.Common.{◌≡◌, ◌-◌, ◌≤◌, length, Ok}
use Rattle.qcow2_base.specs.Storage.{OnImage, OnlyReads}
use Rattle.qcow2_check.specs.Counters.{IsSameButBlock, counter_of}
use Rattle.qcow2_check.specs.Flags.{l2_flags_from}
use Rattle.qcow2_check.proofs.flags.next_in_table.Given as goal

-- the wrong flags from the position on are all that are left, and the counters are those of the same image
abbrev pub invariant-loop-position : goal.invariant-loop-position
invariant-loop-position g l =
    let old = g.S.Storage.state l.fn.image in
    record {
      left : OnImage old (λ bytes.
          let counter = counter_of l.fn.counters.header l.fn.counters.reftable bytes in
          l2_flags_from l.table.geometry counter l.l1_index l.table.numbers l.fn.position
          ≡ l2_flags_from l.table.geometry counter l.l1_index l.table.numbers l.position);
      further : l.fn.position ≤ l.position;
      reader : IsSameButBlock old l.fn.counters l.counters;
      storage : OnlyReads (Ok l.position) old (g.S.Storage.state l.image);
    }

abbrev pub decreases-loop-position : goal.decreases-loop-position
decreases-loop-position g l = length l.table.numbers - l.position
