use Rattle.std.proofs.Common.{◌≡◌, ◌++◌, List, Ok}
use Rattle.qcow2_base.specs.Storage.{OnImage, OnlyReads}
use Rattle.qcow2_check.specs.Flags.{IsFlagsOf, MovesFlags, flag_steps, flags_left}
use Rattle.qcow2_check.specs.Totals.{with_flags}
use Rattle.qcow2_check.specs.declared.flags.WrongFlag.{WrongFlag}
use Rattle.qcow2_check.proofs.totals.Totals.with_flags_left.Given as goal

-- the flags before those that are left are counted
abbrev pub invariant-loop-flag : goal.invariant-loop-flag
invariant-loop-flag g l =
    let old = g.S.Storage.state l.fn.image in
    record {
      counted : OnImage old (λ bytes. (counted : List WrongFlag)
          × (flags_left l.fn.flags bytes ≡ counted ++ flags_left l.flags bytes) × (l.totals ≡ with_flags l.fn.self counted));
      kept : OnImage old (λ bytes. IsFlagsOf bytes l.flags);
      reader : MovesFlags old l.fn.flags l.flags;
      storage : OnlyReads (Ok l.flags.index) old (g.S.Storage.state l.image);
    }

abbrev pub decreases-loop-flag : goal.decreases-loop-flag
decreases-loop-flag g l = flag_steps l.flags
