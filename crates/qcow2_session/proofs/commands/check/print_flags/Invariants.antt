use Rattle.std.proofs.Common.{◌≡◌, ◌++◌, List, Ok, flat_map}
use Rattle.std.specs.Io.KnownBytes.{Appends}
use Rattle.qcow2_base.specs.Storage.{OnImage, OnlyReads}
use Rattle.qcow2_check.specs.Flags.{IsFlagsOf, MovesFlags, flags_left, flag_steps}
use Rattle.qcow2_check.specs.Totals.{with_flags}
use Rattle.qcow2_check.specs.declared.flags.WrongFlag.{WrongFlag}
use Rattle.qcow2_session.specs.Commands.Check.Lines.{flag_line}
use Rattle.qcow2_session.proofs.commands.check.print_flags.Given as goal

-- the flags before those that are left are printed and counted
abbrev pub invariant-loop-flag : goal.invariant-loop-flag
invariant-loop-flag g l =
    let old = g.S.Storage.state l.fn.image in
    record {
      printed : OnImage old (λ bytes. (printed : List WrongFlag)
          × (flags_left l.fn.flags bytes ≡ printed ++ flags_left l.flags bytes)
          × Appends (g.O.Write.contents l.fn.out) (g.O.Write.contents l.out) (flat_map flag_line printed)
          × (l.totals ≡ with_flags l.fn.totals printed));
      kept : OnImage old (λ bytes. IsFlagsOf bytes l.flags);
      reader : MovesFlags old l.fn.flags l.flags;
      storage : OnlyReads (Ok l.flags.index) old (g.S.Storage.state l.image);
    }

abbrev pub decreases-loop-flag : goal.decreases-loop-flag
decreases-loop-flag g l = flag_steps l.flags
