use Rattle.std.proofs.Common.{◌-◌, ◌≤◌, length, take}
use Rattle.std.specs.Io.KnownBytes.{Appends}
use Rattle.qcow2_session.specs.Commands.Entries.{table_lines}
use Rattle.qcow2_session.proofs.commands.entries.print_entries.Given as goal

-- the lines of the entries before this one are printed
abbrev pub invariant-loop-l2_index : goal.invariant-loop-l2_index
invariant-loop-l2_index g l =
    record {
      within : l.l2_index ≤ length l.table.numbers;
      printed : Appends (g.O.Write.contents l.fn.out) (g.O.Write.contents l.out)
          (table_lines l.label l.table.geometry l.l1_index (take l.l2_index l.table.numbers));
    }

abbrev pub decreases-loop-l2_index : goal.decreases-loop-l2_index
decreases-loop-l2_index g l = length l.table.numbers - l.l2_index
