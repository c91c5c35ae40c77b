use Rattle.std.proofs.Common.{flat_map, take}
use Rattle.std.specs.Io.KnownBytes.{Appends}
use Rattle.qcow2_session.proofs.lines.print_lines.Given as goal

-- the lines of the items before this one are printed
abbrev pub invariant-loop-item : goal.invariant-loop-item
invariant-loop-item g l =
    Appends (g.O.Write.contents l.fn.out) (g.O.Write.contents l.out) (flat_map g.T.ToLine.text (take l.item-index l.items))
