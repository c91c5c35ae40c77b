use Rattle.std.proofs.Common.{flat_map}
use Rattle.qcow2_session.specs.Commands.Check.Json.{escaped_char}
use Rattle.qcow2_session.specs.Lines.Output.{Gets, GoesOn}
use Rattle.qcow2_session.proofs.commands.check.json.print_escaped.Given as goal

-- the characters before this one are printed
abbrev pub invariant-loop-character : goal.invariant-loop-character
invariant-loop-character g l = record {
  text : Gets g.O.Write.contents l.fn.out l.out (flat_map escaped_char l.yielded);
  goes_on : GoesOn l.fn.out l.out;
}
