use Rattle.std.proofs.Common.{flat_map, take}
use Rattle.std.specs.Io.KnownBytes.{Appends}
use Rattle.qcow2_base.specs.declared.fault.TheConstants.Fault.{ALL}
use Rattle.qcow2_session.specs.Commands.Help.{rule_of}
use Rattle.qcow2_session.proofs.commands.help.print_rules.Given as goal

-- the rules of the faults before this one are printed
abbrev pub invariant-loop-fault : goal.invariant-loop-fault
invariant-loop-fault g l =
    Appends (g.O.Write.contents l.fn.out) (g.O.Write.contents l.out) (flat_map rule_of (take l.fault-index ALL))
