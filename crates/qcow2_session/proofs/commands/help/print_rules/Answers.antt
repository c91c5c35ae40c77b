use Rattle.std.proofs.lemmas.Result.{err_from_is_err_and}
use Rattle.qcow2_base.specs.declared.fault.TheConstants.Fault.{ALL}
use Rattle.qcow2_base.specs.declared.fault.Fault.TheVariants.{NotQcow2}
use Rattle.qcow2_session.proofs.PrintingLemmas.{failed_at, printed-more}
use Rattle.qcow2_session.specs.Commands.Help.{rule_of}
use Rattle.qcow2_session.proofs.commands.help.print_rules.Goals as goal

pub returns-in_err-print_rule : goal.returns-in_err-print_rule
returns-in_err-print_rule g c =
    let exit = err_from_is_err_and c.from_residual.result c.from_residual.ensures.1 in
    rw (exit.1, exit.2) (failed_at rule_of ALL c.loop-fault.fault-index NotQcow2 _ _ (g.O.Write.contents c.loop-fault.out) _ c.loop-fault-test.true c.loop-fault.invariant c.in_err-print_rule.ensures)

pub loop-fault-preserved : goal.loop-fault-preserved
loop-fault-preserved g c =
    printed-more rule_of ALL c.loop-fault.fault-index NotQcow2 _ (g.O.Write.contents c.loop-fault.out) _ c.loop-fault-test.true c.loop-fault.invariant c.in_ok-print_rule.ensures.text
