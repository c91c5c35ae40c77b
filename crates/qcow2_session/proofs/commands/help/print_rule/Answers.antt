use Rattle.std.proofs.lemmas.Result.{err_from_is_err_and}
use Rattle.qcow2_help.specs.FaultTexts.{fault_text}
use Rattle.qcow2_session.proofs.HelpLemmas.{rule_ends, rule_is_cut}
use Rattle.qcow2_session.proofs.commands.help.print_rule.Goals as goal

pub returns-in_err-print : goal.returns-in_err-print
returns-in_err-print g c =
    let exit = err_from_is_err_and c.from_residual.result c.from_residual.ensures.1 in
    let is = rw c.fault_help-text.ensures at c.first_line.ensures in
    let line = rw c.as_bytes.ensures.value at c.in_err-print.ensures in
    rw (exit.1, exit.2) (rule_is_cut _ _ _ (fault_text c.args.fault.now) _ is line)

pub returns : goal.returns
returns g c =
    let is = rw c.fault_help-text.ensures at c.first_line.ensures in
    let line = rw c.as_bytes.ensures.value at c.in_ok-print.ensures.text in
    rule_ends _ _ (g.O.Write.contents c.print.new.writer) _ (fault_text c.args.fault.now) _ is line c.print-2.ensures
