use Rattle.std.proofs.Common.{arith}
use Rattle.std.proofs.lemmas.Result.{err_from_is_err_and}
use Rattle.qcow2_session.proofs.ChangingLemmas.{change-printed, change-unplaced, idle-edits, loads-part, of-any, part-follows}
use Rattle.qcow2_session.proofs.EditLemmas.{edits-refused}
use Rattle.qcow2_session.proofs.PrintingLemmas.{last-printed, last-unprinted}
use Rattle.qcow2_session.proofs.commands.edit.edit_entries.Goals as goal

pub returns-in_err-cluster-clause-edits : goal.returns-in_err-cluster-clause-edits
returns-in_err-cluster-clause-edits g c = grind (arith, change-unplaced)

pub returns-in_err-outcome-clause-edits : goal.returns-in_err-outcome-clause-edits
returns-in_err-outcome-clause-edits g c =
    let exit = err_from_is_err_and c.from_residual-in_err-outcome.result c.from_residual-in_err-outcome.ensures.1 in
    let named = c.in_ok-cluster.ensures in
    let ran = c.in_err-outcome.ensures in
    rw (exit.1, exit.2) (edits-refused c.args.header.now c.args.l1_index c.args.edits.now c.in_ok-cluster.cluster _ _ _ _ _ _ _
    named.exact named.storage ran.exact ran.changes ran.idle)

pub returns-clause-edits : goal.returns-clause-edits
returns-clause-edits g c = grind (arith, change-printed, part-follows, loads-part, idle-edits, of-any)

pub returns-in_err-cluster-clause-last : goal.returns-in_err-cluster-clause-last
returns-in_err-cluster-clause-last g c = grind (arith, last-unprinted)

pub returns-in_err-outcome-clause-last : goal.returns-in_err-outcome-clause-last
returns-in_err-outcome-clause-last g c = grind (arith, last-unprinted)

pub returns-clause-last : goal.returns-clause-last
returns-clause-last g c = grind (arith, last-printed)
