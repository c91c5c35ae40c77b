use Rattle.std.proofs.Common.{◌≡◌, None, arith, rules}
use Rattle.std.proofs.lemmas.Result.{err_from_is_err_and}
use Rattle.qcow2_edits.specs.Edits.{first_unfit_edit}
use Rattle.qcow2_apply.proofs.TablesLemmas.{none-refused}
use Rattle.qcow2_apply.proofs.tables.load_edited.Goals as goal

pub returns-in_err-outcome-clause-fault : goal.returns-in_err-outcome-clause-fault
returns-in_err-outcome-clause-fault g c =
    let exit = err_from_is_err_and c.from_residual-in_err-outcome.result c.from_residual-in_err-outcome.ensures.1 in
    let fits : first_unfit_edit c.in_ok-table.table c.args.edits.now ≡ None = none-refused c.args.header.now c.in_ok-table.table c.args.edits.now
    (search rules) (search rules) c.requires.fit in
    rw (exit.1, exit.2) (grind (arith, fits, c.in_err-outcome.ensures.exact))
