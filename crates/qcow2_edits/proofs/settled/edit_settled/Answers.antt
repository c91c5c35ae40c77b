use Rattle.std.proofs.Common.{arith}
use Rattle.std.proofs.lemmas.Result.{err_from_is_err_and}
use Rattle.qcow2_edits.proofs.settled.edit_settled.Goals as goal

pub returns-in_err-settle-clause-exact : goal.returns-in_err-settle-clause-exact
returns-in_err-settle-clause-exact c =
    let exit = err_from_is_err_and c.from_residual-in_err-settle.result c.from_residual-in_err-settle.ensures.1 in
    rw (exit.1, exit.2) (grind (arith, c.in_err-settle.ensures.exact))
