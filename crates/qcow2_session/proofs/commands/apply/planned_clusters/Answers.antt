use Rattle.std.proofs.Common.{refl}
use Rattle.std.proofs.lemmas.Result.{err_from_is_err_and}
use Rattle.qcow2_session.proofs.commands.apply.planned_clusters.Goals as goal

pub returns-in_err-plan-clause-edits : goal.returns-in_err-plan-clause-edits
returns-in_err-plan-clause-edits g c =
    let exit = err_from_is_err_and c.from_residual.result c.from_residual.ensures.1 in
    rw (exit.1, exit.2) (λ told. c.in_err-plan.ensures.refused told)

pub returns-clause-edits : goal.returns-clause-edits
returns-clause-edits g c = λ told. (c.in_ok-plan.plan, c.in_ok-plan.ensures.planned told, refl)
