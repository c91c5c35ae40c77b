use Rattle.std.proofs.Common.{refl, sym}
use Rattle.std.proofs.lemmas.Result.{err_from_is_err_and}
use Rattle.qcow2_repair.proofs.RefusalsLemmas.{refused-by-header}
use Rattle.qcow2_repair.specs.Refusals.{repairable_tables}
use Rattle.qcow2_repair.proofs.refusals.repairable_tables.Goals as goal

pub returns-in_err-refuse_unrepairable-clause-reads : goal.returns-in_err-refuse_unrepairable-clause-reads
returns-in_err-refuse_unrepairable-clause-reads g c =
    let exit = err_from_is_err_and c.from_residual.result c.from_residual.ensures.1 in
    let header = c.args.header.now in
    rw (exit.1, exit.2) (refused-by-header _ header c.in_err-refuse_unrepairable.field-0.0 (repairable_tables header) (g.S.Storage.state c.args.image.now)
    (λ is image. rw is refl) (sym c.in_err-refuse_unrepairable.ensures))
