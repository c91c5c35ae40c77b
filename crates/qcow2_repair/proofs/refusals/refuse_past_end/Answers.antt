use Rattle.std.proofs.Common.{refl, sym}
use Rattle.std.proofs.lemmas.Result.{err_from_is_err_and}
use Rattle.qcow2_repair.proofs.RefusalsLemmas.{refused-by-header}
use Rattle.qcow2_repair.specs.Refusals.{repair_within}
use Rattle.qcow2_repair.proofs.refusals.refuse_past_end.Goals as goal

pub returns-in_err-refuse_unrepairable : goal.returns-in_err-refuse_unrepairable
returns-in_err-refuse_unrepairable g c =
    let exit = err_from_is_err_and c.from_residual.result c.from_residual.ensures.1 in
    let header = c.args.header.now in
    let state = g.S.Storage.state c.args.image.now in
    rw (exit.1, exit.2) (record {
      reads = refused-by-header _ header c.in_err-refuse_unrepairable.field-0.0 (repair_within header state.len) state
          (λ is image. rw is refl) (sym c.in_err-refuse_unrepairable.ensures);
    })
