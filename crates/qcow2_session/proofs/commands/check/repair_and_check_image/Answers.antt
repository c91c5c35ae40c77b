use Rattle.std.proofs.Common.{Err, Ok, refl}
use Rattle.std.proofs.lemmas.Result.{err_from_is_err_and}
use Rattle.qcow2_session.proofs.CheckLemmas.{repaired-outside}
use Rattle.qcow2_session.proofs.commands.check.repair_and_check_image.Goals as goal

pub returns-in_err-header : goal.returns-in_err-header
returns-in_err-header g c =
    let exit = err_from_is_err_and c.from_residual.result c.from_residual.ensures.1 in
    rw (exit.1, exit.2) (Err c.in_err-header.field-0.0, g.S.Storage.state c.repair_image.new.image, c.in_err-header.ensures.repairs, c.in_err-header.ensures.end, (refl, refl, refl))

pub returns : goal.returns
returns g c =
    let left = g.S.Storage.state c.repair_image.new.image in
    let outside = repaired-outside c.args.header c.in_ok-header.header c.check_image.result g.O.Write.contents (g.S.Storage.state c.args.image.now) left
    (g.S.Storage.state c.check_image.new.image) c.args.out.now c.check_image.new.out c.every_header_is_valid.ensures
    (g.met.S.Storage.byte_fits c.args.image.now) c.in_ok-header.ensures.repairs c.check_image.ensures.prints in
    (Ok c.in_ok-header.header, left, c.in_ok-header.ensures.repairs, c.in_ok-header.ensures.end, ((c.check_image.ensures.prints, c.check_image.ensures.storage), outside))
