use Rattle.std.proofs.Common.{refl}
use Rattle.std.proofs.lemmas.Result.{err_from_is_err_and}
use Rattle.qcow2_session.proofs.RunningOnFilesLemmas.{changed-since, closed-file, not-opened, placed-beside}
use Rattle.qcow2_session.specs.Commands.{facts_of}
use Rattle.qcow2_session.proofs.commands.running.run_on_file.Goals as goal

pub returns-in_err-image-clause-runs : goal.returns-in_err-image-clause-runs
returns-in_err-image-clause-runs g c =
    let exit = err_from_is_err_and c.from_residual.result c.from_residual.ensures.1 in
    not-opened c.args.command.now c.args.path.now _ _ _ g.O.Write.contents _ (rw (exit.1, exit.2, c.in_err-image.ensures.fault) refl)
    c.in_err-image.ensures.opens.refused

pub returns-clause-runs : goal.returns-clause-runs
returns-clause-runs g c =
    let opened = c.in_ok-image.ensures.opens.opened in
    closed-file g.R.Image.ImageFile.content c.args.command.now c.args.path.now _ _ _ _ _ _ _ _ g.O.Write.contents _ _
    opened.0 opened.1 c.run_in_file-image.ensures.runs
    opened.2 c.is_in_use.ensures c.unless_in_use-told.ensures.told c.close_image.ensures

pub returns-clause-place : goal.returns-clause-place
returns-clause-place g c =
    placed-beside _ (facts_of c.args.command.now).place_fault c.run_in_file-image.result.1 c.unless_in_use-told.result c.unless_in_use-told.ensures.errs
    c.run_in_file-image.ensures.place

pub returns-clause-others : goal.returns-clause-others
returns-clause-others g c =
    changed-since c.args.path.now _ _ _ c.in_ok-image.ensures.opens.opened.2 c.close_image.ensures.others
