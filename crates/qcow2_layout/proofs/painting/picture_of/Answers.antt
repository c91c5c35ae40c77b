use Rattle.std.proofs.Common.{inr}
use Rattle.std.proofs.lemmas.Result.{err_from_is_err_and}
use Rattle.qcow2_metadata.specs.Header.{uncounted_part}
use Rattle.qcow2_layout.proofs.ImageLemmas.{opened-whole, reads-fail, uncounted-too}
use Rattle.qcow2_layout.proofs.painting.picture_of.Goals as goal

pub returns-in_err-layout-clause-uncounted : goal.returns-in_err-layout-clause-uncounted
returns-in_err-layout-clause-uncounted g c =
    let exit = err_from_is_err_and c.from_residual.result c.from_residual.ensures.1 in
    rw (exit.1, exit.2) (uncounted-too _ _ _ (uncounted_part c.args.header.now) c.in_err-layout.ensures.uncounted)

pub returns-in_err-paint_runs-clause-uncounted : goal.returns-in_err-paint_runs-clause-uncounted
returns-in_err-paint_runs-clause-uncounted g c =
    let exit = err_from_is_err_and c.from_residual-in_err-paint_runs.result c.from_residual-in_err-paint_runs.ensures.1 in
    rw (exit.1, exit.2) (opened-whole c.in_ok-layout.layout _ (uncounted_part c.args.header.now) c.in_ok-layout.ensures.uncounted)

pub returns-in_err-paint_runs-clause-fault : goal.returns-in_err-paint_runs-clause-fault
returns-in_err-paint_runs-clause-fault g c =
    let reads = c.in_ok-layout.ensures.reads.storage in
    let exit = err_from_is_err_and c.from_residual-in_err-paint_runs.result c.from_residual-in_err-paint_runs.ensures.1 in
    rw (exit.1, exit.2) (λ told. inr (c.in_err-paint_runs.ensures.fault.1 (rw reads.device.tells told)))

pub returns-in_err-paint_runs-clause-storage : goal.returns-in_err-paint_runs-clause-storage
returns-in_err-paint_runs-clause-storage g c =
    let exit = err_from_is_err_and c.from_residual-in_err-paint_runs.result c.from_residual-in_err-paint_runs.ensures.1 in
    rw (exit.1, exit.2) (reads-fail c.in_ok-layout.layout _ _ _ _ c.in_ok-layout.ensures.reads.storage c.in_err-paint_runs.ensures.storage)
