use Rattle.std.proofs.lemmas.Result.{err_from_is_err_and}
use Rattle.qcow2_session.proofs.PrintingLemmas.{prints_no-more, then_prints}
use Rattle.qcow2_session.proofs.commands.apply.print_changes.Goals as goal

pub returns-in_err-print_clusters : goal.returns-in_err-print_clusters
returns-in_err-print_clusters g c =
    let exit = err_from_is_err_and c.from_residual.result c.from_residual.ensures.1 in
    rw (exit.1, exit.2) (prints_no-more _ _ _ _ _ c.in_err-print_clusters.ensures)

pub returns : goal.returns
returns g c = then_prints c.print_bitmaps.result _ _ _ _ _ c.in_ok-print_clusters.ensures.text c.print_bitmaps.ensures
