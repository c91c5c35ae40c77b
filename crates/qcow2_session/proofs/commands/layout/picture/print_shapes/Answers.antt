use Rattle.std.proofs.lemmas.Result.{err_from_is_err_and}
use Rattle.qcow2_session.proofs.PrintingLemmas.{prints_no-more, then_prints}
use Rattle.qcow2_session.proofs.commands.layout.picture.print_shapes.Goals as goal

pub returns-in_err-print_squares : goal.returns-in_err-print_squares
returns-in_err-print_squares g c =
    let exit = err_from_is_err_and c.from_residual.result c.from_residual.ensures.1 in
    rw (exit.1, exit.2) (prints_no-more _ _ _ _ _ c.in_err-print_squares.ensures)

pub returns : goal.returns
returns g c = then_prints _ _ (g.O.Write.contents c.print_squares.new.out) _ _ _ c.in_ok-print_squares.ensures.text c.print_legend.ensures
