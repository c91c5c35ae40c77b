use Rattle.std.proofs.lemmas.Result.{err_from_is_err_and}
use Rattle.qcow2_session.proofs.PrintingLemmas.{prints_no-more, then_prints}
use Rattle.qcow2_session.proofs.commands.layout.picture.print_squares.Goals as goal

pub returns-in_err-print : goal.returns-in_err-print
returns-in_err-print g c =
    let exit = err_from_is_err_and c.from_residual.result c.from_residual.ensures.1 in
    rw (exit.1, exit.2) (prints_no-more _ _ _ _ _ (rw c.as_bytes.ensures.value at c.in_err-print.ensures))

pub returns : goal.returns
returns g c = then_prints _ _ (g.O.Write.contents c.print.new.writer) _ _ _ (rw c.as_bytes.ensures.value at c.in_ok-print.ensures.text) c.print_lines.ensures
