use Rattle.std.proofs.lemmas.Result.{err_from_is_err_and}
use Rattle.qcow2_session.proofs.PrintingLemmas.{failed_at}
use Rattle.qcow2_session.proofs.lines.print_lines.Goals as goal

pub returns-in_err-print : goal.returns-in_err-print
returns-in_err-print g c =
    let exit = err_from_is_err_and c.from_residual.result c.from_residual.ensures.1 in
    let line = rw (c.as_bytes.ensures, c.put_in.ensures, c.item-item.is) at c.in_err-print.ensures in
    rw (exit.1, exit.2) (failed_at g.T.ToLine.text c.args.items.now c.loop-item.item-index _ _ _ _ _ c.loop-item-test.true c.loop-item.invariant line)
