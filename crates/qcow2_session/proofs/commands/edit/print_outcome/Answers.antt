use Rattle.std.proofs.lemmas.List.Folds.{flat_map-map}
use Rattle.std.proofs.lemmas.Result.{err_from_is_err_and}
use Rattle.qcow2_base.specs.declared.types.HostCluster.{HostCluster}
use Rattle.qcow2_session.proofs.PrintingLemmas.{prints_no-more, then_prints}
use Rattle.qcow2_session.specs.Commands.Edit.{gained_line}
use Rattle.qcow2_session.proofs.commands.edit.print_outcome.Goals as goal

pub returns-in_err-print_lines : goal.returns-in_err-print_lines
returns-in_err-print_lines g c =
    let exit = err_from_is_err_and c.from_residual.result c.from_residual.ensures.1 in
    rw (exit.1, exit.2) (prints_no-more _ _ _ _ _ (rw c.as_slice.ensures.value at c.in_err-print_lines.ensures))

pub returns : goal.returns
returns g c =
    let gained = rw c.as_slice-2.ensures.value at c.print_lines-2.ensures in
    let freed = rw c.as_slice.ensures.value at c.in_ok-print_lines.ensures.text in
    rw (flat_map-map gained_line (λ (cluster : HostCluster). cluster.0) c.args.outcome.now.gained.items)
    (then_prints c.print_lines-2.result _ _ _ _ _ freed gained)
