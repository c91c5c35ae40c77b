use Rattle.std.proofs.lemmas.List.Folds.{flat_map-map}
use Rattle.std.proofs.lemmas.Result.{err_from_is_err_and}
use Rattle.qcow2_base.specs.declared.types.HostCluster.{HostCluster}
use Rattle.qcow2_session.proofs.PrintingLemmas.{prints_no-more, then_prints}
use Rattle.qcow2_session.specs.Commands.Edit.{gained_line}
use Rattle.qcow2_session.proofs.commands.apply.print_clusters.Goals as goal

pub returns-in_err-print_lines : goal.returns-in_err-print_lines
returns-in_err-print_lines g c =
    let exit = err_from_is_err_and c.from_residual.result c.from_residual.ensures.1 in
    rw (exit.1, exit.2) (prints_no-more _ _ _ _ _ (rw c.as_slice.ensures.value at c.in_err-print_lines.ensures))

pub returns-in_err-print_lines-2 : goal.returns-in_err-print_lines-2
returns-in_err-print_lines-2 g c =
    let exit = err_from_is_err_and c.from_residual-in_err-print_lines-2.result c.from_residual-in_err-print_lines-2.ensures.1 in
    let freed = rw c.as_slice.ensures.value at c.in_ok-print_lines.ensures.text in
    rw (exit.1, exit.2) (then_prints _ _ _ _ _ _ freed (prints_no-more _ _ _ _ _ (rw c.as_slice-2.ensures.value at c.in_err-print_lines-2.ensures)))

pub returns : goal.returns
returns g c =
    let gained = rw c.as_slice-3.ensures.value at c.print_lines-3.ensures in
    let kept = rw c.as_slice-2.ensures.value at c.in_ok-print_lines-2.ensures.text in
    let freed = rw c.as_slice.ensures.value at c.in_ok-print_lines.ensures.text in
    rw (flat_map-map gained_line (λ (cluster : HostCluster). cluster.0) c.args.clusters.now.gained.items)
    (then_prints c.print_lines-3.result _ _ _ _ _ freed (then_prints c.print_lines-3.result _ _ _ _ _ kept gained))
