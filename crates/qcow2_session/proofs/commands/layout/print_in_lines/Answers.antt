use Rattle.std.proofs.Common.{refl, rules}
use Rattle.std.proofs.lemmas.Result.{err_from_is_err_and}
use Rattle.qcow2_image.proofs.LookupsLemmas.{reads-then_for}
use Rattle.qcow2_layout.specs.Layout.{layout_tables}
use Rattle.qcow2_session.proofs.LayoutLemmas.{layout-none, layout-printed}
use Rattle.qcow2_session.proofs.PrintingLemmas.{reads-calm}
use Rattle.qcow2_session.proofs.commands.layout.print_in_lines.Goals as goal

pub returns-in_err-layout-clause-prints : goal.returns-in_err-layout-clause-prints
returns-in_err-layout-clause-prints g c =
    let exit = err_from_is_err_and c.from_residual.result c.from_residual.ensures.1 in
    rw (exit.1, exit.2) (layout-none _ c.args.header.now _ (g.S.Storage.state c.args.image.now) _ _ (λ told. search rules) (λ storage. search rules))

pub returns-clause-prints : goal.returns-clause-prints
returns-clause-prints g c =
    let reads = c.in_ok-layout.ensures.reads.storage in
    let layout = c.in_ok-layout.layout in
    layout-printed _ c.args.header.now (layout_tables layout) layout _ (g.S.Storage.state c.args.image.now) _ _ _ _ refl
    (λ told. c.in_ok-layout.ensures.reads.exact told) c.in_ok-layout.ensures.begun.1 reads.bytes reads.device.tells (reads-calm layout _ _ reads)
    c.print_runs.ensures.prints

pub returns-clause-storage : goal.returns-clause-storage
returns-clause-storage g c =
    reads-then_for c.in_ok-layout.layout _ _ _ c.in_ok-layout.ensures.reads.storage c.print_runs.ensures.storage
