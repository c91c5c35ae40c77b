use Rattle.std.proofs.Common.{◌≡◌, rules, ap, ◌∙◌}
use Rattle.std.proofs.lemmas.Result.{err_from_is_err_and}
use Rattle.qcow2_check.proofs.TotalsLemmas.{known-before}
use Rattle.qcow2_check.specs.FileEnd.{file_clusters}
use Rattle.qcow2_check.specs.Findings.{tables_of}
use Rattle.qcow2_check.specs.Flags.{flag_tables, flags_left, image_flags}
use Rattle.qcow2_check.specs.Totals.{cluster_totals, with_flags}
use Rattle.qcow2_summary.specs.ImageEnd.{findings_end, image_end}
use Rattle.qcow2_session.proofs.AccountLemmas.{reads-done, reads-failed, tables-kept}
use Rattle.qcow2_session.proofs.commands.check.account.totals_and_end.Goals as goal

pub returns-clause-found : goal.returns-clause-found
returns-clause-found g c = λ told.
    let state = g.S.Storage.state c.args.image.now in
    let mid = g.S.Storage.state c.count_clusters.new.image in
    let late = g.S.Storage.state c.with_flags_left.new.image in
    let image = state.byte_at in
    let tables = tables_of c.args.findings in
    let file = file_clusters state.len c.args.header.now in
    let flags = c.into_flags-flags.result in
    let one = c.in_ok-past.ensures.storage in
    let other = c.in_ok-totals.ensures.storage in
    let found = c.in_ok-past.ensures.found.1 told in
    let same = c.in_ok-past.ensures.reader.0 in
    let clusters : c.in_ok-past.found.totals ≡ cluster_totals file tables image =
    found.0 ∙ ap (λ header. cluster_totals (file_clusters state.len header) tables image) c.requires.header in
    let counted : c.in_ok-totals.totals ≡ with_flags c.in_ok-past.found.totals (flags_left flags image) =
    known-before (λ bytes. c.in_ok-totals.totals ≡ with_flags c.in_ok-past.found.totals (flags_left flags bytes)) state mid one.device.tells one.bytes c.in_ok-totals.ensures.totals told in
    let kept = tables-kept c.args.findings c.in_ok-past.past flags c.with_flags_left.new.flags c.into_counters-counters.result same (ap flag_tables c.into_flags-flags.ensures.flags)
    c.in_ok-totals.ensures.reader.tables c.into_counters-counters.ensures (search rules) in (
      counted ∙ ap (with_flags c.in_ok-past.found.totals) (c.into_flags-flags.ensures.left image ∙ ap (λ t. image_flags t image) same)
          ∙ ap (λ totals. with_flags totals (image_flags tables image)) clusters,
      known-before (λ bytes. c.in_ok-past.found.end ≡ findings_end tables bytes → c.in_ok-end.end ≡ image_end tables bytes) state late
          (other.device.tells ∙ one.device.tells) (other.bytes ∙ one.bytes) (c.in_ok-end.ensures.end tables kept.0 kept.1) told found.1,
    )

pub returns-in_err-totals-clause-fault : goal.returns-in_err-totals-clause-fault
returns-in_err-totals-clause-fault g c =
    let exit = err_from_is_err_and c.from_residual-in_err-totals.result c.from_residual-in_err-totals.ensures.1 in
    rw (exit.1, exit.2) (λ told. c.in_err-totals.ensures.fault.1 (c.in_ok-past.ensures.storage.device.tells ∙ told))

pub returns-in_err-totals-clause-storage : goal.returns-in_err-totals-clause-storage
returns-in_err-totals-clause-storage g c =
    let exit = err_from_is_err_and c.from_residual-in_err-totals.result c.from_residual-in_err-totals.ensures.1 in
    rw (exit.1, exit.2) (reads-failed (c.in_ok-past.past, c.in_ok-past.found) _ (g.S.Storage.state c.args.image.now) (g.S.Storage.state c.count_clusters.new.image)
    (g.S.Storage.state c.with_flags_left.new.image) c.in_ok-past.ensures.storage c.in_err-totals.ensures.storage)

pub returns-in_err-end-clause-storage : goal.returns-in_err-end-clause-storage
returns-in_err-end-clause-storage g c =
    let exit = err_from_is_err_and c.from_residual-in_err-end.result c.from_residual-in_err-end.ensures.1 in
    let state = g.S.Storage.state c.args.image.now in
    let mid = g.S.Storage.state c.count_clusters.new.image in
    let late = g.S.Storage.state c.with_flags_left.new.image in
    rw (exit.1, exit.2) (reads-failed c.in_ok-totals.totals _ state late (g.S.Storage.state c.end_of_image.new.image)
    (reads-done (c.in_ok-past.past, c.in_ok-past.found) c.in_ok-totals.totals c.in_ok-totals.totals state mid late c.in_ok-past.ensures.storage c.in_ok-totals.ensures.storage)
    c.in_err-end.ensures.storage)

pub returns-clause-storage : goal.returns-clause-storage
returns-clause-storage g c =
    let state = g.S.Storage.state c.args.image.now in
    let mid = g.S.Storage.state c.count_clusters.new.image in
    let late = g.S.Storage.state c.with_flags_left.new.image in
    reads-done c.in_ok-totals.totals c.in_ok-end.end _ state late (g.S.Storage.state c.end_of_image.new.image)
    (reads-done (c.in_ok-past.past, c.in_ok-past.found) c.in_ok-totals.totals c.in_ok-totals.totals state mid late c.in_ok-past.ensures.storage c.in_ok-totals.ensures.storage)
    c.in_ok-end.ensures.storage
