use Rattle.std.proofs.Common.{◌≡◌, refl, rules, ap, ◌∙◌}
use Rattle.std.proofs.lemmas.Result.{err_from_is_err_and}
use Rattle.std.specs.Prelude.{length}
use Rattle.qcow2_check.proofs.TotalsLemmas.{known-before}
use Rattle.qcow2_check.specs.FileEnd.{file_clusters}
use Rattle.qcow2_check.specs.Findings.{findings_left, past_findings, tables_of}
use Rattle.qcow2_check.specs.Totals.{with_past}
use Rattle.qcow2_session.proofs.AccountLemmas.{reads-done, reads-failed}
use Rattle.qcow2_session.proofs.commands.check.account.count_clusters.Goals as goal

pub returns-clause-found : goal.returns-clause-found
returns-clause-found g c = (
  c.in_ok-found.ensures.found.0,
  λ told.
      let state = g.S.Storage.state c.args.image.now in
      let mid = g.S.Storage.state c.count_findings.new.image in
      let ended = g.S.Storage.state c.into_past_end.new.image in
      let image = state.byte_at in
      let tables = tables_of c.args.findings in
      let file = file_clusters state.len c.args.findings.header in
      let past = c.in_ok-past.past in
      let one = c.in_ok-found.ensures.storage in
      let two = c.in_ok-past.ensures.storage in
      let found = c.in_ok-found.ensures.found.1 told in
      let moved = c.in_ok-found.ensures.reader.same in
      let left : findings_left past image ≡ past_findings file tables image =
      rw (moved, one.len) at (known-before (λ bytes. findings_left past bytes ≡ past_findings (file_clusters mid.len c.count_findings.new.findings.header) (tables_of c.count_findings.new.findings) bytes)
      state mid one.device.tells one.bytes c.in_ok-past.ensures.left told) in
      let counted = known-before (λ bytes. c.in_ok-totals.totals ≡ with_past c.in_ok-found.found.totals (length (findings_left past bytes))) state ended
      (two.device.tells ∙ one.device.tells) (two.bytes ∙ one.bytes) c.in_ok-totals.ensures.totals told in (
        counted ∙ ap (λ past. with_past c.in_ok-found.found.totals (length past)) left ∙ ap (λ totals. with_past totals (length (past_findings file tables image))) found.0,
        found.1,
      ),
)

pub returns-in_err-totals-clause-fault : goal.returns-in_err-totals-clause-fault
returns-in_err-totals-clause-fault g c =
    let exit = err_from_is_err_and c.from_residual-in_err-totals.result c.from_residual-in_err-totals.ensures.1 in
    rw (exit.1, exit.2) (λ told. c.in_err-totals.ensures.fault.1 (c.in_ok-past.ensures.storage.device.tells ∙ c.in_ok-found.ensures.storage.device.tells ∙ told))

pub returns-in_err-totals-clause-storage : goal.returns-in_err-totals-clause-storage
returns-in_err-totals-clause-storage g c =
    let exit = err_from_is_err_and c.from_residual-in_err-totals.result c.from_residual-in_err-totals.ensures.1 in
    let state = g.S.Storage.state c.args.image.now in
    let mid = g.S.Storage.state c.count_findings.new.image in
    let ended = g.S.Storage.state c.into_past_end.new.image in
    let now = g.S.Storage.state c.with_past_left.new.image in
    rw (exit.1, exit.2) (reads-failed c.in_ok-past.past _ state ended now
    (reads-done c.in_ok-found.found c.in_ok-past.past c.in_ok-past.past state mid ended c.in_ok-found.ensures.storage c.in_ok-past.ensures.storage)
    c.in_err-totals.ensures.storage)

pub returns-clause-storage : goal.returns-clause-storage
returns-clause-storage g c =
    let state = g.S.Storage.state c.args.image.now in
    let mid = g.S.Storage.state c.count_findings.new.image in
    let ended = g.S.Storage.state c.into_past_end.new.image in
    let now = g.S.Storage.state c.with_past_left.new.image in
    reads-done c.in_ok-past.past c.in_ok-totals.totals _ state ended now
    (reads-done c.in_ok-found.found c.in_ok-past.past c.in_ok-past.past state mid ended c.in_ok-found.ensures.storage c.in_ok-past.ensures.storage)
    c.in_ok-totals.ensures.storage
