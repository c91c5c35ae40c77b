use Rattle.std.proofs.Common.{◌≡◌, ◌&&◌, IsTrue, Ok, refl, rules, ap, ◌∙◌}
use Rattle.std.proofs.lemmas.Result.{err_from_is_err_and}
use Rattle.qcow2_check.proofs.TotalsLemmas.{known-before}
use Rattle.qcow2_check.specs.FileEnd.{file_clusters}
use Rattle.qcow2_check.specs.Findings.{TakesFinding, findings_left, past_findings, tables_of}
use Rattle.qcow2_repair.proofs.RefusalsLemmas.{later-reads, leaves-nothing}
use Rattle.qcow2_repair.proofs.refusals.check_all.Goals as goal
use Rattle.qcow2_repair.proofs.refusals.check_all.Goals.{else-are_counted, then-are_counted}

pub returns-clause-nothing : goal.returns-clause-nothing
returns-clause-nothing g c = λ told.
    let state = g.S.Storage.state c.args.image.now in
    let mid = g.S.Storage.state c.check_findings.new.image in
    let ended = g.S.Storage.state c.into_past_end.new.image in
    let counted = c.in_ok-are_counted.are_counted in
    let within = c.is_none-ends_within.result in
    let moved = c.in_ok-are_counted.ensures.reader.same in
    let one = c.in_ok-are_counted.ensures.reads.storage in
    let two = c.in_ok-past.ensures.storage in
    let left : findings_left c.in_ok-past.past state.byte_at ≡ past_findings (file_clusters state.len c.args.findings.header) (tables_of c.args.findings) state.byte_at =
    rw (moved, one.len) at (known-before (λ bytes. findings_left c.in_ok-past.past bytes ≡ past_findings (file_clusters mid.len c.check_findings.new.findings.header) (tables_of c.check_findings.new.findings) bytes)
    state mid one.device.tells one.bytes c.in_ok-past.ensures.left told) in
    let takes = known-before (λ bytes. TakesFinding (findings_left c.in_ok-past.past bytes) (findings_left c.next.new.self bytes) (Ok c.in_ok-next.field-0)) state ended
    (two.device.tells ∙ one.device.tells) (two.bytes ∙ one.bytes) c.in_ok-next.ensures.finding told in
    let both : c.if-are_counted.result ≡ (counted && within) = elim c.if-are_counted.branch [
      | then-are_counted w ↦ rw w.if-are_counted.true w.result-is
      | else-are_counted w ↦ rw w.if-are_counted.false (w.result-is ∙ w.if-are_counted.false)
    ] in
    both ∙ leaves-nothing c.args.findings c.in_ok-past.past _ state.byte_at counted within c.in_ok-next.field-0 _
    c.requires.begun (c.in_ok-are_counted.ensures.counted told) left takes c.is_none-ends_within.ensures

pub returns-in_err-next-clause-reads : goal.returns-in_err-next-clause-reads
returns-in_err-next-clause-reads g c =
    let exit = err_from_is_err_and c.from_residual-in_err-next.result c.from_residual-in_err-next.ensures.1 in
    rw (exit.1, exit.2) (later-reads c.in_ok-are_counted.are_counted c.in_ok-past.past c.in_err-next.field-0.0 _ _ _ _ _ _
    c.in_ok-are_counted.ensures.reads.storage c.in_ok-past.ensures.storage c.in_err-next.ensures.storage c.in_err-next.ensures.fault)
