use Rattle.std.proofs.Common.{◌∷◌, ◌++◌, [], Ok, rules, ap, ◌∙◌}
use Rattle.qcow2_check.proofs.FindingsLemmas.{moves_twice, reads_twice}
use Rattle.qcow2_check.proofs.TotalsLemmas.{items-more, known-before, totals-finding}
use Rattle.qcow2_check.specs.Findings.{TakesFinding, findings_left}
use Rattle.qcow2_check.specs.Totals.{with_clusters}
use Rattle.qcow2_session.proofs.AccountLemmas.{found-all, found-end, found-within}
use Rattle.qcow2_session.proofs.commands.check.account.count_findings.Goals as goal

pub loop-finding-preserved : goal.loop-finding-preserved
loop-finding-preserved g c =
    let kept = c.loop-finding.invariant in
    let state = g.S.Storage.state c.args.image.now in
    let now = g.S.Storage.state c.loop-finding.image in
    let left = c.loop-finding.findings in
    let later = c.next.new.self in
    record {
      counted = λ told.
          let counted = kept.counted told in
          let taken : TakesFinding (findings_left left state.byte_at) (findings_left later state.byte_at) (Ok c.in_ok-finding.field-0) =
          known-before (λ bytes. TakesFinding (findings_left left bytes) (findings_left later bytes) (Ok c.in_ok-finding.field-0)) state now kept.storage.device.tells kept.storage.bytes c.in_ok-finding.ensures.finding told in (
            counted.0 ++ (c.in-Some.finding ∷ []),
            items-more (findings_left c.args.findings.now state.byte_at) counted.0 (findings_left left state.byte_at) (findings_left later state.byte_at) c.in-Some.finding counted.1 (rw c.in-Some.is at taken),
            c.in_ok-found.ensures.totals ∙ ap (λ totals. with_clusters totals c.in-Some.finding 1) counted.2 ∙ totals-finding counted.0 c.in-Some.finding,
          );
      end = λ told.
          let taken : TakesFinding (findings_left left state.byte_at) (findings_left later state.byte_at) (Ok c.in_ok-finding.field-0) =
          known-before (λ bytes. TakesFinding (findings_left left bytes) (findings_left later bytes) (Ok c.in_ok-finding.field-0)) state now kept.storage.device.tells kept.storage.bytes c.in_ok-finding.ensures.finding told in
          found-end c.args.limit c.loop-finding.found.end c.in_ok-found.found.end _ c.in-Some.finding (findings_left left state.byte_at) (findings_left later state.byte_at)
          c.in_ok-found.ensures.end (rw c.in-Some.is at taken) (kept.end told);
      within = found-within c.args.limit c.loop-finding.found.end c.in_ok-found.found.end c.in-Some.finding.cluster.0 c.in_ok-found.ensures.end kept.within;
      kept = λ told. rw kept.storage.bytes at (c.in_ok-finding.ensures.reader.kept (rw kept.storage.device.tells told));
      reader = moves_twice state now c.args.findings.now left later kept.storage kept.reader c.in_ok-finding.ensures.reader;
      storage = reads_twice left.position c.in_ok-finding.field-0 later.position state now (g.S.Storage.state c.next.new.image) kept.storage (search rules);
    }

pub returns-clause-found : goal.returns-clause-found
returns-clause-found g c =
    let kept = c.loop-finding.invariant in
    let state = g.S.Storage.state c.args.image.now in
    let now = g.S.Storage.state c.loop-finding.image in
    let left = c.loop-finding.findings in
    let later = c.next.new.self in (
      kept.within,
      λ told.
          let taken : TakesFinding (findings_left left state.byte_at) (findings_left later state.byte_at) (Ok c.in_ok-finding.field-0) =
          known-before (λ bytes. TakesFinding (findings_left left bytes) (findings_left later bytes) (Ok c.in_ok-finding.field-0)) state now kept.storage.device.tells kept.storage.bytes c.in_ok-finding.ensures.finding told in
          let counted = kept.counted told in
          found-all c.args.findings.now state.byte_at c.loop-finding.found.totals c.args.limit c.loop-finding.found.end counted.0 (findings_left left state.byte_at)
          c.requires.begun c.requires.limit (rw c.in_default.is at taken) counted.1 counted.2 (kept.end told),
    )
