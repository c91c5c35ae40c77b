use Rattle.std.proofs.Common.{Ok, rules}
use Rattle.qcow2_check.proofs.FindingsLemmas.{moves_twice, reads_twice}
use Rattle.qcow2_check.proofs.TotalsLemmas.{known-before}
use Rattle.qcow2_check.specs.Findings.{TakesFinding, findings_left}
use Rattle.qcow2_bytes.proofs.CheckLemmas.{all-counted, findings-more}
use Rattle.qcow2_bytes.proofs.images.check.put_findings.Goals as goal

pub loop-finding-preserved : goal.loop-finding-preserved
loop-finding-preserved g c =
    let kept = c.loop-finding.invariant in
    let state = g.S.Storage.state c.args.image.now in
    let now = g.S.Storage.state c.loop-finding.image in
    let left = c.loop-finding.reader in
    let later = c.next.new.self in
    record {
      counted = λ told.
          let counted = kept.counted told in
          let taken : TakesFinding (findings_left left state.byte_at) (findings_left later state.byte_at) (Ok c.in_ok-finding.field-0) =
          known-before (λ bytes. TakesFinding (findings_left left bytes) (findings_left later bytes) (Ok c.in_ok-finding.field-0)) state now kept.storage.device.tells kept.storage.bytes c.in_ok-finding.ensures.finding told in
          findings-more (findings_left c.args.reader.now state.byte_at) counted.0 (findings_left left state.byte_at) (findings_left later state.byte_at)
          c.in-Some.finding c.loop-finding.count c.in_ok-count.count c.loop-finding.totals c.in_ok-totals.totals c.args.findings.now c.loop-finding.findings _
          counted.1 (rw c.in-Some.is at taken) counted.2 c.in_ok-count.ensures.sum c.in_ok-totals.ensures.totals counted.3 c.put_finding.ensures;
      kept = λ told. rw kept.storage.bytes at (c.in_ok-finding.ensures.reader.kept (rw kept.storage.device.tells told));
      reader = moves_twice state now c.args.reader.now left later kept.storage kept.reader c.in_ok-finding.ensures.reader;
      storage = reads_twice left.position c.in_ok-finding.field-0 later.position state now (g.S.Storage.state c.next.new.image) kept.storage (search rules);
    }

pub returns-clause-put : goal.returns-clause-put
returns-clause-put g c =
    let kept = c.loop-finding.invariant in
    let state = g.S.Storage.state c.args.image.now in
    let now = g.S.Storage.state c.loop-finding.image in
    let left = c.loop-finding.reader in
    let later = c.next.new.self in
    λ told.
    let counted = kept.counted told in
    let taken : TakesFinding (findings_left left state.byte_at) (findings_left later state.byte_at) (Ok c.in_ok-finding.field-0) =
    known-before (λ bytes. TakesFinding (findings_left left bytes) (findings_left later bytes) (Ok c.in_ok-finding.field-0)) state now kept.storage.device.tells kept.storage.bytes c.in_ok-finding.ensures.finding told in
    all-counted c.args.reader.now state.byte_at counted.0 (findings_left left state.byte_at) c.loop-finding.count c.loop-finding.totals c.args.findings.now c.loop-finding.findings
    c.requires.begun (rw c.in_default.is at taken) counted.1 counted.2 counted.3
