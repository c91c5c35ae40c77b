use Rattle.std.proofs.Common.{◌≡◌, ◌+◌, true, Ok, refl, rules, arith, ap, sym, ◌∙◌}
use Rattle.std.specs.Prelude.{is_some}
use Rattle.qcow2_check.proofs.FindingsLemmas.{moves_twice, reads_twice}
use Rattle.qcow2_check.proofs.FindingsListLemmas.{one-left}
use Rattle.qcow2_check.proofs.TotalsLemmas.{known-before, totals-past}
use Rattle.qcow2_check.specs.Findings.{TakesFinding, findings_left}
use Rattle.qcow2_check.specs.Totals.{with_past}
use Rattle.qcow2_check.proofs.totals.Totals.with_past_left.Goals as goal

pub loop-totals-preserved : goal.loop-totals-preserved
loop-totals-preserved g c =
    let kept = c.loop-totals.invariant in
    let state = g.S.Storage.state c.args.image.now in
    let now = g.S.Storage.state c.loop-totals.image in
    let left = c.loop-totals.past in
    let later = c.next.new.self in
    record {
      counted = λ told.
          let counted = kept.counted told in
          let taken : TakesFinding (findings_left left state.byte_at) (findings_left later state.byte_at) (Ok c.in_ok-next.field-0) =
          known-before (λ bytes. TakesFinding (findings_left left bytes) (findings_left later bytes) (Ok c.in_ok-next.field-0)) state now kept.storage.device.tells kept.storage.bytes c.in_ok-next.ensures.finding told in
          let some : is_some c.in_ok-next.field-0 ≡ true = search rules in
          let one = one-left (findings_left left state.byte_at) (findings_left later state.byte_at) c.in_ok-next.field-0 some taken in (
            counted.0 + 1,
            omega (arith, counted.1, one),
            c.in_ok-totals.ensures.totals ∙ ap (λ totals. with_past totals 1) counted.2 ∙ totals-past c.args.self counted.0 1 (counted.0 + 1) refl,
          );
      kept = λ told. rw kept.storage.bytes at (c.in_ok-next.ensures.reader.kept (rw kept.storage.device.tells told));
      reader = moves_twice state now c.args.past.now left later kept.storage kept.reader c.in_ok-next.ensures.reader;
      storage = reads_twice left.position c.in_ok-next.field-0 later.position state now (g.S.Storage.state c.next.new.image) kept.storage (search rules);
    }
