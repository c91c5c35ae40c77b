use Rattle.std.proofs.Common.{◌∷◌, ◌++◌, [], Ok, rules, ap, ◌∙◌}
use Rattle.qcow2_check.proofs.FindingsLemmas.{reads_twice}
use Rattle.qcow2_check.proofs.TotalsLemmas.{items-more, known-before, totals-flag}
use Rattle.qcow2_check.specs.Flags.{TakesFlag, flags_left}
use Rattle.qcow2_check.specs.Totals.{with_flag}
use Rattle.qcow2_check.proofs.totals.Totals.with_flags_left.Goals as goal

pub loop-flag-preserved : goal.loop-flag-preserved
loop-flag-preserved g c =
    let kept = c.loop-flag.invariant in
    let state = g.S.Storage.state c.args.image.now in
    let now = g.S.Storage.state c.loop-flag.image in
    let left = c.loop-flag.flags in
    let later = c.next.new.self in
    record {
      counted = λ told.
          let counted = kept.counted told in
          let taken : TakesFlag (flags_left left state.byte_at) (flags_left later state.byte_at) (Ok c.in_ok-flag.field-0) =
          known-before (λ bytes. TakesFlag (flags_left left bytes) (flags_left later bytes) (Ok c.in_ok-flag.field-0)) state now kept.storage.device.tells kept.storage.bytes c.in_ok-flag.ensures.flag told in
          let is = rw c.in-Some.is at taken in (
            counted.0 ++ (c.in-Some.flag ∷ []),
            items-more (flags_left c.args.flags.now state.byte_at) counted.0 (flags_left left state.byte_at) (flags_left later state.byte_at) c.in-Some.flag counted.1 is,
            c.in_ok-totals.ensures.totals ∙ ap (λ totals. with_flag totals c.in-Some.flag) counted.2 ∙ totals-flag c.args.self counted.0 c.in-Some.flag,
          );
      kept = λ told. rw kept.storage.bytes at (c.in_ok-flag.ensures.reader.kept (rw kept.storage.device.tells told));
      reader = record {
        tables = c.in_ok-flag.ensures.reader.tables ∙ kept.reader.tables;
        kept = λ told. rw kept.storage.bytes at (c.in_ok-flag.ensures.reader.kept (rw kept.storage.device.tells told));
      };
      storage = reads_twice left.index c.in_ok-flag.field-0 later.index state now (g.S.Storage.state c.next.new.image) kept.storage (search rules);
    }
