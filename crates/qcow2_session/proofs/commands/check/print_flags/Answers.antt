use Rattle.std.proofs.Common.{◌∷◌, ◌++◌, [], Ok, inl, inr, ap, rules, ◌∙◌}
use Rattle.std.proofs.lemmas.Result.{err_from_is_err_and}
use Rattle.qcow2_check.proofs.FindingsLemmas.{reads_twice}
use Rattle.qcow2_check.proofs.TotalsLemmas.{items-more, known-before, totals-flag}
use Rattle.qcow2_check.specs.Flags.{TakesFlag, flags_left}
use Rattle.qcow2_check.specs.Totals.{with_flag}
use Rattle.qcow2_session.proofs.CheckLemmas.{lines-ended, lines-failed, lines-more}
use Rattle.qcow2_session.specs.Commands.Check.Lines.{flag_line}
use Rattle.qcow2_session.proofs.commands.check.print_flags.Goals as goal

pub returns-in_err-flag-clause-prints : goal.returns-in_err-flag-clause-prints
returns-in_err-flag-clause-prints g c =
    let kept = c.loop-flag.invariant in
    let state = g.S.Storage.state c.args.image.now in
    let exit = err_from_is_err_and c.from_residual.result c.from_residual.ensures.1 in
    rw (exit.1, exit.2) (record {
      all = tt;
      part = λ told. let printed = kept.printed told in (
        c.in_err-flag.ensures.fault.1 (rw kept.storage.device.tells told),
        lines-ended flag_line (flags_left c.args.flags.now state.byte_at) printed.0 (flags_left c.loop-flag.flags state.byte_at) _ _ printed.1 printed.2,
      );
    })

pub returns-in_err-totals-clause-prints : goal.returns-in_err-totals-clause-prints
returns-in_err-totals-clause-prints g c =
    let kept = c.loop-flag.invariant in
    let state = g.S.Storage.state c.args.image.now in
    let exit = err_from_is_err_and c.from_residual-in_err-totals.result c.from_residual-in_err-totals.ensures.1 in
    rw (exit.1, exit.2) (record {
      all = tt;
      part = λ told. let printed = kept.printed told in (
        inl c.in_err-totals.ensures.fault,
        lines-ended flag_line (flags_left c.args.flags.now state.byte_at) printed.0 (flags_left c.loop-flag.flags state.byte_at) _ _ printed.1 printed.2,
      );
    })

pub returns-in_err-print-clause-prints : goal.returns-in_err-print-clause-prints
returns-in_err-print-clause-prints g c =
    let kept = c.loop-flag.invariant in
    let state = g.S.Storage.state c.args.image.now in
    let now = g.S.Storage.state c.loop-flag.image in
    let left = c.loop-flag.flags in
    let later = c.next.new.self in
    let exit = err_from_is_err_and c.from_residual-in_err-print.result c.from_residual-in_err-print.ensures.1 in
    rw (exit.1, exit.2) (record {
      all = tt;
      part = λ told.
          let printed = kept.printed told in
          let taken : TakesFlag (flags_left left state.byte_at) (flags_left later state.byte_at) (Ok c.in_ok-flag.field-0) =
          known-before (λ bytes. TakesFlag (flags_left left bytes) (flags_left later bytes) (Ok c.in_ok-flag.field-0)) state now kept.storage.device.tells kept.storage.bytes c.in_ok-flag.ensures.flag told in (
            inr c.in_err-print.ensures.fault,
            lines-failed flag_line (flags_left c.args.flags.now state.byte_at) printed.0 (flags_left left state.byte_at) (flags_left later state.byte_at) c.in-Some.flag _ _ _ printed.1
                (rw c.in-Some.is at taken) printed.2 (rw c.put_in.ensures at (rw c.as_bytes.ensures at c.in_err-print.ensures.part)),
          );
    })

pub loop-flag-preserved : goal.loop-flag-preserved
loop-flag-preserved g c =
    let kept = c.loop-flag.invariant in
    let state = g.S.Storage.state c.args.image.now in
    let now = g.S.Storage.state c.loop-flag.image in
    let left = c.loop-flag.flags in
    let later = c.next.new.self in
    record {
      printed = λ told.
          let printed = kept.printed told in
          let taken : TakesFlag (flags_left left state.byte_at) (flags_left later state.byte_at) (Ok c.in_ok-flag.field-0) =
          known-before (λ bytes. TakesFlag (flags_left left bytes) (flags_left later bytes) (Ok c.in_ok-flag.field-0)) state now kept.storage.device.tells kept.storage.bytes c.in_ok-flag.ensures.flag told in
          let is = rw c.in-Some.is at taken in (
            printed.0 ++ (c.in-Some.flag ∷ []),
            items-more (flags_left c.args.flags.now state.byte_at) printed.0 (flags_left left state.byte_at) (flags_left later state.byte_at) c.in-Some.flag printed.1 is,
            lines-more flag_line printed.0 c.in-Some.flag _ _ _ printed.2 (rw c.put_in.ensures at (rw c.as_bytes.ensures at c.in_ok-print.ensures.text)),
            c.in_ok-totals.ensures.totals ∙ ap (λ totals. with_flag totals c.in-Some.flag) printed.3 ∙ totals-flag c.args.totals printed.0 c.in-Some.flag,
          );
      kept = λ told. rw kept.storage.bytes at (c.in_ok-flag.ensures.reader.kept (rw kept.storage.device.tells told));
      reader = record {
        tables = c.in_ok-flag.ensures.reader.tables ∙ kept.reader.tables;
        kept = λ told. rw kept.storage.bytes at (c.in_ok-flag.ensures.reader.kept (rw kept.storage.device.tells told));
      };
      storage = reads_twice left.index c.in_ok-flag.field-0 later.index state now (g.S.Storage.state c.next.new.image) kept.storage (search rules);
    }
