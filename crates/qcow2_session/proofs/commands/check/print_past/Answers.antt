use Rattle.std.proofs.Common.{◌∷◌, ◌++◌, [], Ok, inl, inr, refl, sym, ap, rules, ◌∙◌}
use Rattle.std.proofs.lemmas.Result.{err_from_is_err_and}
use Rattle.qcow2_check.proofs.FindingsLemmas.{moves_twice, reads_twice}
use Rattle.qcow2_check.proofs.TotalsLemmas.{items-more, known-before, totals-past}
use Rattle.qcow2_session.proofs.RunsLemmas.{totals-past-none}
use Rattle.std.proofs.KnownBytes.{Appends-nil}
use Rattle.qcow2_check.specs.Totals.{with_past}
use Rattle.qcow2_session.proofs.CheckLemmas.{lines-ended, lines-failed, lines-more}
use Rattle.qcow2_session.proofs.RunsLemmas.{lengths-all, lengths-run, run_lengths}
use Rattle.qcow2_session.specs.Commands.Check.Lines.{past_line}
use Rattle.qcow2_session.specs.Commands.Check.Runs.{TakesFirst, all_left, runs_left}
use Rattle.qcow2_session.proofs.commands.check.print_past.Goals as goal

pub loop-run-init : goal.loop-run-init
loop-run-init g c = record {
  printed = λ told. ([], refl, Appends-nil (g.O.Write.contents c.args.out.now), sym (totals-past-none c.args.totals));
  kept = c.requires;
  reader = record { same = refl; kept = c.requires };
  storage = search rules;
}

pub returns-in_err-run-clause-prints : goal.returns-in_err-run-clause-prints
returns-in_err-run-clause-prints g c =
    let kept = c.loop-run.invariant in
    let state = g.S.Storage.state c.args.image.now in
    let exit = err_from_is_err_and c.from_residual.result c.from_residual.ensures.1 in
    rw (exit.1, exit.2) (record {
      all = tt;
      part = λ told. let printed = kept.printed told in (
        c.in_err-run.ensures.fault.1 (rw kept.storage.device.tells told),
        lines-ended past_line (runs_left c.args.runs.now state.byte_at) printed.0 (runs_left c.loop-run.runs state.byte_at) _ _ printed.1 printed.2,
      );
    })

pub returns-in_err-totals-clause-prints : goal.returns-in_err-totals-clause-prints
returns-in_err-totals-clause-prints g c =
    let kept = c.loop-run.invariant in
    let state = g.S.Storage.state c.args.image.now in
    let exit = err_from_is_err_and c.from_residual-in_err-totals.result c.from_residual-in_err-totals.ensures.1 in
    rw (exit.1, exit.2) (record {
      all = tt;
      part = λ told. let printed = kept.printed told in (
        inl c.in_err-totals.ensures.fault,
        lines-ended past_line (runs_left c.args.runs.now state.byte_at) printed.0 (runs_left c.loop-run.runs state.byte_at) _ _ printed.1 printed.2,
      );
    })

pub returns-in_err-print-clause-prints : goal.returns-in_err-print-clause-prints
returns-in_err-print-clause-prints g c =
    let kept = c.loop-run.invariant in
    let state = g.S.Storage.state c.args.image.now in
    let now = g.S.Storage.state c.loop-run.image in
    let left = c.loop-run.runs in
    let later = c.next.new.self in
    let exit = err_from_is_err_and c.from_residual-in_err-print.result c.from_residual-in_err-print.ensures.1 in
    rw (exit.1, exit.2) (record {
      all = tt;
      part = λ told.
          let printed = kept.printed told in
          let taken : TakesFirst (runs_left left state.byte_at) (runs_left later state.byte_at) (Ok c.in_ok-run.field-0) =
          known-before (λ bytes. TakesFirst (runs_left left bytes) (runs_left later bytes) (Ok c.in_ok-run.field-0)) state now kept.storage.device.tells kept.storage.bytes c.in_ok-run.ensures.run told in (
            inr c.in_err-print.ensures.fault,
            lines-failed past_line (runs_left c.args.runs.now state.byte_at) printed.0 (runs_left left state.byte_at) (runs_left later state.byte_at) c.in-Some.run' _ _ _ printed.1
                (rw c.in-Some.is at taken) printed.2 (rw c.put_past.ensures at (rw c.as_bytes.ensures at c.in_err-print.ensures.part)),
          );
    })

pub loop-run-preserved : goal.loop-run-preserved
loop-run-preserved g c =
    let kept = c.loop-run.invariant in
    let state = g.S.Storage.state c.args.image.now in
    let now = g.S.Storage.state c.loop-run.image in
    let left = c.loop-run.runs in
    let later = c.next.new.self in
    record {
      printed = λ told.
          let printed = kept.printed told in
          let taken : TakesFirst (runs_left left state.byte_at) (runs_left later state.byte_at) (Ok c.in_ok-run.field-0) =
          known-before (λ bytes. TakesFirst (runs_left left bytes) (runs_left later bytes) (Ok c.in_ok-run.field-0)) state now kept.storage.device.tells kept.storage.bytes c.in_ok-run.ensures.run told in
          let is = rw c.in-Some.is at taken in (
            printed.0 ++ (c.in-Some.run' ∷ []),
            items-more (runs_left c.args.runs.now state.byte_at) printed.0 (runs_left left state.byte_at) (runs_left later state.byte_at) c.in-Some.run' printed.1 is,
            lines-more past_line printed.0 c.in-Some.run' _ _ _ printed.2 (rw c.put_past.ensures at (rw c.as_bytes.ensures at c.in_ok-print.ensures.text)),
            c.in_ok-totals.ensures.totals ∙ ap (λ totals. with_past totals c.in-Some.run'.count) printed.3
                ∙ totals-past c.args.totals (run_lengths printed.0) c.in-Some.run'.count _ (lengths-run printed.0 c.in-Some.run'),
          );
      kept = λ told. rw kept.storage.bytes at (c.in_ok-run.ensures.reader.kept (rw kept.storage.device.tells told));
      reader = moves_twice state now c.args.runs.now.findings left.findings later.findings kept.storage kept.reader c.in_ok-run.ensures.reader;
      storage = reads_twice left.findings.position c.in_ok-run.field-0 later.findings.position state now (g.S.Storage.state c.next.new.image) kept.storage (search rules);
    }

pub returns-clause-totals : goal.returns-clause-totals
returns-clause-totals g c = λ told.
    let kept = c.loop-run.invariant in
    let state = g.S.Storage.state c.args.image.now in
    let now = g.S.Storage.state c.loop-run.image in
    let left = c.loop-run.runs in
    let later = c.next.new.self in
    let printed = kept.printed told in
    let taken : TakesFirst (runs_left left state.byte_at) (runs_left later state.byte_at) (Ok c.in_ok-run.field-0) =
    known-before (λ bytes. TakesFirst (runs_left left bytes) (runs_left later bytes) (Ok c.in_ok-run.field-0)) state now kept.storage.device.tells kept.storage.bytes c.in_ok-run.ensures.run told in
    printed.3 ∙ ap (with_past c.args.totals)
    (lengths-all (all_left c.args.runs.now state.byte_at) printed.0 (runs_left left state.byte_at) printed.1 (rw c.in_default.is at taken))
