use Rattle.std.proofs.Common.{◌∷◌, ◌++◌, [], inl, inr, ap, rules, ◌∙◌}
use Rattle.std.proofs.KnownBytes.{Appends-trans}
use Rattle.std.proofs.lemmas.Result.{err_from_is_err_and}
use Rattle.qcow2_check.proofs.FindingsLemmas.{reads_twice}
use Rattle.qcow2_layout.specs.Layout.{layout_tables}
use Rattle.qcow2_layout.proofs.ImageLemmas.{end-known, run-known}
use Rattle.qcow2_session.proofs.LayoutLemmas.{run_lines-more, runs-end, runs_of-more}
use Rattle.qcow2_session.proofs.OutputLemmas.{part-after}
use Rattle.qcow2_session.proofs.PrintingLemmas.{reads-calm}
use Rattle.qcow2_session.proofs.commands.layout.print_runs.Goals as goal

pub returns-in_err-run-clause-prints : goal.returns-in_err-run-clause-prints
returns-in_err-run-clause-prints g c =
    let kept = c.loop-run.invariant in
    let exit = err_from_is_err_and c.from_residual.result c.from_residual.ensures.1 in
    rw (exit.1, exit.2) (record {
      all = tt;
      some = λ told. let printed = kept.printed told in (
        printed.0,
        c.loop-run.layout.position,
        printed.1,
        inl (c.in_err-run.ensures.fault.1 (rw kept.storage.device.tells told), printed.3),
      );
    })

pub returns-in_err-print-clause-prints : goal.returns-in_err-print-clause-prints
returns-in_err-print-clause-prints g c =
    let kept = c.loop-run.invariant in
    let state = g.S.Storage.state c.args.image.now in
    let now = g.S.Storage.state c.loop-run.image in
    let tables = layout_tables c.args.layout.now in
    let left = c.loop-run.layout in
    let run = c.in-Some.run' in
    let comes = rw c.in-Some.is at c.in_ok-run.ensures.run in
    let reads = reads_twice left.position c.in_ok-run.field-0 left.position state now (g.S.Storage.state c.next.new.image) kept.storage (search rules) in
    let exit = err_from_is_err_and c.from_residual-in_err-print.result c.from_residual-in_err-print.ensures.1 in
    rw (exit.1, exit.2) (record {
      all = tt;
      some = λ told.
          let printed = kept.printed told in
          let is = run-known tables (layout_tables left) state.byte_at now.byte_at left.position run kept.tables kept.storage.bytes (comes.4 (rw kept.storage.device.tells told)) in (
            printed.0 ++ (run ∷ []),
            _,
            runs_of-more tables state.byte_at c.args.layout.now.position left.position printed.0 run printed.1 is,
            inr (
              (c.in_err-print.ensures.fault, reads-calm left.position _ _ reads),
              rw (run_lines-more printed.0 run) (part-after _ _ _ _ _ printed.3 (rw c.put_in.ensures at (rw c.as_bytes.ensures at c.in_err-print.ensures.part))),
            ),
          );
    })

pub returns-clause-prints : goal.returns-clause-prints
returns-clause-prints g c =
    let kept = c.loop-run.invariant in
    let state = g.S.Storage.state c.args.image.now in
    let now = g.S.Storage.state c.loop-run.image in
    let left = c.loop-run.layout in
    let tables = layout_tables c.args.layout.now in
    let comes = rw c.in_default.is at c.in_ok-run.ensures.run in
    record {
      all = λ told.
          let printed = kept.printed told in
          let past = end-known tables (layout_tables left) state.byte_at now.byte_at left.position kept.tables kept.storage.bytes (comes.2 (rw kept.storage.device.tells told)) in
          (printed.0, runs-end tables state.byte_at c.args.layout.now.position left.position printed.0 printed.1 printed.2 past, printed.3);
      some = tt;
    }

pub loop-run-preserved : goal.loop-run-preserved
loop-run-preserved g c =
    let kept = c.loop-run.invariant in
    let state = g.S.Storage.state c.args.image.now in
    let now = g.S.Storage.state c.loop-run.image in
    let tables = layout_tables c.args.layout.now in
    let left = c.loop-run.layout in
    let later = c.next.new.self in
    let run = c.in-Some.run' in
    let comes = rw c.in-Some.is at c.in_ok-run.ensures.run in
    let moves = c.in_ok-run.ensures.reader in
    record {
      printed = λ told.
          let printed = kept.printed told in
          let is = run-known tables (layout_tables left) state.byte_at now.byte_at left.position run kept.tables kept.storage.bytes (comes.4 (rw kept.storage.device.tells told)) in (
            printed.0 ++ (run ∷ []),
            rw comes.2 (runs_of-more tables state.byte_at c.args.layout.now.position left.position printed.0 run printed.1 is),
            rw comes.2 is.within,
            rw (run_lines-more printed.0 run) (Appends-trans _ _ _ _ _ printed.3 (rw c.put_in.ensures at (rw c.as_bytes.ensures at c.in_ok-print.ensures.text))),
          );
      kept = λ told. rw kept.storage.bytes at (moves.kept (rw kept.storage.device.tells told));
      tables = ap layout_tables moves.same ∙ kept.tables;
      storage = reads_twice left.position c.in_ok-run.field-0 later.position state now (g.S.Storage.state c.next.new.image) kept.storage (search rules);
    }
