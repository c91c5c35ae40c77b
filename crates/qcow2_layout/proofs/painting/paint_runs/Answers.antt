use Rattle.std.proofs.Common.{ap, arith, refl, rules, sym, ◌∙◌, ◌≤◌}
use Rattle.qcow2_check.proofs.FindingsLemmas.{reads_twice}
use Rattle.qcow2_layout.specs.Layout.{layout_tables}
use Rattle.qcow2_layout.specs.Parts.{taken_end}
use Rattle.qcow2_layout.proofs.ImageLemmas.{end-known, run-known}
use Rattle.qcow2_layout.proofs.painting.paint_runs.Goals as goal

pub loop-run-preserved : goal.loop-run-preserved
loop-run-preserved g c =
    let kept = c.loop-run.invariant in
    let state = g.S.Storage.state c.args.image.now in
    let now = g.S.Storage.state c.loop-run.image in
    let tables = layout_tables c.args.layout.now in
    let left = c.loop-run.layout in
    let later = c.next.new.self in
    let run = c.in-Some.run' in
    let comes = rw c.in-Some.is at c.in_ok-run.ensures.run in
    let moves = c.in_ok-run.ensures.reader in
    record {
      painted = λ told.
          let painted = kept.painted told in
          let is = run-known tables (layout_tables left) state.byte_at now.byte_at left.position run kept.tables kept.storage.bytes (comes.4 (rw kept.storage.device.tells told)) in (
            c.paint.ensures.painted _ painted.0 (search rules),
            rw comes.2 is.within,
          );
      end = search rules;
      whole = c.paint.ensures.whole;
      size = search rules;
      kept = λ told. rw kept.storage.bytes at (moves.kept (rw kept.storage.device.tells told));
      tables = ap layout_tables moves.same ∙ kept.tables;
      storage = reads_twice left.position c.in_ok-run.field-0 later.position state now (g.S.Storage.state c.next.new.image) kept.storage (search rules);
    }

pub loop-run-init : goal.loop-run-init
loop-run-init g c = record {
  painted = λ told. (c.requires.begun.4 _, rw c.requires.begun.0 (omega arith));
  end = c.requires.begun.1 ∙ sym c.requires.begun.0;
  whole = c.requires.begun.3;
  size = c.requires.begun.2;
  kept = c.requires.reader;
  tables = refl;
  storage = search rules;
}

pub returns-clause-picture : goal.returns-clause-picture
returns-clause-picture g c =
    let kept = c.loop-run.invariant in
    let state = g.S.Storage.state c.args.image.now in
    let now = g.S.Storage.state c.loop-run.image in
    let left = c.loop-run.layout in
    let tables = layout_tables c.args.layout.now in
    let comes = rw c.in_default.is at c.in_ok-run.ensures.run in
    λ told.
    let painted = kept.painted told in
    let past : taken_end tables state.byte_at ≤ left.position = end-known tables (layout_tables left) state.byte_at now.byte_at left.position kept.tables kept.storage.bytes
    (comes.2 (rw kept.storage.device.tells told)) in
    record {
      whole = kept.whole;
      end = omega (arith, kept.end, painted.1, past);
      shown = painted.0;
    }
