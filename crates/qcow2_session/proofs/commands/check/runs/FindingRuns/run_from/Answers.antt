use Rattle.std.proofs.Common.{◌≡◌, [], ◌∷◌, Ok, refl, ap, rules, arith, ◌∙◌}
use Rattle.qcow2_check.proofs.FindingsLemmas.{moves_twice, reads_twice}
use Rattle.qcow2_check.proofs.FindingsListLemmas.{none-at-end, takes-later}
use Rattle.qcow2_check.specs.Findings.{TakesFinding, findings_left}
use Rattle.qcow2_session.proofs.RunsLemmas.{run-begins, run-ends, run-goes_on, run-stops}
use Rattle.qcow2_session.specs.Commands.Check.Runs.{RunsState}
use Rattle.qcow2_session.proofs.commands.check.runs.FindingRuns.run_from.Goals as goal

pub loop-finding-init : goal.loop-finding-init
loop-finding-init g c =
    let same : c.self.inside.findings ≡ c.args.self.now.findings = ap (λ (r : RunsState). r.findings) c.self.view_is in
    record {
      first = search rules;
      some = search rules;
      within = rw (same, c.new-run.ensures) (omega (arith, c.requires.first));
      none = ap (λ (r : RunsState). r.ahead) c.self.view_is ∙ c.requires.none;
      from = search rules;
      members = λ told. rw (same, c.new-run.ensures) (run-begins c.args.first (findings_left c.args.self.now.findings (g.S.Storage.state c.args.image.now).byte_at));
      kept = rw same c.requires.reader;
      reader = rw same (record { same = refl; kept = c.requires.reader });
      storage = search rules;
    }

pub returns-then-not-goes_on-clause-run : goal.returns-then-not-goes_on-clause-run
returns-then-not-goes_on-clause-run g c =
    let kept = c.loop-finding.invariant in
    let state = g.S.Storage.state c.args.image.now in
    let left = findings_left c.loop-finding.self-inside.findings state.byte_at in
    let later = findings_left c.next.new.self state.byte_at in
    λ told.
    let found : TakesFinding left later (Ok c.in_ok-finding.field-0) = takes-later _ state _ c.loop-finding.self-inside.findings c.next.new.self (Ok c.in_ok-finding.field-0) kept.storage c.in_ok-finding.ensures.finding told in
    let is : left ≡ c.in-Some.finding ∷ later = rw c.in-Some.is at found in
    run-stops c.loop-finding.run c.in-Some.finding (c.args.first ∷ findings_left c.args.self.now.findings state.byte_at) left later kept.some (search rules) (kept.members told) is

pub loop-finding-preserved : goal.loop-finding-preserved
loop-finding-preserved g c =
    let kept = c.loop-finding.invariant in
    let state = g.S.Storage.state c.args.image.now in
    let left = findings_left c.loop-finding.self-inside.findings state.byte_at in
    let later = findings_left c.next.new.self state.byte_at in
    let past = rw c.in-Some.is at c.in_ok-finding.ensures.further in
    record {
      first = kept.first;
      some = search rules;
      within = omega (arith, kept.within, past.0, past.1);
      none = kept.none;
      from = omega (arith, kept.from, past.0, past.1);
      members = λ told.
          let found : TakesFinding left later (Ok c.in_ok-finding.field-0) = takes-later _ state _ c.loop-finding.self-inside.findings c.next.new.self (Ok c.in_ok-finding.field-0) kept.storage c.in_ok-finding.ensures.finding told in
          let is : left ≡ c.in-Some.finding ∷ later = rw c.in-Some.is at found in
          run-goes_on c.loop-finding.run c.in-Some.finding (c.args.first ∷ findings_left c.args.self.now.findings state.byte_at) left later (search rules) (kept.members told) is;
      kept = λ told. rw kept.storage.bytes at (c.in_ok-finding.ensures.reader.kept (rw kept.storage.device.tells told));
      reader = moves_twice state (g.S.Storage.state c.loop-finding.image) c.args.self.now.findings c.loop-finding.self-inside.findings c.next.new.self kept.storage kept.reader c.in_ok-finding.ensures.reader;
      storage = reads_twice c.loop-finding.self-inside.findings.position c.in_ok-finding.field-0 c.next.new.self.position state (g.S.Storage.state c.loop-finding.image) (g.S.Storage.state c.next.new.image) kept.storage (search rules);
    }

pub returns-clause-run : goal.returns-clause-run
returns-clause-run g c =
    let kept = c.loop-finding.invariant in
    let state = g.S.Storage.state c.args.image.now in
    let left = findings_left c.loop-finding.self-inside.findings state.byte_at in
    let later = findings_left c.next.new.self state.byte_at in
    let end = none-at-end state.byte_at c.next.new.self (rw c.in_default.is at c.in_ok-finding.ensures.further).1 in
    λ told.
    let found : TakesFinding left later (Ok c.in_ok-finding.field-0) = takes-later _ state _ c.loop-finding.self-inside.findings c.next.new.self (Ok c.in_ok-finding.field-0) kept.storage c.in_ok-finding.ensures.finding told in
    let none : left ≡ [] = rw c.in_default.is at found in
    rw (kept.none, end) (run-ends c.loop-finding.run (c.args.first ∷ findings_left c.args.self.now.findings state.byte_at) kept.some (rw none at (kept.members told)))
