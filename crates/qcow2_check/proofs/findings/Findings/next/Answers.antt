use Rattle.std.proofs.Common.{◌≡◌, Ok, Err, Some, ap, rules, arith}
use Rattle.std.proofs.lemmas.Result.{err_from_is_err_and}
use Rattle.qcow2_base.specs.Format.{max_file_length}
use Rattle.qcow2_check.proofs.FindingsLemmas.{moves_twice, passes_none, passes_on, reads_twice}
use Rattle.qcow2_check.proofs.FindingsListLemmas.{none-found, takes-finding}
use Rattle.qcow2_check.specs.Findings.{FindingsState, tables_of}
use Rattle.qcow2_check.proofs.findings.Findings.next.Goals as goal

pub returns-in-Some-clause-finding : goal.returns-in-Some-clause-finding
returns-in-Some-clause-finding g c =
    let kept = c.loop-self.invariant in
    let old = g.S.Storage.state c.args.image.now in
    let passes = passes_on old (g.S.Storage.state c.loop-self.image) c.args.self.now c.loop-self.self c.in-Some.finding c.step.new.self.position
    kept.storage kept.reader kept.from kept.none (rw c.in-Some.is at c.in_ok-finding.ensures.finding) in
    let same = (moves_twice old (g.S.Storage.state c.loop-self.image) c.args.self.now c.loop-self.self c.step.new.self kept.storage kept.reader c.in_ok-finding.ensures.reader).same in
    λ told. takes-finding old c.args.self.now c.step.new.self (Ok (Some c.in-Some.finding)) told
    (ap tables_of same) (ap (λ (reader : FindingsState). reader.sought) same)
    (omega (arith, kept.from, kept.within)) c.in_ok-finding.ensures.further.0 (λ none. grind (arith, none)) passes

pub returns-in-Some-clause-further : goal.returns-in-Some-clause-further
returns-in-Some-clause-further g c =
    let passes = rw c.in-Some.is at c.in_ok-finding.ensures.finding in
    (omega (arith, passes.0, c.loop-self.invariant.from), passes.1, c.in_ok-finding.ensures.further.0)

pub returns-in_err-finding-clause-finding : goal.returns-in_err-finding-clause-finding
returns-in_err-finding-clause-finding g c =
    let kept = c.loop-self.invariant in
    let exit = err_from_is_err_and c.from_residual.result c.from_residual.ensures.1 in
    let old = g.S.Storage.state c.args.image.now in
    let now = g.S.Storage.state c.loop-self.image in
    let passes = passes_none old now c.args.self.now c.loop-self.self c.step.new.self.position kept.storage kept.reader kept.none c.in_err-finding.ensures.finding in
    let same = (moves_twice old now c.args.self.now c.loop-self.self c.step.new.self kept.storage kept.reader c.in_err-finding.ensures.reader).same in
    λ told. rw (exit.1) (takes-finding old c.args.self.now c.step.new.self (Err exit.0) told
    (ap tables_of same) (ap (λ (reader : FindingsState). reader.sought) same)
    (omega (arith, kept.from, kept.within)) c.in_err-finding.ensures.further.0 (λ none. grind (arith, none)) (omega (arith, kept.from, c.in_err-finding.ensures.finding.0), passes))

pub returns-clause-finding : goal.returns-clause-finding
returns-clause-finding g c = λ told.
    let kept = c.loop-self.invariant in
    let end : c.loop-self.self.position ≡ max_file_length = grind (arith, kept.within) in
    none-found c.args.self.now.sought (tables_of c.args.self.now) (g.S.Storage.state c.args.image.now).byte_at c.args.self.now.position (omega (arith, kept.from, kept.within)) (rw end at (kept.none told))

pub loop-self-preserved : goal.loop-self-preserved
loop-self-preserved g c =
    let kept = c.loop-self.invariant in
    let first = c.args.self.now in
    let later = c.loop-self.self in
    let last = c.step.new.self in
    let old = g.S.Storage.state c.args.image.now in
    let now = g.S.Storage.state c.loop-self.image in
    record {
      from = omega (arith, kept.from, c.in_ok-finding.ensures.further.1);
      within = c.in_ok-finding.ensures.further.0;
      none = passes_none old now first later last.position kept.storage kept.reader kept.none (rw c.in_default.is at c.in_ok-finding.ensures.finding);
      kept = λ told. rw kept.storage.bytes at (c.in_ok-finding.ensures.reader.kept (rw kept.storage.device.tells told));
      reader = moves_twice old now first later last kept.storage kept.reader c.in_ok-finding.ensures.reader;
      storage = reads_twice later.position c.in_ok-finding.field-0 last.position old now (g.S.Storage.state c.step.new.image) kept.storage (search rules);
    }
