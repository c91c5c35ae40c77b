use Rattle.std.proofs.Common.{◌≡◌, ◌∙◌, IsTrue, ap, subst, sym, arith, rules}
use Rattle.std.proofs.lemmas.Bool.Decides.{nat_tests}
use Rattle.std.proofs.lemmas.Result.{err_from_is_err_and}
use Rattle.qcow2_base.specs.Storage.{SameDevice, SameOutside}
use Rattle.qcow2_apply.proofs.ApplyLemmas.{cut-short, field-wiped, follows-plan, leaves-cleared, reports-then}
use Rattle.qcow2_apply.specs.Plan.{IsPlanFor}
use Rattle.qcow2_apply.proofs.plan.Plan.carry_out.Goals as goal

pub make-requires-clause-plan : goal.make-requires-clause-plan
make-requires-clause-plan g c =
    let plan = c.requires.plan in
    subst (λ header. IsPlanFor header c.args.edits.now c.args.self.now) (sym c.in_ok-clear_autoclear.ensures.header) (record {
      no_data_file = plan.no_data_file;
      fit = plan.fit;
      l1_table = plan.l1_table;
      l1_count = plan.l1_count;
      by_table = plan.by_table;
      reftable = plan.reftable;
      blocks = plan.blocks;
      changes = plan.changes;
    })

pub returns-in_err-clear_autoclear-clause-followed : goal.returns-in_err-clear_autoclear-clause-followed
returns-in_err-clear_autoclear-clause-followed g c =
    let exit = err_from_is_err_and c.from_residual.result c.from_residual.ensures.1 in
    rw (exit.1, exit.2) (λ told planned.
    cut-short c.args.header.now c.args.edits.now c.args.self.now c.in_err-clear_autoclear.field-0.0 (g.S.Storage.state c.args.image.now).byte_at
    (g.S.Storage.state c.clear_autoclear.new.image).byte_at (c.clear_autoclear.ensures.written.storage.others told)
    (λ none. ap (λ s. (g.S.Storage.state s).byte_at) (c.clear_autoclear.ensures.idle none).1) c.in_err-clear_autoclear.ensures.written.faults)

pub returns-in_err-sync-clause-followed : goal.returns-in_err-sync-clause-followed
returns-in_err-sync-clause-followed g c =
    let exit = err_from_is_err_and c.from_residual-in_err-sync.result c.from_residual-in_err-sync.ensures.1 in
    let before = g.S.Storage.state c.args.image.now in
    let cleared = g.S.Storage.state c.clear_autoclear.new.image in
    let synced = g.S.Storage.state c.sync.new.self in
    rw exit.1 (λ told planned.
    let last : synced.byte_at ≡ cleared.byte_at = search rules in
    let clears : SameOutside 88 8 before.byte_at cleared.byte_at = c.clear_autoclear.ensures.written.storage.others told in
    cut-short c.args.header.now c.args.edits.now c.args.self.now exit.0 before.byte_at synced.byte_at (rw last clears)
    (λ none. last ∙ ap (λ s. (g.S.Storage.state s).byte_at) (c.clear_autoclear.ensures.idle none).1) exit.2)

pub returns-clause-header : goal.returns-clause-header
returns-clause-header g c = leaves-cleared c.args.header.now c.clear_autoclear.new.self c.make.result c.in_ok-clear_autoclear.ensures.header

pub returns-clause-followed : goal.returns-clause-followed
returns-clause-followed g c = λ told planned.
    let before = g.S.Storage.state c.args.image.now in
    let cleared = g.S.Storage.state c.clear_autoclear.new.image in
    let synced = g.S.Storage.state c.sync.new.self in
    let at_end : IsTrue synced.tells = search rules in
    let last : synced.byte_at ≡ cleared.byte_at = search rules in
    let clears : SameOutside 88 8 before.byte_at cleared.byte_at = c.clear_autoclear.ensures.written.storage.others told in
    follows-plan c.args.header.now c.clear_autoclear.new.self c.args.edits.now c.args.self.now c.make.result before synced
    (g.S.Storage.state c.make.new.image) c.in_ok-clear_autoclear.ensures.header at_end (rw last clears)
    (λ none. last ∙ ap (λ s. (g.S.Storage.state s).byte_at) (c.clear_autoclear.ensures.idle none).1)
    (λ some. rw last (field-wiped c.args.header.now cleared.byte_at (c.in_ok-clear_autoclear.ensures.written.written told) some)) planned
    c.make.ensures.applied c.make.ensures.others c.make.ensures.fault c.make.ensures.memory

pub returns-clause-storage : goal.returns-clause-storage
returns-clause-storage g c =
    let before = g.S.Storage.state c.args.image.now in
    let cleared = g.S.Storage.state c.clear_autoclear.new.image in
    let synced = g.S.Storage.state c.sync.new.self in
    let device : SameDevice before synced = search rules in
    let first : cleared.failures ≡ before.failures = grind (arith, nat_tests, c.in_ok-clear_autoclear.ensures.written.storage) in
    let second : synced.failures ≡ cleared.failures = grind (arith, nat_tests, c.in_ok-sync.ensures) in
    reports-then c.make.result before synced (g.S.Storage.state c.make.new.image) (second ∙ first) device c.make.ensures.storage
