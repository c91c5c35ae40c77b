use Rattle.std.proofs.Common.{◌≡◌, IsTrue, Ok, Err, refl, subst, sym, arith, rules}
use Rattle.std.proofs.lemmas.Bool.Decides.{nat_tests}
use Rattle.std.proofs.lemmas.Result.{err_from_is_err_and}
use Rattle.qcow2_base.specs.Storage.{SameDevice}
use Rattle.qcow2_check.proofs.FailuresLemmas.{refuses-no-more}
use Rattle.qcow2_apply.proofs.ApplyLemmas.{reports-fault, reports-then, reports-value}
use Rattle.qcow2_apply.specs.Apply.{FollowsPlan, Makes, Refuses}
use Rattle.qcow2_apply.specs.Plan.{IsPlanOf}
use Rattle.qcow2_apply.specs.declared.changed_clusters.ChangedClusters.{ChangedClusters}
use Rattle.qcow2_apply.proofs.apply.apply_edits.Goals as goal

pub returns-in_err-plan-clause-edited : goal.returns-in_err-plan-clause-edited
returns-in_err-plan-clause-edited g c =
    let exit = err_from_is_err_and c.from_residual.result c.from_residual.ensures.1 in
    let same : (g.S.Storage.state c.new.new.image).byte_at ≡ (g.S.Storage.state c.args.image.now).byte_at = search rules in
    rw (exit.1, exit.2) (λ told. Refuses (c.in_err-plan.ensures.refused told) refl refl same)

pub returns-in_err-carry_out-clause-edited : goal.returns-in_err-carry_out-clause-edited
returns-in_err-carry_out-clause-edited g c =
    let exit = err_from_is_err_and c.from_residual-in_err-carry_out.result c.from_residual-in_err-carry_out.ensures.1 in
    let before = g.S.Storage.state c.args.image.now in
    let read = g.S.Storage.state c.new.new.image in
    let header = c.args.header.now in
    let plan = c.in_ok-plan.plan in
    rw (exit.1, exit.2) (λ told.
    let known : IsTrue read.tells = search rules in
    let same : read.byte_at ≡ before.byte_at = search rules in
    let planned = c.in_ok-plan.ensures.planned told in
    Makes plan c.in_ok-plan.ensures.plan planned
    (subst (λ bytes. FollowsPlan header c.args.edits.now plan (Err c.in_err-carry_out.field-0.0) bytes (g.S.Storage.state c.carry_out.new.image).byte_at) same
    (c.in_err-carry_out.ensures.followed known (subst (λ bytes. IsPlanOf header c.args.edits.now bytes plan) (sym same) planned))) tt
    c.in_err-carry_out.ensures.header)

pub returns-clause-edited : goal.returns-clause-edited
returns-clause-edited g c = λ told.
    let before = g.S.Storage.state c.args.image.now in
    let read = g.S.Storage.state c.new.new.image in
    let header = c.args.header.now in
    let plan = c.in_ok-plan.plan in
    let known : IsTrue read.tells = search rules in
    let same : read.byte_at ≡ before.byte_at = search rules in
    let planned = c.in_ok-plan.ensures.planned told in
    Makes plan c.in_ok-plan.ensures.plan planned
    (subst (λ bytes. FollowsPlan header c.args.edits.now plan (Ok tt) bytes (g.S.Storage.state c.carry_out.new.image).byte_at) same
    (c.in_ok-carry_out.ensures.followed known (subst (λ bytes. IsPlanOf header c.args.edits.now bytes plan) (sym same) planned))) refl
    c.in_ok-carry_out.ensures.header

pub returns-in_err-carry_out-clause-storage : goal.returns-in_err-carry_out-clause-storage
returns-in_err-carry_out-clause-storage g c =
    let exit = err_from_is_err_and c.from_residual-in_err-carry_out.result c.from_residual-in_err-carry_out.ensures.1 in
    let before = g.S.Storage.state c.args.image.now in
    let read = g.S.Storage.state c.new.new.image in
    let after = g.S.Storage.state c.carry_out.new.image in
    let device : SameDevice before read = search rules in
    let first : read.failures ≡ before.failures = grind (arith, nat_tests, c.in_ok-plan.ensures.storage) in
    rw (exit.1, exit.2) (reports-fault c.in_err-carry_out.field-0.0 before after
    (reports-then (Err c.in_err-carry_out.field-0.0) before read after first device c.in_err-carry_out.ensures.storage))

pub returns-clause-storage : goal.returns-clause-storage
returns-clause-storage g c =
    let before = g.S.Storage.state c.args.image.now in
    let read = g.S.Storage.state c.new.new.image in
    let after = g.S.Storage.state c.carry_out.new.image in
    let device : SameDevice before read = search rules in
    let first : read.failures ≡ before.failures = grind (arith, nat_tests, c.in_ok-plan.ensures.storage) in
    reports-value (tt {0}) c.in_ok-plan.plan.clusters before after (reports-then (Ok tt) before read after first device c.in_ok-carry_out.ensures.storage)

pub returns-in_err-plan-clause-end : goal.returns-in_err-plan-clause-end
returns-in_err-plan-clause-end g c =
    let exit = err_from_is_err_and c.from_residual.result c.from_residual.ensures.1 in
    rw (exit.1, exit.2) c.in_err-plan.ensures.end

pub returns-in_err-workspace-clause-end : goal.returns-in_err-workspace-clause-end
returns-in_err-workspace-clause-end g c = λ told. refuses-no-more _ c.in_ok-plan.plan _ (c.in_ok-plan.ensures.end told)

pub returns-in_err-carry_out-clause-end : goal.returns-in_err-carry_out-clause-end
returns-in_err-carry_out-clause-end g c = λ told. refuses-no-more _ c.in_ok-plan.plan _ (c.in_ok-plan.ensures.end told)

pub returns-clause-end : goal.returns-clause-end
returns-clause-end g c = λ told.
    let clusters = c.in_ok-plan.plan.clusters in
    refuses-no-more {U = ChangedClusters} _ c.in_ok-plan.plan (Ok clusters) (c.in_ok-plan.ensures.end told)
