use Rattle.std.proofs.Common.{◌≡◌, ◌≤◌, IsTrue, length, refl, inl, inr, ◌∙◌, arith, rules}
use Rattle.std.proofs.lemmas.Result.{err_from_is_err_and}
use Rattle.qcow2_apply.proofs.BlocksLemmas.{counters-follow, counters-stop, stuck-before}
use Rattle.qcow2_apply.proofs.CounterTablesLemmas.{names-below}
use Rattle.qcow2_apply.proofs.PassesLemmas.{begins, breaks-later, keeps-twice, none-tears, passes-all, steps-next}
use Rattle.qcow2_apply.specs.CounterTables.{BlockFollows}
use Rattle.qcow2_apply.specs.Blocks.{blocks}
use Rattle.qcow2_apply.proofs.blocks.follow_changes.Goals as goal

pub loop-index-init : goal.loop-index-init
loop-index-init g c = record {
  passed = λ apart told. begins (blocks c.args.tables.now) (BlockFollows c.args.tables.now c.args.changes.now) (g.S.Storage.state c.args.image.now).byte_at;
  others = λ told o outside. refl;
  block = c.requires.block;
  storage = search rules;
}

pub loop-index-preserved : goal.loop-index-preserved
loop-index-preserved g c = record {
  passed = λ apart told.
      let known : IsTrue (g.S.Storage.state c.loop-index.image).tells = search rules in
      steps-next (blocks c.args.tables.now) (BlockFollows c.args.tables.now c.args.changes.now) c.loop-index.index (g.S.Storage.state c.args.image.now).byte_at
      (g.S.Storage.state c.loop-index.image).byte_at (g.S.Storage.state c.follow_at.new.image).byte_at (c.loop-index.invariant.passed apart told) (c.in_ok-follow_at.ensures.followed apart known);
  others = λ told.
      let known : IsTrue (g.S.Storage.state c.loop-index.image).tells = search rules in
      keeps-twice (blocks c.args.tables.now) (g.S.Storage.state c.args.image.now).byte_at (g.S.Storage.state c.loop-index.image).byte_at
      (g.S.Storage.state c.follow_at.new.image).byte_at (c.loop-index.invariant.others told) (c.in_ok-follow_at.ensures.others known);
  block = c.follow_at.ensures.block ∙ c.loop-index.invariant.block;
  storage = search rules;
}

pub returns-in_err-follow_at-clause-followed : goal.returns-in_err-follow_at-clause-followed
returns-in_err-follow_at-clause-followed g c = λ apart told.
    let exit = err_from_is_err_and c.from_residual.result c.from_residual.ensures.1 in
    let known : IsTrue (g.S.Storage.state c.loop-index.image).tells = search rules in
    rw (exit.1, exit.2) (counters-stop c.args.tables.now c.args.changes.now c.in_err-follow_at.field-0.0 (g.S.Storage.state c.args.image.now).byte_at (g.S.Storage.state c.follow_at.new.image).byte_at
    (breaks-later (blocks c.args.tables.now) (BlockFollows c.args.tables.now c.args.changes.now) c.loop-index.index c.in_err-follow_at.field-0.0 (g.S.Storage.state c.args.image.now).byte_at
    (g.S.Storage.state c.loop-index.image).byte_at (g.S.Storage.state c.follow_at.new.image).byte_at (c.loop-index.invariant.passed apart told) (c.in_err-follow_at.ensures.followed apart known)))

pub returns-in_err-follow_at-clause-fault : goal.returns-in_err-follow_at-clause-fault
returns-in_err-follow_at-clause-fault g c =
    let exit = err_from_is_err_and c.from_residual.result c.from_residual.ensures.1 in
    rw (exit.1, exit.2) (elim c.in_err-follow_at.ensures.fault [
      | inl failed ↦ inl failed
      | inr stuck ↦ inr (
        stuck.0,
        λ apart told.
            let known : IsTrue (g.S.Storage.state c.loop-index.image).tells = search rules in
            stuck-before c.args.tables.now c.args.changes.now c.loop-index.index (g.S.Storage.state c.args.image.now).byte_at
            (g.S.Storage.state c.loop-index.image).byte_at (c.loop-index.invariant.passed apart told) (stuck.1 known),
      )
    ])

pub returns-in_err-follow_at-clause-storage : goal.returns-in_err-follow_at-clause-storage
returns-in_err-follow_at-clause-storage g c = grind (arith)

pub returns-in_err-sync-clause-followed : goal.returns-in_err-sync-clause-followed
returns-in_err-sync-clause-followed g c = λ apart told.
    let exit = err_from_is_err_and c.from_residual-in_err-sync.result c.from_residual-in_err-sync.ensures.1 in
    let places = blocks c.args.tables.now in
    rw exit.1 (counters-stop c.args.tables.now c.args.changes.now _ (g.S.Storage.state c.args.image.now).byte_at (g.S.Storage.state c.sync.new.self).byte_at
    (breaks-later places (BlockFollows c.args.tables.now c.args.changes.now) c.loop-index.index _ (g.S.Storage.state c.args.image.now).byte_at
    (g.S.Storage.state c.loop-index.image).byte_at (g.S.Storage.state c.sync.new.self).byte_at (c.loop-index.invariant.passed apart told)
    (none-tears places _ (g.S.Storage.state c.loop-index.image).byte_at (g.S.Storage.state c.sync.new.self).byte_at (search rules))))

pub returns-clause-followed : goal.returns-clause-followed
returns-clause-followed g c = λ apart told.
    let same : c.args.tables.now.reftable ≡ c.tables.inside.reftable.now.numbers = search rules in
    let count : length c.args.tables.now.reftable ≤ c.loop-index.index = rw same (omega (arith, c.loop-index-test.false)) in
    let passed = passes-all (blocks c.args.tables.now) (BlockFollows c.args.tables.now c.args.changes.now) c.loop-index.index (g.S.Storage.state c.args.image.now).byte_at
    (g.S.Storage.state c.loop-index.image).byte_at (g.S.Storage.state c.sync.new.self).byte_at (search rules)
    (λ i block names. omega (arith, names-below c.args.tables.now i block names, count)) (c.loop-index.invariant.passed apart told) in
    counters-follow c.args.tables.now c.args.changes.now _ _ passed

pub returns-in_err-follow_at-clause-others : goal.returns-in_err-follow_at-clause-others
returns-in_err-follow_at-clause-others g c = λ told.
    let known : IsTrue (g.S.Storage.state c.loop-index.image).tells = search rules in
    keeps-twice (blocks c.args.tables.now) (g.S.Storage.state c.args.image.now).byte_at (g.S.Storage.state c.loop-index.image).byte_at
    (g.S.Storage.state c.follow_at.new.image).byte_at (c.loop-index.invariant.others told) (c.in_err-follow_at.ensures.others known)

pub returns-in_err-sync-clause-others : goal.returns-in_err-sync-clause-others
returns-in_err-sync-clause-others g c = λ told. let same : (g.S.Storage.state c.sync.new.self).byte_at ≡ (g.S.Storage.state c.loop-index.image).byte_at = search rules in
    rw same (c.loop-index.invariant.others told)

pub returns-clause-others : goal.returns-clause-others
returns-clause-others g c = λ told. let same : (g.S.Storage.state c.sync.new.self).byte_at ≡ (g.S.Storage.state c.loop-index.image).byte_at = search rules in
    rw same (c.loop-index.invariant.others told)
