use Rattle.std.proofs.Common.{◌≡◌, ◌≤◌, IsTrue, length, refl, inl, inr, arith, rules}
use Rattle.std.proofs.lemmas.Result.{err_from_is_err_and}
use Rattle.qcow2_apply.proofs.PassesLemmas.{begins, breaks-later, keeps-twice, none-tears, passes-all, steps-next}
use Rattle.qcow2_apply.proofs.TablesLemmas.{fails-first, named-below, none-fails-next}
use Rattle.qcow2_apply.specs.Tables.{IsEdited, l2_tables}
use Rattle.qcow2_apply.proofs.tables.edit_tables.Goals as goal

pub loop-index-init : goal.loop-index-init
loop-index-init g c = record {
  passed = λ apart told. begins (l2_tables c.args.header.now c.args.l1_table.now.numbers) (IsEdited c.args.header.now c.args.edits.now) (g.S.Storage.state c.args.image.now).byte_at;
  loaded = λ apart told i fault below fails. absurd (omega (arith, below));
  others = λ told o outside. refl;
  table = c.requires.tables.1;
  storage = search rules;
}

pub edit_at-requires-clause-tables : goal.edit_at-requires-clause-tables
edit_at-requires-clause-tables g c = (c.requires.tables.0, c.loop-index.invariant.table)

pub loop-index-preserved : goal.loop-index-preserved
loop-index-preserved g c = record {
  passed = λ apart told.
      let known : IsTrue (g.S.Storage.state c.loop-index.image).tells = search rules in
      steps-next (l2_tables c.args.header.now c.args.l1_table.now.numbers) (IsEdited c.args.header.now c.args.edits.now) c.loop-index.index (g.S.Storage.state c.args.image.now).byte_at
      (g.S.Storage.state c.loop-index.image).byte_at (g.S.Storage.state c.edit_at.new.image).byte_at (c.loop-index.invariant.passed apart told) (c.in_ok-edit_at.ensures.edited apart known);
  loaded = λ apart told.
      let known : IsTrue (g.S.Storage.state c.loop-index.image).tells = search rules in
      none-fails-next c.args.header.now c.args.l1_table.now.numbers c.args.edits.now c.loop-index.index (g.S.Storage.state c.args.image.now).byte_at
      (g.S.Storage.state c.loop-index.image).byte_at (c.loop-index.invariant.passed apart told) (c.loop-index.invariant.loaded apart told) (c.in_ok-edit_at.ensures.loaded.loads known);
  others = λ told.
      let known : IsTrue (g.S.Storage.state c.loop-index.image).tells = search rules in
      keeps-twice (l2_tables c.args.header.now c.args.l1_table.now.numbers) (g.S.Storage.state c.args.image.now).byte_at (g.S.Storage.state c.loop-index.image).byte_at
      (g.S.Storage.state c.edit_at.new.image).byte_at (c.loop-index.invariant.others told) (c.in_ok-edit_at.ensures.others known);
  table = c.edit_at.ensures.table;
  storage = search rules;
}

pub returns-in_err-edit_at-clause-edited : goal.returns-in_err-edit_at-clause-edited
returns-in_err-edit_at-clause-edited g c = λ apart told.
    let exit = err_from_is_err_and c.from_residual.result c.from_residual.ensures.1 in
    let known : IsTrue (g.S.Storage.state c.loop-index.image).tells = search rules in
    rw (exit.1, exit.2) (breaks-later (l2_tables c.args.header.now c.args.l1_table.now.numbers) (IsEdited c.args.header.now c.args.edits.now) c.loop-index.index c.in_err-edit_at.field-0.0
    (g.S.Storage.state c.args.image.now).byte_at (g.S.Storage.state c.loop-index.image).byte_at (g.S.Storage.state c.edit_at.new.image).byte_at
    (c.loop-index.invariant.passed apart told) (c.in_err-edit_at.ensures.edited apart known))

pub returns-in_err-edit_at-clause-loaded : goal.returns-in_err-edit_at-clause-loaded
returns-in_err-edit_at-clause-loaded g c =
    let exit = err_from_is_err_and c.from_residual.result c.from_residual.ensures.1 in
    rw (exit.1, exit.2) (record {
      loads = tt;
      fault = (
        c.in_err-edit_at.ensures.loaded.fault.0,
        λ apart told.
            let known : IsTrue (g.S.Storage.state c.loop-index.image).tells = search rules in
            elim (c.in_err-edit_at.ensures.loaded.fault.1 known) [
              | inl failed ↦ inl failed
              | inr fails ↦ inr (fails-first c.args.header.now c.args.l1_table.now.numbers c.args.edits.now c.loop-index.index c.in_err-edit_at.field-0.0 (g.S.Storage.state c.args.image.now).byte_at
                  (g.S.Storage.state c.loop-index.image).byte_at (c.loop-index.invariant.passed apart told) (c.loop-index.invariant.loaded apart told) fails)
            ],
      );
    })

pub returns-in_err-edit_at-clause-storage : goal.returns-in_err-edit_at-clause-storage
returns-in_err-edit_at-clause-storage g c = grind (arith)

pub returns-in_err-sync-clause-edited : goal.returns-in_err-sync-clause-edited
returns-in_err-sync-clause-edited g c = λ apart told.
    let exit = err_from_is_err_and c.from_residual-in_err-sync.result c.from_residual-in_err-sync.ensures.1 in
    let places = l2_tables c.args.header.now c.args.l1_table.now.numbers in
    rw exit.1 (breaks-later places (IsEdited c.args.header.now c.args.edits.now) c.loop-index.index _ (g.S.Storage.state c.args.image.now).byte_at
    (g.S.Storage.state c.loop-index.image).byte_at (g.S.Storage.state c.sync.new.self).byte_at (c.loop-index.invariant.passed apart told)
    (none-tears places _ (g.S.Storage.state c.loop-index.image).byte_at (g.S.Storage.state c.sync.new.self).byte_at (search rules)))

pub returns-clause-edited : goal.returns-clause-edited
returns-clause-edited g c = λ apart told.
    let header = c.args.header.now in
    let l1 = c.args.l1_table.now.numbers in
    let count : length l1 ≤ c.loop-index.index = omega (arith, c.loop-index-test.false, c.requires.count) in
    passes-all (l2_tables header l1) (IsEdited header c.args.edits.now) c.loop-index.index (g.S.Storage.state c.args.image.now).byte_at
    (g.S.Storage.state c.loop-index.image).byte_at (g.S.Storage.state c.sync.new.self).byte_at (search rules)
    (λ i table names. omega (arith, named-below header l1 i table names, count)) (c.loop-index.invariant.passed apart told)

pub returns-in_err-edit_at-clause-others : goal.returns-in_err-edit_at-clause-others
returns-in_err-edit_at-clause-others g c = λ told.
    let known : IsTrue (g.S.Storage.state c.loop-index.image).tells = search rules in
    keeps-twice (l2_tables c.args.header.now c.args.l1_table.now.numbers) (g.S.Storage.state c.args.image.now).byte_at (g.S.Storage.state c.loop-index.image).byte_at
    (g.S.Storage.state c.edit_at.new.image).byte_at (c.loop-index.invariant.others told) (c.in_err-edit_at.ensures.others known)

pub returns-in_err-sync-clause-others : goal.returns-in_err-sync-clause-others
returns-in_err-sync-clause-others g c = λ told. let same : (g.S.Storage.state c.sync.new.self).byte_at ≡ (g.S.Storage.state c.loop-index.image).byte_at = search rules in
    rw same (c.loop-index.invariant.others told)

pub returns-clause-others : goal.returns-clause-others
returns-clause-others g c = λ told. let same : (g.S.Storage.state c.sync.new.self).byte_at ≡ (g.S.Storage.state c.loop-index.image).byte_at = search rules in
    rw same (c.loop-index.invariant.others told)

pub returns-clause-loaded : goal.returns-clause-loaded
returns-clause-loaded g c = record {
  loads = λ apart told i fault below fails. c.loop-index.invariant.loaded apart told i fault (omega (arith, below, c.requires.count, c.loop-index-test.false)) fails;
  fault = tt;
}
