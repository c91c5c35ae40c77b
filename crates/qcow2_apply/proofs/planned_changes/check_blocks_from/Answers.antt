use Rattle.std.proofs.Common.{◌≡◌, ◌≤◌, IsTrue, length, inl, inr, arith, rules}
use Rattle.std.proofs.lemmas.Result.{err_from_is_err_and}
use Rattle.qcow2_apply.proofs.PlannedChangesLemmas.{counts-next}
use Rattle.qcow2_apply.proofs.planned_changes.check_blocks_from.Goals as goal

pub loop-index-init : goal.loop-index-init
loop-index-init g c = record {
  counts = λ told cluster later below. absurd (omega (arith, later, below));
  storage = search rules;
}

pub loop-index-preserved : goal.loop-index-preserved
loop-index-preserved g c = record {
  counts = λ told.
      let known : IsTrue (g.S.Storage.state c.loop-index.image).tells = search rules in
      let same : (g.S.Storage.state c.loop-index.image).byte_at ≡ (g.S.Storage.state c.args.image.now).byte_at = search rules in
      counts-next c.args.tables.now c.args.gains.now c.args.losses.now c.args.from c.loop-index.index (g.S.Storage.state c.args.image.now).byte_at
      (c.loop-index.invariant.counts told) (rw same at (c.in_ok-check_block.ensures.counts known));
  storage = search rules;
}

pub returns-clause-counts : goal.returns-clause-counts
returns-clause-counts g c = λ told cluster later below.
    let same : c.args.tables.now.reftable ≡ c.tables.inside.reftable.now.numbers = search rules in
    let count : length c.args.tables.now.reftable ≤ c.loop-index.index = rw same (omega (arith, c.loop-index-test.false)) in
    c.loop-index.invariant.counts told cluster later (omega (arith, below, count))

pub returns-in_err-check_block-clause-fault : goal.returns-in_err-check_block-clause-fault
returns-in_err-check_block-clause-fault g c =
    let exit = err_from_is_err_and c.from_residual.result c.from_residual.ensures.1 in
    rw (exit.1, exit.2) (elim c.in_err-check_block.ensures.fault [
      | inl outside ↦ inl outside
      | inr cannot ↦ inr (
        cannot.0,
        λ told.
            let known : IsTrue (g.S.Storage.state c.loop-index.image).tells = search rules in
            let same : (g.S.Storage.state c.loop-index.image).byte_at ≡ (g.S.Storage.state c.args.image.now).byte_at = search rules in
            rw same at (cannot.1 known),
      )
    ])

pub returns-in_err-check_block-clause-storage : goal.returns-in_err-check_block-clause-storage
returns-in_err-check_block-clause-storage g c = grind (arith)
