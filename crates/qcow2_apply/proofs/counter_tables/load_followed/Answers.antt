use Rattle.std.proofs.Common.{◌≡◌, inl, inr, subst, rules, arith}
use Rattle.std.proofs.lemmas.Result.{err_from_is_err_and}
use Rattle.qcow2_apply.specs.CounterTables.{BlockIsStuck, block_numbers}
use Rattle.qcow2_apply.proofs.counter_tables.load_followed.Goals as goal

pub returns-in_err-block-clause-fault : goal.returns-in_err-block-clause-fault
returns-in_err-block-clause-fault g c =
    let exit = err_from_is_err_and c.from_residual.result c.from_residual.ensures.1 in
    rw (exit.1, exit.2) (elim c.in_err-block.ensures.reads.faults [
      | inl refused ↦ absurd (grind (arith, c.requires.place, refused))
      | inr outside ↦ inl outside
    ])

pub returns-in_err-follow_if_changed-clause-fault : goal.returns-in_err-follow_if_changed-clause-fault
returns-in_err-follow_if_changed-clause-fault g c =
    let exit = err_from_is_err_and c.from_residual-in_err-follow_if_changed.result c.from_residual-in_err-follow_if_changed.ensures.1 in
    let stuck = c.in_err-follow_if_changed.ensures.fault in
    rw (exit.1, exit.2) (inr (
      stuck.0,
      λ told.
          let loaded : c.in_ok-block.block.numbers ≡ block_numbers c.args.tables.now c.args.place (g.S.Storage.state c.args.image.now).byte_at = search rules in
          subst (λ numbers. BlockIsStuck c.args.tables.now c.args.changes.now c.args.index numbers) loaded stuck.1,
    ))
