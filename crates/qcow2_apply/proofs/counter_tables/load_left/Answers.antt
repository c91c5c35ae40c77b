use Rattle.std.proofs.Common.{inl, inr, rules}
use Rattle.std.proofs.lemmas.Result.{err_from_is_err_and}
use Rattle.qcow2_apply.proofs.CounterTablesLemmas.{place-at}
use Rattle.qcow2_apply.proofs.PlannedChangesLemmas.{block-fits, gains-stuck, losses-stuck}
use Rattle.qcow2_apply.proofs.counter_tables.load_left.Goals as goal

pub load_followed-requires-clause-place : goal.load_followed-requires-clause-place
load_followed-requires-clause-place g c = place-at c.args.tables.now c.args.index c.args.place (search rules) c.requires.place

pub returns-in_err-block-clause-fault : goal.returns-in_err-block-clause-fault
returns-in_err-block-clause-fault g c =
    let exit = err_from_is_err_and c.from_residual.result c.from_residual.ensures.1 in
    rw (exit.1, exit.2) (elim c.in_err-block.ensures.fault [
      | inl outside ↦ inl outside
      | inr stuck ↦ inr (
        stuck.0,
        λ told.
            gains-stuck c.args.tables.now c.args.gains.now c.args.losses.now c.args.index c.args.place (g.S.Storage.state c.args.image.now).byte_at
            c.requires.sorted (search rules) (search rules) (g.met.S.Storage.byte_fits c.args.image.now) (stuck.1 told),
      )
    ])

pub returns-in_err-follow_if_changed-clause-fault : goal.returns-in_err-follow_if_changed-clause-fault
returns-in_err-follow_if_changed-clause-fault g c =
    let exit = err_from_is_err_and c.from_residual-in_err-follow_if_changed.result c.from_residual-in_err-follow_if_changed.ensures.1 in
    let stuck = c.in_err-follow_if_changed.ensures.fault in
    rw (exit.1, exit.2) (inr (
      stuck.0,
      λ told. losses-stuck c.args.tables.now c.args.gains.now c.args.losses.now c.args.index c.args.place (g.S.Storage.state c.args.image.now).byte_at
          c.in_ok-block.block.numbers c.requires.sorted (search rules) (c.in_ok-block.ensures.followed told)
          (λ k. block-fits c.args.tables.now c.in_ok-block.block k (search rules) c.entries.ensures.valid) stuck.1,
    ))

pub returns-clause-left : goal.returns-clause-left
returns-clause-left g c = λ told. record {
  risen = c.in_ok-block.block.numbers;
  gained = c.in_ok-block.ensures.followed told;
  fits = λ k. block-fits c.args.tables.now c.in_ok-block.block k (search rules) c.entries.ensures.valid;
  lost = search rules;
}
