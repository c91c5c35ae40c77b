use Rattle.std.proofs.Common.{rules}
use Rattle.std.proofs.lemmas.Result.{err_from_is_err_and}
use Rattle.qcow2_check.proofs.CountersLemmas.{refused_at}
use Rattle.qcow2_check.proofs.counters.check_places.Goals as goal

pub returns-in_err-check_place-clause-place : goal.returns-in_err-check_place-clause-place
returns-in_err-check_place-clause-place c =
    let exit = err_from_is_err_and c.from_residual.result c.from_residual.ensures.1 in
    rw (exit.1, exit.2) (refused_at c.args.header.now c.args.reftable.now.numbers c.loop-index.index c.in_err-check_place.field-0.0 (search rules) c.loop-index.invariant (search rules))
