use Rattle.std.proofs.Common.{◌≡◌, ◌+◌, ◌-◌, ◌*◌, ◌<◌, inl, inr, rules, arith}
use Rattle.std.proofs.lemmas.Bool.{cases_lt}
use Rattle.qcow2_check.proofs.counters.zero_groups.Goals as goal

pub loop-group-preserved : goal.loop-group-preserved
loop-group-preserved c = λ k below.
    let start = 64 * c.loop-group.group in
    elim (cases_lt k start) [
      | inl less ↦ c.loop-group.invariant k less
      | inr more ↦
          let j = k - start in
          let within : j < 64 = omega (arith, below, more) in
          let place : c.args.first + start + j ≡ c.args.first + k = omega (arith, more) in
          rw place at (c.are_zero.ensures (search rules) j within)
    ]
