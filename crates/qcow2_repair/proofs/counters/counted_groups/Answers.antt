use Rattle.std.proofs.Common.{◌≡◌, ◌+◌, ◌-◌, ◌*◌, ◌<◌, inl, inr, rules, arith}
use Rattle.std.proofs.lemmas.Bool.{cases_lt}
use Rattle.qcow2_repair.proofs.counters.counted_groups.Goals as goal

pub loop-group-preserved : goal.loop-group-preserved
loop-group-preserved c = λ k below.
    let start = 64 * c.loop-group.group in
    elim (cases_lt k start) [
      | inl less ↦ c.loop-group.invariant k less
      | inr more ↦
          let j = k - start in
          let within : j < 64 = omega (arith, below, more) in
          let place : c.args.index + start + j ≡ c.args.index + k = omega (arith, more) in
          let cluster : c.args.first + start + j ≡ c.args.first + k = omega (arith, more) in
          let counted = c.are_counted.ensures (search rules) j within in
          let copied = c.cells_from.ensures j within in
          rw (copied, place, cluster) at counted
    ]
