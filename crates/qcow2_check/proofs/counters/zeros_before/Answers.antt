use Rattle.std.proofs.Common.{◌≡◌, ◌+◌, ◌-◌, ◌*◌, ◌<◌, ◌≤◌, inl, inr, rules, arith}
use Rattle.std.proofs.lemmas.Bool.{cases_lt}
use Rattle.qcow2_check.proofs.counters.zeros_before.Goals as goal

pub loop-group-preserved : goal.loop-group-preserved
loop-group-preserved c = λ k from to.
    let passed = 64 * c.loop-group.group in
    let start = c.args.end - 64 * (c.loop-group.group + 1) in
    elim (cases_lt (k + passed) c.args.end) [
      | inl sooner ↦
          let j = k - start in
          let within : j < 64 = omega (arith, sooner) in
          let room : 64 * (c.loop-group.group + 1) ≤ c.args.end = search rules in
          let place : start + j ≡ k = omega (arith, from, room) in
          rw place at (c.are_zero.ensures (search rules) j within)
      | inr later ↦ c.loop-group.invariant k later to
    ]
