use Rattle.std.proofs.Common.{◌≡◌, ◌+◌, ◌/◌, rules, arith}
use Rattle.qcow2_check.specs.Tally.{cell_at}
use Rattle.qcow2_repair.proofs.CountersLemmas.{right_stays}
use Rattle.qcow2_repair.proofs.counters.unchanged_end.Goals as goal

pub returns-then-is_dense-clause-unchanged : goal.returns-then-is_dense-clause-unchanged
returns-then-is_dense-clause-unchanged c =
    right_stays c.args.pass (λ k. cell_at c.args.tally.now (c.args.part.first + k) / 8) c.args.part.from c.counted_groups.result c.args.block.now.numbers
    (λ k below. search rules)

pub returns-in-Fall-clause-unchanged : goal.returns-in-Fall-clause-unchanged
returns-in-Fall-clause-unchanged c =
    right_stays c.args.pass (λ k. cell_at c.args.tally.now (c.args.part.first + k) / 8) c.args.part.from c.zero_groups.result c.args.block.now.numbers
    (λ k below.
    let cluster = c.args.part.first + (c.args.part.from + k) in
    let unused : cell_at c.args.tally.now cluster ≡ 0 = c.next_used.ensures.none cluster (omega arith) (search rules) in
    grind (arith, unused, c.zero_groups.ensures.zero k below))
