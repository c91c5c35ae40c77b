use Rattle.std.proofs.Common.{refl, rules}
use Rattle.qcow2_check.proofs.GroupsLemmas.{row_group, unallocated_group}
use Rattle.qcow2_check.proofs.counting.count_group.Goals as goal

pub returns-then-are_unallocated-clause-counted : goal.returns-then-are_unallocated-clause-counted
returns-then-are_unallocated-clause-counted c = λ done.
    unallocated_group c.args.table.now.geometry c.args.table.now.numbers c.args.index c.args.tally.now c.requires.inside c.requires.group (c.if-are_unallocated.ensures refl)

pub returns-in-Some-clause-counted : goal.returns-in-Some-clause-counted
returns-in-Some-clause-counted c = λ added.
    row_group c.args.table.now.geometry c.args.table.now.numbers c.args.index c.in-Some.start.0 c.args.tally.now c.add_group.new.self c.requires.inside (search rules)
    c.requires.group c.in-Some.ensures.row (c.add_group.ensures.counted added)
