use Rattle.std.proofs.Common.{arith, flat_map, subst, sym}
use Rattle.std.proofs.lemmas.List.{take_all}
use Rattle.qcow2_check.specs.Tally.{CountsMore, repetition}
use Rattle.qcow2_check.specs.Uses.{entry_uses}
use Rattle.qcow2_check.proofs.RepeatedLemmas.{no_repeated_uses, repeated_together}
use Rattle.qcow2_check.proofs.counting.count_repeated.Goals as goal

pub returns-then-external_data_file-clause-counted : goal.returns-then-external_data_file-clause-counted
returns-then-external_data_file-clause-counted c =
    no_repeated_uses c.args.table.now.geometry c.args.table.now.numbers c.args.times c.args.tally.now (sym c.if-external_data_file.ensures)

pub returns-clause-counted : goal.returns-clause-counted
returns-clause-counted c =
    let uses = entry_uses c.args.table.now.geometry in
    let numbers = c.args.table.now.numbers in
    repeated_together uses c.args.times numbers c.args.tally.now c.loop-index.tally
    (subst (λ vs. CountsMore (flat_map (λ v. repetition c.args.times (uses v)) vs) c.args.tally.now c.loop-index.tally)
    (take_all c.loop-index.index numbers (omega (arith, c.loop-index-test.false, c.entries-index-end.ensures.count))) c.loop-index.invariant)
