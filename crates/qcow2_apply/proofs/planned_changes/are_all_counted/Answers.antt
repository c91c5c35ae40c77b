use Rattle.std.proofs.Common.{subst}
use Rattle.std.proofs.lemmas.List.{take_all}
use Rattle.std.proofs.lemmas.List.Elements.{All-more}
use Rattle.std.specs.List.{All}
use Rattle.qcow2_apply.specs.PlannedChanges.{HaveCounters}
use Rattle.qcow2_apply.proofs.planned_changes.are_all_counted.Goals as goal

pub loop-clusters-preserved : goal.loop-clusters-preserved
loop-clusters-preserved c = All-more (HaveCounters c.args.counters.now.header c.args.counters.now.reftable) c.args.list.now c.loop-clusters.clusters-index _
    c.loop-clusters-test.true c.loop-clusters.invariant (c.are_counted.ensures.counted c.if-not-are_counted.false)

pub returns-clause-counted : goal.returns-clause-counted
returns-clause-counted c = λ yes. subst (λ list. All (HaveCounters c.args.counters.now.header c.args.counters.now.reftable) list)
    (take_all c.loop-clusters.clusters-index c.args.list.now c.loop-clusters-test.false) c.loop-clusters.invariant
