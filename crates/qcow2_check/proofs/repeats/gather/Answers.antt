use Rattle.std.proofs.Common.{arith, subst}
use Rattle.std.proofs.lemmas.List.{length-set}
use Rattle.qcow2_check.proofs.RepeatsLemmas.{AreGathered, as_many, gathered_all, gathered_new, gathered_none, gathered_same, place_below}
use Rattle.qcow2_check.proofs.repeats.gather.Goals as goal
use Rattle.qcow2_check.proofs.repeats.gather.Goals.{then-place-gt0+then-offsets-index, else-place-gt0, else-place-gt0-via-then-place-gt0+else-offsets-index, else-place-gt0-via-else-place-gt0}

pub loop-place-init : goal.loop-place-init
loop-place-init c = gathered_none c.args.offsets.now c.args.order.now c.args.times.now c.requires.few c.requires.order c.requires.once

pub bounds-offsets-index : goal.bounds-offsets-index
bounds-offsets-index c = place_below c.args.offsets.now c.args.order.now c.requires.few c.requires.order c.loop-place.place c.loop-place-test.true

pub overflow_add-times : goal.overflow_add-times
overflow_add-times c =
    let first = c.loop-place.invariant.first c.if-place-gt0.true in
    let many = as_many c.args.offsets.now c.args.order.now c.requires.few c.requires.order in
    omega (arith, first.5, many, c.loop-place-test.true, c.requires.few)

pub bounds-times-index : goal.bounds-times-index
bounds-times-index c =
    let below = place_below c.args.offsets.now c.args.order.now c.requires.few c.requires.order c.loop-place.place c.loop-place-test.true in
    rw (length-set c.loop-place.times c.loop-place.first _, c.loop-place.invariant.len) below

pub loop-place-preserved : goal.loop-place-preserved
loop-place-preserved c =
    let names = c.args.offsets.now in
    let order = c.args.order.now in
    let so_far = c.loop-place.invariant in
    elim c.if-place-gt0.branch [
      | then-place-gt0+then-offsets-index w ↦
          rw (w.times-is, w.first-is) (gathered_same names order c.loop-place.times c.loop-place.place c.loop-place.first c.requires.few c.requires.order so_far
          c.loop-place-test.true w.if-place-gt0.true w.if-offsets-index.true)
      | else-place-gt0 w ↦
          rw (w.times-is, w.first-is) (gathered_new names order c.loop-place.times c.loop-place.place c.loop-place.first c.requires.few c.requires.order so_far
          c.loop-place-test.true (λ some same. elim w.else-place-gt0.branch [
            | else-place-gt0-via-then-place-gt0+else-offsets-index w' ↦ w'.if-offsets-index.false same
            | else-place-gt0-via-else-place-gt0 w' ↦ let never : ⊥ = omega (arith, some, w'.if-place-gt0.false) in elim never [ ]
          ]))
    ]

pub returns : goal.returns
returns c = gathered_all c.args.offsets.now c.args.order.now c.loop-place.times c.loop-place.first c.requires.few c.requires.order
    (subst (λ n. AreGathered c.args.offsets.now c.args.order.now c.loop-place.times n c.loop-place.first)
    (omega (arith, c.loop-place-test.false, c.loop-place.auto.place-end)) c.loop-place.invariant)
