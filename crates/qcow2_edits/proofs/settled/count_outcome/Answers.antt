use Rattle.qcow2_edits.specs.Settled.{range_of_one, times_counted}
use Rattle.qcow2_edits.proofs.SettledLemmas.{can-settle, gains-short, losses-short, moves-back, moves-flagged, settled-by, settled-is}
use Rattle.qcow2_edits.proofs.settled.count_outcome.Goals as goal
use Rattle.qcow2_metadata.specs.Refblock.Guard.{Decrement, Increment}
use Rattle.std.proofs.Common.{sym, arith}

pub returns-clause-back : goal.returns-clause-back
returns-clause-back c =
    let by = times_counted range_of_one c.args.outcome.now.gained.items c.args.first in
    moves-back Increment Decrement by c.args.block.now c.count_all-2.new.block c.count_list.new.block (λ is. cc)
    (moves-flagged Increment by c.args.block.now c.count_all.new.block c.count_all-2.new.block c.in-Err-count_all.ensures.back.1
    (rw c.as_slice-gained.ensures.value at c.in_default.ensures.changed).counters)
    (rw (c.unwrap.ensures, c.as_slice-gained.ensures.value) at c.count_list.ensures.changed).counters

pub returns-in-Err-clause-exact : goal.returns-in-Err-clause-exact
returns-in-Err-clause-exact c =
    grind (arith, gains-short c.args.first c.args.outcome.now.gained.items c.args.outcome.now.freed.items c.args.block.now (rw c.as_slice-gained.ensures.value at c.in-Err.ensures.out_of_range))

pub returns-clause-exact : goal.returns-clause-exact
returns-clause-exact c =
    let up = rw c.as_slice-gained.ensures.value at c.in_default.ensures.changed in
    grind (arith, losses-short c.args.first c.args.outcome.now.gained.items c.args.outcome.now.freed.items c.args.block.now c.count_all.new.block up.counters (rw c.as_slice.ensures.value at c.in-Err-count_all.ensures.out_of_range))

pub returns-in_default-count_all-clause-exact : goal.returns-in_default-count_all-clause-exact
returns-in_default-count_all-clause-exact c =
    let up = rw c.as_slice-gained.ensures.value at c.in_default.ensures.changed in
    let down = rw c.as_slice.ensures.value at c.in_default-count_all.ensures.changed in
    sym (settled-is c.args.first c.args.outcome.now c.args.block.now c.count_all-2.new.block
    (settled-by c.args.first c.args.outcome.now c.args.block.now c.count_all.new.block c.count_all-2.new.block up down)
    (can-settle c.args.first c.args.outcome.now.gained.items c.args.outcome.now.freed.items c.args.block.now c.count_all.new.block c.count_all-2.new.block
    up.counters c.count_all-2.ensures.fit down.counters))
