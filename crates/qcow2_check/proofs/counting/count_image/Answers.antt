use Rattle.std.proofs.Common.{◌++◌}
use Rattle.qcow2_check.proofs.CountingLemmas.{counts_both, first_kept}
use Rattle.qcow2_check.proofs.RepeatedLemmas.{counted_all}
use Rattle.qcow2_check.proofs.SinkLemmas.{took_after}
use Rattle.qcow2_check.specs.Walk.{CountsUses, repeated_list, tables_list}
use Rattle.qcow2_check.proofs.counting.count_image.Goals as goal

pub returns-clause-counted : goal.returns-clause-counted
returns-clause-counted g c =
    let state = g.S.Storage.state c.args.image.now in
    let tables = c.args.tables.now in
    let times = c.args.repeats.now in
    counted_all c.count_guest.result state tables times c.args.tally.now c.count_guest.new.tally c.requires
    (took_after CountsUses counts_both c.count_guest.result state (tables_list tables) (repeated_list tables times)
    c.args.tally.now c.walk_tables.new.sink c.count_guest.new.tally c.in_ok-walk_tables.ensures.taken c.count_guest.ensures.taken)

pub returns-clause-first : goal.returns-clause-first
returns-clause-first g c =
    let state = g.S.Storage.state c.args.image.now in
    let tables = c.args.tables.now in
    let times = c.args.repeats.now in
    first_kept c.count_guest.result state (λ bytes. tables_list tables ++ repeated_list tables times bytes) c.args.tally.now c.count_guest.new.tally
    (took_after CountsUses counts_both c.count_guest.result state (tables_list tables) (repeated_list tables times)
    c.args.tally.now c.walk_tables.new.sink c.count_guest.new.tally c.in_ok-walk_tables.ensures.taken c.count_guest.ensures.taken)
