use Rattle.qcow2_check.proofs.SinkLemmas.{took_after}
use Rattle.qcow2_check.specs.Walk.{guest_list, tables_list}
use Rattle.qcow2_check.proofs.walk.walk_uses.Goals as goal

pub returns-clause-taken : goal.returns-clause-taken
returns-clause-taken g c =
    let tables = c.args.tables.now in
    took_after g.U.UseSink.takes g.met.U.UseSink.takes_both c.walk_guest.result (g.S.Storage.state c.args.image.now) (tables_list tables) (guest_list tables)
    c.args.sink.now c.walk_tables.new.sink c.walk_guest.new.sink c.in_ok-walk_tables.ensures.taken c.walk_guest.ensures.taken
