use Rattle.qcow2_layout.proofs.places.WindowUseSink.take_row.Goals as goal

pub returns-clause-taken : goal.returns-clause-taken
returns-clause-taken c = rw (c.put_row.ensures.same c.if-put_row.false) at c.place_each.ensures.placed
