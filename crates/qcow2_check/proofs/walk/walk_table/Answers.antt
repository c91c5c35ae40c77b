use Rattle.std.proofs.Common.{rules}
use Rattle.qcow2_metadata.specs.Header.{geometry_of}
use Rattle.qcow2_check.proofs.SinkLemmas.{took_table}
use Rattle.qcow2_check.proofs.walk.walk_table.Goals as goal

pub returns-clause-taken : goal.returns-clause-taken
returns-clause-taken g c =
    took_table g.U.UseSink.takes g.met.U.UseSink.takes_both c.take_table.result (g.S.Storage.state c.args.image.now)
    (geometry_of c.args.tables.now.header) c.args.index c.args.cluster c.in_ok-table.table c.args.sink.now c.take_table.new.self
    (search rules) c.take_table.ensures.taken
