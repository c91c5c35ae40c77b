use Rattle.std.proofs.Common.{Ok, rules, slice_index}
use Rattle.qcow2_metadata.specs.Header.{geometry_of}
use Rattle.qcow2_check.proofs.RepeatedLemmas.{took_repeated}
use Rattle.qcow2_check.proofs.counting.count_table.Goals as goal

pub returns-clause-taken : goal.returns-clause-taken
returns-clause-taken g c =
    let tables = c.args.tables.now in
    took_repeated (Ok (tt {0})) (g.S.Storage.state c.args.image.now) (geometry_of tables.header) c.args.index (slice_index tables.l1 c.args.index)
    c.args.times c.args.cluster c.in_ok-table.table c.args.tally.now c.count_times.new.tally (search rules) c.requires.named c.in_ok-count_times.ensures.counted
