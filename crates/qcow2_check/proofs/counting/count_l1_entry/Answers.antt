use Rattle.std.proofs.Common.{rules, slice_index}
use Rattle.qcow2_metadata.specs.Header.{geometry_of}
use Rattle.qcow2_check.proofs.RepeatedLemmas.{took_nothing}
use Rattle.qcow2_check.proofs.counting.count_l1_entry.Goals as goal

pub returns-in-None-clause-marks : goal.returns-in-None-clause-marks
returns-in-None-clause-marks g c = λ told are.
    c.pass_unnamed.ensures c.args.tables.now (g.S.Storage.state c.args.image.now).byte_at (search rules) are

pub returns-in-None-clause-taken : goal.returns-in-None-clause-taken
returns-in-None-clause-taken g c =
    let tables = c.args.tables.now in
    took_nothing (g.S.Storage.state c.args.image.now) (geometry_of tables.header) c.args.index (slice_index tables.l1 c.args.index) c.args.times c.args.tally.now (search rules)
