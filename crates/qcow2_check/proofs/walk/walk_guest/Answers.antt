use Rattle.std.proofs.Common.{refl, rules}
use Rattle.std.proofs.lemmas.Result.{err_from_is_err_and}
use Rattle.qcow2_metadata.specs.Header.{geometry_of}
use Rattle.qcow2_check.proofs.SinkLemmas.{refused_at, walked_more}
use Rattle.qcow2_check.specs.Walk.{l1_list}
use Rattle.qcow2_check.proofs.walk.walk_guest.Goals as goal

pub returns-in_err-walk_l1_entry-clause-reads : goal.returns-in_err-walk_l1_entry-clause-reads
returns-in_err-walk_l1_entry-clause-reads g c =
    let exit = err_from_is_err_and c.from_residual.result c.from_residual.ensures.1 in
    let tables = c.args.tables.now in
    let shape = geometry_of tables.header in
    rw (exit.1, exit.2) (refused_at g.U.UseSink.takes g.met.U.UseSink.takes_both shape tables.l1 (l1_list shape) c.loop-index.index (search rules)
    (g.S.Storage.state c.args.image.now) (g.S.Storage.state c.loop-index.image) (g.S.Storage.state c.walk_l1_entry.new.image)
    c.args.sink.now c.loop-index.sink _ c.in_err-walk_l1_entry.field-0.0 refl c.loop-index.invariant (search rules))

pub loop-index-preserved : goal.loop-index-preserved
loop-index-preserved g c =
    let tables = c.args.tables.now in
    let shape = geometry_of tables.header in
    walked_more g.U.UseSink.takes g.met.U.UseSink.takes_both shape tables.l1 (l1_list shape) c.loop-index.index (search rules)
    (g.S.Storage.state c.args.image.now) (g.S.Storage.state c.loop-index.image) (g.S.Storage.state c.walk_l1_entry.new.image)
    c.args.sink.now c.loop-index.sink c.walk_l1_entry.new.sink c.walk_l1_entry.result (search rules) c.loop-index.invariant
    c.walk_l1_entry.ensures.reads c.walk_l1_entry.ensures.taken
