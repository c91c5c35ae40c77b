use Rattle.std.proofs.Common.{◌≡◌, refl, rules, slice_index, arith}
use Rattle.std.proofs.lemmas.Result.{err_from_is_err_and}
use Rattle.qcow2_metadata.specs.Header.{geometry_of}
use Rattle.qcow2_check.specs.Repeats.{times_at}
use Rattle.qcow2_check.proofs.RepeatedLemmas.{loads_again, taken_unrepeated, unrepeated_none, unrepeated_uses}
use Rattle.qcow2_check.proofs.SinkLemmas.{refused_at, walked_more, walked_past}
use Rattle.qcow2_check.proofs.walk.walk_guest_once.Goals as goal
use Rattle.qcow2_check.proofs.walk.walk_guest_once.Goals.{then-times-gt0+in_ok-walk_l1_entry, else-times-gt0}

pub returns-in_err-walk_l1_entry-clause-reads : goal.returns-in_err-walk_l1_entry-clause-reads
returns-in_err-walk_l1_entry-clause-reads g c =
    let exit = err_from_is_err_and c.from_residual.result c.from_residual.ensures.1 in
    let tables = c.args.tables.now in
    let shape = geometry_of tables.header in
    rw (exit.1, exit.2) (refused_at g.U.UseSink.takes g.met.U.UseSink.takes_both shape tables.l1 (unrepeated_uses shape c.args.repeats.now)
    c.loop-index.index (search rules)
    (g.S.Storage.state c.args.image.now) (g.S.Storage.state c.loop-index.image) (g.S.Storage.state c.walk_l1_entry.new.image)
    c.args.sink.now c.loop-index.sink _ c.in_err-walk_l1_entry.field-0.0 refl c.loop-index.invariant (search rules))

pub loop-index-preserved : goal.loop-index-preserved
loop-index-preserved g c =
    let tables = c.args.tables.now in
    let times = c.args.repeats.now in
    let shape = geometry_of tables.header in
    let index = c.loop-index.index in
    let so_far = c.loop-index.invariant in
    elim c.if-times-gt0.branch [
      | then-times-gt0+in_ok-walk_l1_entry w ↦ rw (w.sink-is, w.image-is) (
          walked_more g.U.UseSink.takes g.met.U.UseSink.takes_both shape tables.l1 (unrepeated_uses shape times) index (search rules)
          (g.S.Storage.state c.args.image.now) (g.S.Storage.state c.loop-index.image) (g.S.Storage.state w.walk_l1_entry.new.image)
          c.args.sink.now c.loop-index.sink w.walk_l1_entry.new.sink w.walk_l1_entry.result (search rules) so_far w.walk_l1_entry.ensures.reads
          (taken_unrepeated g.U.UseSink.takes w.walk_l1_entry.result (g.S.Storage.state c.loop-index.image) shape times index (slice_index tables.l1 index)
          c.loop-index.sink w.walk_l1_entry.new.sink (omega (arith, c.times.ensures, w.if-times-gt0.true)) w.walk_l1_entry.ensures.taken))
      | else-times-gt0 w ↦
          let none : times_at times index ≡ 0 = omega (arith, c.times.ensures, w.if-times-gt0.false) in
          rw (w.sink-is, w.image-is) (walked_past g.U.UseSink.takes g.met.U.UseSink.takes_both shape tables.l1 (unrepeated_uses shape times) index (search rules)
          (g.S.Storage.state c.args.image.now) (g.S.Storage.state c.loop-index.image) c.args.sink.now c.loop-index.sink
          (λ bytes. unrepeated_none shape times bytes index (slice_index tables.l1 index) none)
          (λ bytes. loads_again shape bytes tables.l1 times index (search rules) c.requires none) so_far)
    ]
