use Rattle.std.proofs.Common.{◌≡◌, ap, refl, sym, rules, subst, slice_index, OnOk, arith}
use Rattle.std.proofs.lemmas.Result.{err_from_is_err_and}
use Rattle.qcow2_metadata.specs.Header.{geometry_of}
use Rattle.qcow2_check.specs.Tally.{repetition}
use Rattle.qcow2_check.specs.Walk.{CountsUses, Took, l1_list}
use Rattle.qcow2_check.proofs.CountingLemmas.{counts_both}
use Rattle.qcow2_check.proofs.RepeatedLemmas.{loads_again, repeated_uses}
use Rattle.qcow2_check.proofs.SinkLemmas.{refused_at, walked_more, walked_past}
use Rattle.qcow2_check.specs.Repeats.{times_at}
use Rattle.qcow2_check.proofs.counting.count_guest.Goals as goal
use Rattle.qcow2_check.proofs.counting.count_guest.Goals.{then-times-gt0+in_ok-count_l1_entry, else-times-gt0+else-is_none}

pub returns-in_err-count_l1_entry-clause-reads : goal.returns-in_err-count_l1_entry-clause-reads
returns-in_err-count_l1_entry-clause-reads g c =
    let exit = err_from_is_err_and c.from_residual.result c.from_residual.ensures.1 in
    let tables = c.args.tables.now in
    let shape = geometry_of tables.header in
    rw (exit.1, exit.2) (refused_at CountsUses counts_both shape tables.l1 (repeated_uses shape c.args.repeats.now) c.loop-index.index (search rules)
    (g.S.Storage.state c.args.image.now) (g.S.Storage.state c.loop-index.image) (g.S.Storage.state c.count_l1_entry.new.image)
    c.args.tally.now c.loop-index.tally _ c.in_err-count_l1_entry.field-0.0 refl c.loop-index.invariant.counted (search rules))

pub returns-in_err-count_l1_entry-clause-marks : goal.returns-in_err-count_l1_entry-clause-marks
returns-in_err-count_l1_entry-clause-marks g c = λ told are.
    let so_far = c.loop-index.invariant in
    let storage = so_far.counted.storage in
    rw storage.bytes at (c.count_l1_entry.ensures.marks (rw storage.device.tells told) (rw (sym storage.bytes) at (so_far.marks told are)))

pub loop-index-preserved : goal.loop-index-preserved
loop-index-preserved g c =
    let tables = c.args.tables.now in
    let times = c.args.repeats.now in
    let shape = geometry_of tables.header in
    let so_far = c.loop-index.invariant in
    let storage = so_far.counted.storage in
    elim c.if-times-gt0.branch [
      | then-times-gt0+in_ok-count_l1_entry w ↦ rw (w.tally-is, w.marks-is, w.image-is) (record {
        counted = walked_more CountsUses counts_both shape tables.l1 (repeated_uses shape times) c.loop-index.index (search rules)
            (g.S.Storage.state c.args.image.now) (g.S.Storage.state c.loop-index.image) (g.S.Storage.state w.count_l1_entry.new.image)
            c.args.tally.now c.loop-index.tally w.count_l1_entry.new.tally w.count_l1_entry.result (search rules) so_far.counted
            w.count_l1_entry.ensures.reads
            (subst (λ n. OnOk w.count_l1_entry.result (Took CountsUses (g.S.Storage.state c.loop-index.image)
            (λ bytes. repetition n (l1_list shape bytes c.loop-index.index (slice_index tables.l1 c.loop-index.index)))
            c.loop-index.tally w.count_l1_entry.new.tally)) c.times-times.ensures w.count_l1_entry.ensures.taken);
        marks = λ told are.
            rw storage.bytes at (w.count_l1_entry.ensures.marks (rw storage.device.tells told) (rw (sym storage.bytes) at (so_far.marks told are)));
      })
      | else-times-gt0+else-is_none w ↦
          let none : times_at times c.loop-index.index ≡ 0 = omega (arith, c.times-times.ensures, w.if-times-gt0.false) in
          rw (w.tally-is, w.marks-is, w.image-is) (record {
            counted = walked_past CountsUses counts_both shape tables.l1 (repeated_uses shape times) c.loop-index.index (search rules)
                (g.S.Storage.state c.args.image.now) (g.S.Storage.state c.loop-index.image) c.args.tally.now c.loop-index.tally
                (λ bytes. ap (λ n. repetition n (l1_list shape bytes c.loop-index.index (slice_index tables.l1 c.loop-index.index))) none)
                (λ bytes. loads_again shape bytes tables.l1 times c.loop-index.index (search rules) c.requires none) so_far.counted;
            marks = so_far.marks;
          })
    ]
