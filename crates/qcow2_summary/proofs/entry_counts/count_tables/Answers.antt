use Rattle.std.proofs.Common.{rules, refl, arith}
use Rattle.std.proofs.lemmas.Result.{err_from_is_err_and}
use Rattle.qcow2_summary.proofs.EntryCountsLemmas.{all-counted, counted-before, counted-more, refused-at}
use Rattle.qcow2_summary.proofs.entry_counts.count_tables.Goals as goal
use Rattle.qcow2_summary.proofs.entry_counts.count_tables.Goals.{then-times-gt0+in_ok-more+in_ok-counts_times+in_ok-counts, else-times-gt0}

pub returns-in_err-more : goal.returns-in_err-more
returns-in_err-more g c =
    let exit = err_from_is_err_and c.from_residual.result c.from_residual.ensures.1 in
    rw (← c.requires.geometry, exit.1, exit.2) (refused-at _ _ c.args.repeats.now c.loop-index.index _ _ _ _ _ c.in_err-more.field-0.0 (search rules) refl c.loop-index.invariant (search rules))

pub loop-index-preserved : goal.loop-index-preserved
loop-index-preserved g c = elim c.if-times-gt0.branch [
  | then-times-gt0+in_ok-more+in_ok-counts_times+in_ok-counts w ↦ rw (w.image-is, w.counts-is)
      (counted-more c.args.l1_table.now.geometry c.args.l1_table.now.numbers c.args.repeats.now c.loop-index.index (g.S.Storage.state c.args.image.now)
      (g.S.Storage.state c.loop-index.image) (g.S.Storage.state w.count_l1_entry.new.image) c.loop-index.counts w.in_ok-more.more w.in_ok-counts.counts w.count_l1_entry.result
      (search rules) (search rules)
      (grind (arith, w.in_ok-counts.ensures.sums, w.in_ok-counts_times.ensures.products, c.times-times.ensures)) c.loop-index.invariant (rw c.requires.geometry (search rules)))
  | else-times-gt0 w ↦ rw (w.image-is, w.counts-is)
      (counted-before c.args.l1_table.now.geometry c.args.l1_table.now.numbers c.args.repeats.now c.loop-index.index (g.S.Storage.state c.args.image.now)
      (g.S.Storage.state c.loop-index.image) c.loop-index.counts (search rules) c.requires.repeats (omega (arith, c.times-times.ensures, w.if-times-gt0.false)) c.loop-index.invariant)
]

pub returns : goal.returns
returns g c =
    rw (← c.requires.geometry) (all-counted c.args.l1_table.now.geometry c.args.l1_table.now.numbers c.args.repeats.now c.loop-index.index
    (g.S.Storage.state c.args.image.now) (g.S.Storage.state c.loop-index.image) c.loop-index.counts
    (omega (arith, c.loop-index-test.false, c.entries-index-end.ensures.count)) c.requires.repeats c.loop-index.invariant)
