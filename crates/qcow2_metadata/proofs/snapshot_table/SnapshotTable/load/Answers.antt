use Rattle.std.proofs.Common.{◌≡◌, ◌==◌, ◌||◌, true, ◌-◌, ◌∙◌, arith, [], Err, inl, inr, rules}
use Rattle.std.proofs.lemmas.Result.{err_from_is_err_and}
use Rattle.qcow2_metadata.proofs.SnapshotTableLemmas.{after-none, loaded-refused, one-more, one-refused}
use Rattle.qcow2_metadata.specs.SnapshotTable.{entries_from, has_table, table_limit}
use Rattle.qcow2_metadata.proofs.snapshot_table.SnapshotTable.load.Goals as goal

pub loop-init : goal.loop-init
loop-init g c =
    let old = g.S.Storage.state c.args.image.now in
    let limit = c.min-limit.result in
    let start = c.snapshots_offset.result.0 in
    let count = c.snapshot_count-count.result in
    let none : c.new-snapshots.result.items ≡ [] = search rules in
    let all : count - 0 ≡ count = omega arith in
    record {
      told = λ told. rw (none, all) (after-none (entries_from limit old.byte_at start count));
      begins = search rules;
      fits = search rules;
      storage = search rules;
    }

pub returns-in_err-entry : goal.returns-in_err-entry
returns-in_err-entry g c =
    let old = g.S.Storage.state c.args.image.now in
    let before = c.loop.invariant in
    let end = c.loop.end in
    let fault = c.in_err-entry.field-0.0 in
    let header = c.args.header.now in
    let limit : c.min-limit.result ≡ table_limit header = search rules in
    let has : (header.v2.nb_snapshots == 0 || has_table header) ≡ true = search rules in
    let exit = err_from_is_err_and c.from_residual.result c.from_residual.ensures.1 in
    let found = c.in_err-entry.ensures.reads in
    rw (exit.1, exit.2) (record {
      exact = λ told. elim (found.exact (before.storage.device.tells ∙ told)) [
        | inl failed ↦ inl failed
        | inr (inl memory) ↦ inr (inl memory)
        | inr (inr bad) ↦
            let is = rw before.storage.bytes at bad in
            let rest = one-refused c.min-limit.result end c.next_multiple_of-offset.result c.snapshot_count-count.result c.loop.counter old.byte_at c.loop.snapshots.items fault (search rules) c.next_multiple_of-offset.ensures.value is in
            let whole : entries_from (table_limit header) old.byte_at header.v2.snapshots_offset header.v2.nb_snapshots ≡ Err fault =
            rw (limit, c.snapshots_offset.ensures, c.snapshot_count-count.ensures) at (before.told told ∙ rest) in
            inr (inr (loaded-refused header old.byte_at fault has whole))
      ];
      faults = found.faults;
      storage = search rules;
    })

pub loop-preserved : goal.loop-preserved
loop-preserved g c =
    let old = g.S.Storage.state c.args.image.now in
    let before = c.loop.invariant in
    let end = c.loop.end in
    let entry = c.in_ok-entry.entry in
    record {
      told = λ told.
          let is = rw before.storage.bytes at (c.in_ok-entry.ensures.reads.exact (before.storage.device.tells ∙ told)) in
          let more = one-more c.min-limit.result end c.next_multiple_of-offset.result c.snapshot_count-count.result c.loop.counter old.byte_at c.loop.snapshots.items entry (search rules) c.next_multiple_of-offset.ensures.value is in
          rw (c.in_ok-push.ensures.items, c.entry_end-end.ensures) (before.told told ∙ more);
      begins = search rules;
      fits = search rules;
      storage = search rules;
    }
