use Rattle.std.proofs.Common.{◌≡◌, ◌-◌, ◌<◌, ◌≤◌, Ok}
use Rattle.qcow2_base.specs.Format.{max_file_length}
use Rattle.qcow2_base.specs.Storage.{OnImage, OnlyReads}
use Rattle.qcow2_metadata.specs.Results.{result_map}
use Rattle.qcow2_metadata.specs.SnapshotTable.{entries_from}
use Rattle.qcow2_metadata.proofs.SnapshotTableLemmas.{after_entries}
use Rattle.qcow2_metadata.proofs.snapshot_table.SnapshotTable.load.Given as goal

-- all entries are those that were read and those from the last one's end on, and no call has failed
abbrev pub invariant-loop : goal.invariant-loop
invariant-loop g l =
    let old = g.S.Storage.state l.fn.image in
    record {
      told : OnImage old (λ bytes. entries_from l.limit bytes l.start l.count
          ≡ result_map (after_entries l.snapshots.items) (entries_from l.limit bytes l.end (l.count - l.counter)));
      begins : l.start ≤ l.end;
      fits : 0 < l.count → l.end ≤ max_file_length;
      storage : OnlyReads (Ok l.end) old (g.S.Storage.state l.image);
    }
