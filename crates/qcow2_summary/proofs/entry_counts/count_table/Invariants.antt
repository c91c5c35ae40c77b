use Rattle.std.proofs.Common.{◌≤◌, drop}
use Rattle.qcow2_summary.specs.EntryCounts.{table_counts}
use Rattle.qcow2_summary.proofs.EntryCountsLemmas.{AddUp, counts_after}
use Rattle.qcow2_summary.proofs.entry_counts.count_table.Given as goal

-- what is counted and the entries from this one on make all, and each entry adds at most one
abbrev pub invariant-loop-index : goal.invariant-loop-index
invariant-loop-index l = record {
  counted : AddUp l.counts (counts_after l.table.geometry l.last (drop l.index l.table.numbers))
      (table_counts l.table.geometry l.table.numbers);
  allocated : l.counts.allocated ≤ l.index;
  compressed : l.counts.compressed ≤ l.index;
  fragmented : l.counts.fragmented ≤ l.index;
}
