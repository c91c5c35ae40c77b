use Rattle.qcow2_summary.proofs.EntryCountsLemmas.{AreCounted}
use Rattle.qcow2_summary.proofs.entry_counts.count_tables.Given as goal

-- the L2 tables that the entries before this one name are loaded and counted
abbrev pub invariant-loop-index : goal.invariant-loop-index
invariant-loop-index g l = AreCounted l.l1_table.geometry l.l1_table.numbers l.repeats l.index
    (g.S.Storage.state l.fn.image) (g.S.Storage.state l.image) l.counts
