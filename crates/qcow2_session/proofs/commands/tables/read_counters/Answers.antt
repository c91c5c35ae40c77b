use Rattle.std.proofs.Common.{rules}
use Rattle.qcow2_session.proofs.TablesLemmas.{rows-more}
use Rattle.qcow2_session.proofs.commands.tables.read_counters.Goals as goal

pub loop-row-preserved : goal.loop-row-preserved
loop-row-preserved g c =
    let so_far = c.loop-row.invariant in
    record {
      read = λ told. rows-more _ _ _ _ _ _ _ c.loop-row.row-index _ _ c.loop-row-test.true told so_far.storage so_far.reader
          c.in_ok-read_counter.ensures.reads.exact (so_far.read told);
      reader = search rules;
      storage = search rules;
    }
