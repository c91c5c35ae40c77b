use Rattle.std.proofs.Common.{◌≡◌, Ok}
use Rattle.qcow2_base.specs.Storage.{OnImage, OnlyReads}
use Rattle.qcow2_check.specs.Counters.{IsSameButBlock, counter_of}
use Rattle.qcow2_session.proofs.TablesLemmas.{rows_read}
use Rattle.qcow2_session.specs.Commands.Tables.{counted_row}
use Rattle.qcow2_session.proofs.commands.tables.read_counters.Given as goal

-- the counters of the rows before this one are read
abbrev pub invariant-loop-row : goal.invariant-loop-row
invariant-loop-row g l =
    let old = g.S.Storage.state l.fn.image in
    let start = l.fn.counters in
    record {
      read : OnImage old (λ bytes. l.rows ≡ rows_read (counted_row (counter_of start.header start.reftable bytes)) l.fn.rows l.row-index);
      reader : IsSameButBlock old start l.counters;
      storage : OnlyReads (Ok l.row-index) old (g.S.Storage.state l.image);
    }
