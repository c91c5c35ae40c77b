use Rattle.std.proofs.Common.{sym}
use Rattle.qcow2_check.proofs.UsesLemmas.{no_entries_count}
use Rattle.qcow2_check.proofs.counting.count_entries.Goals as goal

pub returns-then-external_data_file-clause-counted : goal.returns-then-external_data_file-clause-counted
returns-then-external_data_file-clause-counted c =
    no_entries_count c.args.table.now.geometry c.args.table.now.numbers c.args.tally.now (sym c.if-external_data_file.ensures)
