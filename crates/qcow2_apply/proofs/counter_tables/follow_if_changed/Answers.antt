use Rattle.std.proofs.Common.{rules}
use Rattle.qcow2_apply.proofs.CounterTablesLemmas.{idle-counters}
use Rattle.qcow2_apply.proofs.counter_tables.follow_if_changed.Goals as goal

pub returns-in-None-clause-followed : goal.returns-in-None-clause-followed
returns-in-None-clause-followed c = idle-counters c.args.tables.now c.args.changes.now c.args.index c.args.block.now.numbers c.requires.bits (search rules) (search rules)
