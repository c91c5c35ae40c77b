use Rattle.std.proofs.Common.{rules}
use Rattle.qcow2_apply.proofs.CounterTablesLemmas.{by-answer, flags, follows, modified-by, stuck}
use Rattle.qcow2_edits.specs.Edits.{cluster_numbers}
use Rattle.qcow2_edits.specs.Settled.{block_or_refusal, first_counted}
use Rattle.qcow2_metadata.specs.Header.{uses_external_data}
use Rattle.qcow2_apply.proofs.counter_tables.follow.Goals as goal

pub returns-clause-followed : goal.returns-clause-followed
returns-clause-followed c = (by-answer _ c.settle.result c.settle.new.block _ c.requires.data (search rules)
    (follows c.args.tables.now c.args.changes.now c.args.index c.args.outcome.now c.args.block.now c.settle.new.block c.requires.bits c.requires.outcome c.requires.block)
    (λ fault. stuck c.args.tables.now c.args.changes.now c.args.index c.args.outcome.now c.args.block.now fault c.requires.bits c.requires.outcome c.requires.block)).0

pub returns-clause-fault : goal.returns-clause-fault
returns-clause-fault c = (by-answer _ c.settle.result c.settle.new.block _ c.requires.data (search rules)
    (flags _ c.args.outcome.now c.args.block.now c.settle.new.block)
    (λ fault. stuck c.args.tables.now c.args.changes.now c.args.index c.args.outcome.now c.args.block.now fault c.requires.bits c.requires.outcome c.requires.block)).1

pub returns-clause-modified : goal.returns-clause-modified
returns-clause-modified c =
    let first = first_counted c.args.block.now c.args.index in
    let meaning = block_or_refusal c.args.block.now first c.args.outcome.now.freed.items (cluster_numbers c.args.outcome.now.gained.items) in
    modified-by (uses_external_data c.args.tables.now.header) c.settle.result c.args.block.now c.settle.new.block meaning c.requires.data
    (search rules) (search rules) (flags first c.args.outcome.now c.args.block.now c.settle.new.block)
