use Rattle.std.proofs.Common.{Ok, ap, inl, inr, rules}
use Rattle.qcow2_metadata.specs.Results.{unless_refused}
use Rattle.qcow2_apply.proofs.EditsByTableLemmas.{kept-are, none-listed, some-listed}
use Rattle.qcow2_apply.proofs.MissingLemmas.{refused-named, refused-unneeded, refused-untouched}
use Rattle.qcow2_apply.proofs.PlannedTablesLemmas.{adds-none}
use Rattle.qcow2_apply.specs.PlannedTables.{planning_tables}
use Rattle.qcow2_apply.proofs.planned_tables.plan_table.Goals as goal

pub returns-in_default-clause-exact : goal.returns-in_default-clause-exact
returns-in_default-clause-exact g c = λ told. ap (λ found. unless_refused found (Ok (tt {0})))
    (refused-unneeded (planning_tables c.args.sources.now c.args.counters.now) c.args.sources.now.edits.now (g.S.Storage.state c.args.image.now).byte_at c.args.index
    (search rules) (c.requires.there (search rules)))

pub returns-in_default-clause-planned : goal.returns-in_default-clause-planned
returns-in_default-clause-planned g c = λ told. adds-none (planning_tables c.args.sources.now c.args.counters.now) c.args.sources.now.edits.now
    (g.S.Storage.state c.args.image.now).byte_at c.args.index c.args.planned.now (inl (search rules))

pub returns-then-is_empty-clause-exact : goal.returns-then-is_empty-clause-exact
returns-then-is_empty-clause-exact g c = λ told.
    let sources = c.args.sources.now in
    let ps = c.positions_in-positions.result.now in
    let listed = kept-are sources.header.now sources.l1_table.now.numbers sources.edits.now sources.by_table c.args.index c.in-Some.table ps
    c.requires.sources.by_table (search rules) c.positions_in-positions.ensures in
    ap (λ found. unless_refused found (Ok (tt {0})))
    (refused-untouched (planning_tables sources c.args.counters.now) sources.edits.now (g.S.Storage.state c.args.image.now).byte_at c.args.index
    (none-listed sources.header.now.v2.cluster_bits c.args.index sources.edits.now ps listed (search rules)).1)

pub returns-then-is_empty-clause-planned : goal.returns-then-is_empty-clause-planned
returns-then-is_empty-clause-planned g c = λ told.
    let sources = c.args.sources.now in
    let ps = c.positions_in-positions.result.now in
    let listed = kept-are sources.header.now sources.l1_table.now.numbers sources.edits.now sources.by_table c.args.index c.in-Some.table ps
    c.requires.sources.by_table (search rules) c.positions_in-positions.ensures in
    adds-none (planning_tables sources c.args.counters.now) sources.edits.now (g.S.Storage.state c.args.image.now).byte_at c.args.index c.args.planned.now
    (inr (none-listed sources.header.now.v2.cluster_bits c.args.index sources.edits.now ps listed (search rules)).0)

pub plan_named_table-requires-clause-positions : goal.plan_named_table-requires-clause-positions
plan_named_table-requires-clause-positions g c = let sources = c.args.sources.now in
    kept-are sources.header.now sources.l1_table.now.numbers sources.edits.now sources.by_table c.args.index c.in-Some.table c.positions_in-positions.result.now
    c.requires.sources.by_table (search rules) c.positions_in-positions.ensures

pub returns-clause-exact : goal.returns-clause-exact
returns-clause-exact g c = λ told.
    let sources = c.args.sources.now in
    let ps = c.positions_in-positions.result.now in
    let listed = kept-are sources.header.now sources.l1_table.now.numbers sources.edits.now sources.by_table c.args.index c.in-Some.table ps
    c.requires.sources.by_table (search rules) c.positions_in-positions.ensures in
    let is = refused-named (planning_tables sources c.args.counters.now) sources.edits.now (g.S.Storage.state c.args.image.now).byte_at c.args.index c.in-Some.table
    (some-listed sources.header.now.v2.cluster_bits c.args.index sources.edits.now ps listed (search rules)).1 (search rules) in
    rw is (c.plan_named_table.ensures.exact told)
