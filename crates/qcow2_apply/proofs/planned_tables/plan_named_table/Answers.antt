use Rattle.std.proofs.Common.{◌≡◌, IsTrue, rules}
use Rattle.std.proofs.lemmas.Result.{err_from_is_err_and}
use Rattle.std.specs.Option.{option_or}
use Rattle.qcow2_apply.proofs.PlannedTablesLemmas.{adds-by-sources, adds-run, more-refused, run-of-edits}
use Rattle.qcow2_apply.proofs.ChangedClustersLemmas.{on-ok, reads-then}
use Rattle.qcow2_check.proofs.FindingsLemmas.{reads_twice}
use Rattle.qcow2_apply.specs.GuestEdits.{edits_in}
use Rattle.qcow2_apply.specs.PlannedTables.{alone_fault, load_fault, mappings_fault, planning_tables}
use Rattle.qcow2_apply.proofs.planned_tables.plan_named_table.Goals as goal

pub returns-in_err-check_alone-clause-exact : goal.returns-in_err-check_alone-clause-exact
returns-in_err-check_alone-clause-exact g c = λ told.
    let exit = err_from_is_err_and c.from_residual.result c.from_residual.ensures.1 in
    let tables = planning_tables c.args.sources.now c.args.counters.now in
    let edits = c.args.sources.now.edits.now in
    let bytes = (g.S.Storage.state c.args.image.now).byte_at in
    rw (exit.1, exit.2) (more-refused (alone_fault tables edits bytes c.args.index c.args.table)
    (option_or (load_fault tables.header bytes c.args.table) (mappings_fault tables edits bytes c.args.index)) c.in_err-check_alone.field-0.0
    (c.in_err-check_alone.ensures.exact told))

pub returns-in_err-check_mappings-clause-storage : goal.returns-in_err-check_mappings-clause-storage
returns-in_err-check_mappings-clause-storage g c =
    let exit = err_from_is_err_and c.from_residual-in_err-check_mappings.result c.from_residual-in_err-check_mappings.ensures.1 in
    let before = g.S.Storage.state c.args.image.now in
    let loaded = g.S.Storage.state c.load_outcome.new.image in
    let read = reads_twice (tt {0}) c.in_ok-outcome.outcome (tt {0}) before (g.S.Storage.state c.check_alone.new.image) loaded (search rules) (search rules) in
    rw (exit.1, exit.2) (reads-then {U = Unit {0}} (tt {0}) c.in_err-check_mappings.field-0.0 before loaded (g.S.Storage.state c.check_mappings.new.image) read (search rules))

pub returns-clause-planned : goal.returns-clause-planned
returns-clause-planned g c =
    let tables = planning_tables c.args.sources.now c.args.counters.now in
    let sources = c.args.sources.now in
    let before = g.S.Storage.state c.args.image.now in
    let loaded = g.S.Storage.state c.check_alone.new.image in
    on-ok c.add.result _ _ (λ added told.
    let known : IsTrue loaded.tells = search rules in
    let bytes : loaded.byte_at ≡ before.byte_at = search rules in
    let made = (c.in_ok-outcome.ensures.made known).1 in
    adds-run tables sources.edits.now before.byte_at c.args.index c.args.table c.in_ok-outcome-2.outcome c.args.planned.now c.add.new.self c.requires.table
    (run-of-edits sources.header.now c.args.table (edits_in sources.header.now.v2.cluster_bits c.args.index sources.edits.now)
    loaded.byte_at before.byte_at c.in_ok-outcome.outcome c.in_ok-outcome-2.outcome bytes made c.in_ok-outcome-2.ensures.gained c.in_ok-outcome-2.ensures.freed)
    (adds-by-sources sources before (g.S.Storage.state c.load_outcome.new.image) c.args.counters.now c.check_alone.new.counters c.check_mappings.new.counters
    c.in_ok-outcome-2.outcome c.args.planned.now c.add.new.self c.requires.sources c.in_ok-check_alone.ensures.reader c.in_ok-check_mappings.ensures.reader added))
    c.add.ensures.added
