use Rattle.std.proofs.Common.{◌≡◌, ◌⊎◌, ℕ, IsTrue, Ok, Err, length, subst, rules}
use Rattle.std.proofs.lemmas.Result.{err_from_is_err_and}
use Rattle.qcow2_base.specs.declared.fault.Fault.TheVariants.{NoMemory, Storage}
use Rattle.qcow2_metadata.specs.Results.{unless_refused}
use Rattle.qcow2_check.proofs.FailuresLemmas.{refuses-no-more}
use Rattle.qcow2_check.specs.Counters.{CountersState}
use Rattle.qcow2_check.specs.Uses.{image_tables}
use Rattle.qcow2_metadata.specs.Table.{TableState}
use Rattle.qcow2_apply.specs.Plan.{edits_within}
use Rattle.qcow2_apply.specs.declared.plan.Plan.{Plan}
use Rattle.qcow2_apply.proofs.PlanLemmas.{counters-refuse, counts-at, is-plan, planned-is, planned-refused}
use Rattle.qcow2_apply.proofs.ChangedClustersLemmas.{reads-then}
use Rattle.qcow2_apply.specs.CounterTables.{CounterTablesState}
use Rattle.qcow2_apply.specs.ChangedClusters.{ListsChanges}
use Rattle.qcow2_apply.specs.PlannedChanges.{CannotCount}
use Rattle.qcow2_apply.specs.PlannedTables.{IsPlanned, tables_refusal}
use Rattle.qcow2_apply.proofs.plan.Plan.new.Goals as goal

pub returns-in_err-l1_table-clause-refused : goal.returns-in_err-l1_table-clause-refused
returns-in_err-l1_table-clause-refused g c =
    let exit = err_from_is_err_and c.from_residual.result c.from_residual.ensures.1 in
    rw (exit.1, exit.2) c.in_err-l1_table.ensures.refused

pub returns-in_err-l1_table-clause-end : goal.returns-in_err-l1_table-clause-end
returns-in_err-l1_table-clause-end g c =
    let exit = err_from_is_err_and c.from_residual.result c.from_residual.ensures.1 in
    rw (exit.1, exit.2) c.in_err-l1_table.ensures.end

pub returns-in_err-by_table-clause-end : goal.returns-in_err-by_table-clause-end
returns-in_err-by_table-clause-end g c =
    let exit = err_from_is_err_and c.from_residual-in_err-by_table.result c.from_residual-in_err-by_table.ensures.1 in
    let before = g.S.Storage.state c.args.image.now in
    let end = edits_within c.args.header.now c.args.edits.now before.len before.byte_at in
    rw (exit.1, exit.2) (λ told. refuses-no-more {T = TableState × CountersState} {U = Plan} end (c.in_ok-l1_table.l1_table, c.in_ok-l1_table.counters)
    (Err c.in_err-by_table.field-0.0) (c.in_ok-l1_table.ensures.end told))

pub returns-in_err-clusters-clause-end : goal.returns-in_err-clusters-clause-end
returns-in_err-clusters-clause-end g c =
    let exit = err_from_is_err_and c.from_residual-in_err-clusters.result c.from_residual-in_err-clusters.ensures.1 in
    let before = g.S.Storage.state c.args.image.now in
    let end = edits_within c.args.header.now c.args.edits.now before.len before.byte_at in
    rw (exit.1, exit.2) (λ told. refuses-no-more {T = TableState × CountersState} {U = Plan} end (c.in_ok-l1_table.l1_table, c.in_ok-l1_table.counters)
    (Err c.in_err-clusters.field-0.0) (c.in_ok-l1_table.ensures.end told))

pub returns-clause-end : goal.returns-clause-end
returns-clause-end g c = c.in_ok-l1_table.ensures.end

pub returns-in_err-by_table-clause-refused : goal.returns-in_err-by_table-clause-refused
returns-in_err-by_table-clause-refused g c =
    let exit = err_from_is_err_and c.from_residual-in_err-by_table.result c.from_residual-in_err-by_table.ensures.1 in
    rw (exit.1, exit.2) (λ told.
    let before = g.S.Storage.state c.args.image.now in
    let read = g.S.Storage.state c.read_tables.new.image in
    let header = c.args.header.now in
    let edits = c.args.edits.now in
    let known : IsTrue read.tells = search rules in
    let same : read.byte_at ≡ before.byte_at = search rules in
    let l1 = c.in_ok-l1_table.l1_table in
    let reftable = c.in_ok-l1_table.counters.reftable in
    let tables = image_tables header l1.numbers reftable in
    let fault = c.in_err-by_table.field-0.0 in
    let refused = subst (λ bytes. (fault ≡ Storage) ⊎ (fault ≡ NoMemory) ⊎ (unless_refused (tables_refusal tables edits bytes) (Ok (tt {0})) ≡ Err fault)) same
    (c.in_err-by_table.ensures.exact known) in
    planned-refused header edits before.byte_at l1.numbers reftable fault (c.in_ok-l1_table.ensures.read told) refused)

pub returns-in_err-by_table-clause-storage : goal.returns-in_err-by_table-clause-storage
returns-in_err-by_table-clause-storage g c =
    let exit = err_from_is_err_and c.from_residual-in_err-by_table.result c.from_residual-in_err-by_table.ensures.1 in
    rw (exit.1, exit.2) (reads-then (c.in_ok-l1_table.l1_table, c.in_ok-l1_table.counters) c.in_err-by_table.field-0.0 (g.S.Storage.state c.args.image.now)
    (g.S.Storage.state c.read_tables.new.image) (g.S.Storage.state c.plan_by_tables.new.image) c.in_ok-l1_table.ensures.storage c.in_err-by_table.ensures.storage)

pub returns-in_err-clusters-clause-refused : goal.returns-in_err-clusters-clause-refused
returns-in_err-clusters-clause-refused g c =
    let exit = err_from_is_err_and c.from_residual-in_err-clusters.result c.from_residual-in_err-clusters.ensures.1 in
    rw (exit.1, exit.2) (λ told.
    let before = g.S.Storage.state c.args.image.now in
    let read = g.S.Storage.state c.read_tables.new.image in
    let planned = g.S.Storage.state c.plan_by_tables.new.image in
    let header = c.args.header.now in
    let edits = c.args.edits.now in
    let known : IsTrue read.tells = search rules in
    let at_end : IsTrue planned.tells = search rules in
    let same : read.byte_at ≡ before.byte_at = search rules in
    let last : planned.byte_at ≡ before.byte_at = search rules in
    let l1 = c.in_ok-l1_table.l1_table in
    let reftable = c.in_ok-l1_table.counters.reftable in
    let tables = image_tables header l1.numbers reftable in
    let allows = subst (λ bytes. unless_refused (tables_refusal tables edits bytes) (Ok (tt {0})) ≡ Ok tt) same (c.in_ok-by_table.ensures.exact known) in
    let is = planned-is header edits before.byte_at l1.numbers reftable (c.in_ok-l1_table.ensures.read told) allows in
    let plans = subst (λ bytes. IsPlanned tables edits bytes header.v2.l1_size c.in_ok-by_table.planned) same (c.in_ok-by_table.ensures.planned known) in
    let count : length l1.numbers ≡ header.v2.l1_size = search rules in
    let fault = c.in_err-clusters.field-0.0 in
    let numbers : c.into_reftable-reftable.result.numbers ≡ reftable = search rules in
    counters-refuse header edits before.byte_at l1.numbers reftable header.v2.l1_size c.in_ok-by_table.planned fault is count plans
    (counts-at header c.in_ok-by_table.planned fault c.into_reftable-reftable.result.numbers reftable planned before.byte_at numbers last at_end
    c.in_err-clusters.ensures.fault))

pub returns-clause-planned : goal.returns-clause-planned
returns-clause-planned g c = λ told.
    let before = g.S.Storage.state c.args.image.now in
    let read = g.S.Storage.state c.read_tables.new.image in
    let planned = g.S.Storage.state c.plan_by_tables.new.image in
    let header = c.args.header.now in
    let edits = c.args.edits.now in
    let known : IsTrue read.tells = search rules in
    let at_end : IsTrue planned.tells = search rules in
    let same : read.byte_at ≡ before.byte_at = search rules in
    let last : planned.byte_at ≡ before.byte_at = search rules in
    let l1 = c.in_ok-l1_table.l1_table in
    let reftable = c.in_ok-l1_table.counters.reftable in
    let tables = image_tables header l1.numbers reftable in
    let allows = subst (λ bytes. unless_refused (tables_refusal tables edits bytes) (Ok (tt {0})) ≡ Ok tt) same (c.in_ok-by_table.ensures.exact known) in
    let is = planned-is header edits before.byte_at l1.numbers reftable (c.in_ok-l1_table.ensures.read told) allows in
    let plans = subst (λ bytes. IsPlanned tables edits bytes header.v2.l1_size c.in_ok-by_table.planned) same (c.in_ok-by_table.ensures.planned known) in
    let count : length l1.numbers ≡ header.v2.l1_size = search rules in
    let known_tables : CounterTablesState = record { header = header; reftable = c.into_reftable-reftable.result.numbers } in
    let counts = subst (λ bytes. (cluster : ℕ) → CannotCount known_tables c.in_ok-by_table.planned.gains c.in_ok-by_table.planned.losses bytes cluster → ⊥) last
    (c.in_ok-clusters.ensures.counts.1 at_end) in
    let lists = subst (λ bytes. ListsChanges known_tables c.in_ok-by_table.planned.gains c.in_ok-by_table.planned.losses bytes c.in_ok-clusters.clusters) last
    (c.in_ok-clusters.ensures.listed at_end) in
    is-plan header edits before.byte_at l1 c.in_ok-by_table.by_table c.into_reftable-reftable.result reftable header.v2.l1_size c.in_ok-by_table.planned (search rules)
    is count plans c.in_ok-clusters.ensures.counts.0 counts c.in_ok-clusters.clusters lists
