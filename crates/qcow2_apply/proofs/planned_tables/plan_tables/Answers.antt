use Rattle.std.proofs.Common.{◌≡◌, ◌<◌, ◌≤◌, IsTrue, Some, None, Ok, true, false, if◌then◌else◌, length, ap, refl, subst, inr, arith, rules}
use Rattle.std.specs.List.{range_with_len}
use Rattle.qcow2_base.specs.declared.fault.Fault.TheVariants.{NotPlaced}
use Rattle.qcow2_metadata.specs.Results.{unless_refused}
use Rattle.qcow2_metadata.specs.Table.{first_fault}
use Rattle.std.proofs.lemmas.Result.{err_from_is_err_and}
use Rattle.qcow2_apply.proofs.MissingLemmas.{missing-refused}
use Rattle.qcow2_apply.proofs.PlannedTablesLemmas.{all-allowed, first-refused, more-refused, none-refused-next, planned-next, planned-none, same-adds, same-refusal, same-sources}
use Rattle.qcow2_apply.specs.PlannedTables.{IsPlanned, planning_tables, table_refusal}
use Rattle.qcow2_apply.specs.NeededTables.{are_more_needed}
use Rattle.qcow2_apply.proofs.planned_tables.plan_tables.Goals as goal

pub loop-index-init : goal.loop-index-init
loop-index-init g c = record {
  none = λ told. refl;
  planned = λ told. planned-none (planning_tables c.args.sources.now c.args.counters.now) c.args.sources.now.edits.now (g.S.Storage.state c.args.image.now).byte_at
      c.args.planned.now c.requires.none.0 c.requires.none.1 c.requires.none.2;
  sorted = λ each sorted. sorted;
  within = omega arith;
  reader = record { same = refl; kept = c.requires.kept };
  storage = search rules;
}

pub plan_table-requires-clause-sources : goal.plan_table-requires-clause-sources
plan_table-requires-clause-sources g c = same-sources c.args.sources.now (g.S.Storage.state c.args.image.now) c.args.counters.now c.loop-index.counters
    c.loop-index.invariant.reader c.requires.sources

pub plan_table-requires-clause-kept : goal.plan_table-requires-clause-kept
plan_table-requires-clause-kept g c = λ told.
    let known : IsTrue (g.S.Storage.state c.args.image.now).tells = search rules in
    let bytes : (g.S.Storage.state c.loop-index.image).byte_at ≡ (g.S.Storage.state c.args.image.now).byte_at = c.loop-index.invariant.storage.bytes in
    rw bytes (c.loop-index.invariant.reader.kept known)

pub plan_table-requires-clause-there : goal.plan_table-requires-clause-there
plan_table-requires-clause-there g c = λ none. c.first_missing-end.ensures.earlier c.loop-index.index
    (omega (arith, c.loop-index-test.true, c.first_missing-end.ensures.within, c.l1_table_entries-entries.ensures, c.requires.sources.tables.count)) none

pub returns-in_err-plan_table-clause-exact : goal.returns-in_err-plan_table-clause-exact
returns-in_err-plan_table-clause-exact g c = λ told.
    let exit = err_from_is_err_and c.from_residual.result c.from_residual.ensures.1 in
    let so_far = c.loop-index.invariant in
    let known : IsTrue (g.S.Storage.state c.loop-index.image).tells = search rules in
    let bytes : (g.S.Storage.state c.loop-index.image).byte_at ≡ (g.S.Storage.state c.args.image.now).byte_at = so_far.storage.bytes in
    let refusal = table_refusal (planning_tables c.args.sources.now c.args.counters.now) c.args.sources.now.edits.now (g.S.Storage.state c.args.image.now).byte_at in
    let l1 = c.args.sources.now.l1_table.now.numbers in
    let more = if are_more_needed c.args.sources.now.header.now.v2.cluster_bits c.args.sources.now.edits.now (length l1) then Some NotPlaced else None in
    rw (exit.1, exit.2) (more-refused (first_fault refusal (range_with_len 0 (length l1))) more c.in_err-plan_table.field-0.0
    (first-refused refusal c.loop-index.index (length l1) _ c.in_err-plan_table.field-0.0 (omega (arith, c.loop-index-test.true, c.first_missing-end.ensures.within, c.l1_table_entries-entries.ensures, c.requires.sources.tables.count))
    (so_far.none told) (same-refusal c.args.sources.now (g.S.Storage.state c.args.image.now) c.args.counters.now c.loop-index.counters
    (g.S.Storage.state c.args.image.now).byte_at (g.S.Storage.state c.loop-index.image).byte_at c.loop-index.index so_far.reader bytes)
    (c.in_err-plan_table.ensures.exact known)))

pub returns-in_err-plan_table-clause-reader : goal.returns-in_err-plan_table-clause-reader
returns-in_err-plan_table-clause-reader g c = search rules

pub returns-in_err-plan_table-clause-storage : goal.returns-in_err-plan_table-clause-storage
returns-in_err-plan_table-clause-storage g c = search rules

pub loop-index-preserved : goal.loop-index-preserved
loop-index-preserved g c =
    let so_far = c.loop-index.invariant in
    let bytes : (g.S.Storage.state c.loop-index.image).byte_at ≡ (g.S.Storage.state c.args.image.now).byte_at = so_far.storage.bytes in
    record {
      none = λ told.
          let known : IsTrue (g.S.Storage.state c.loop-index.image).tells = search rules in
          none-refused-next (table_refusal (planning_tables c.args.sources.now c.args.counters.now) c.args.sources.now.edits.now
          (g.S.Storage.state c.args.image.now).byte_at) c.loop-index.index _ (so_far.none told)
          (same-refusal c.args.sources.now (g.S.Storage.state c.args.image.now) c.args.counters.now c.loop-index.counters
          (g.S.Storage.state c.args.image.now).byte_at (g.S.Storage.state c.loop-index.image).byte_at c.loop-index.index so_far.reader bytes)
          (c.in_ok-plan_table.ensures.exact known);
      planned = λ told.
          let known : IsTrue (g.S.Storage.state c.loop-index.image).tells = search rules in
          planned-next (planning_tables c.args.sources.now c.args.counters.now) c.args.sources.now.edits.now (g.S.Storage.state c.args.image.now).byte_at
          c.loop-index.index c.loop-index.planned c.plan_table.new.planned (so_far.planned told)
          (same-adds c.args.sources.now (g.S.Storage.state c.args.image.now) c.args.counters.now c.loop-index.counters (g.S.Storage.state c.args.image.now).byte_at
          (g.S.Storage.state c.loop-index.image).byte_at c.loop-index.index c.loop-index.planned c.plan_table.new.planned so_far.reader bytes
          (c.in_ok-plan_table.ensures.planned known));
      sorted = λ each sorted. c.in_ok-plan_table.ensures.sorted each (so_far.sorted each sorted);
      within = omega (arith, c.loop-index-test.true, c.first_missing-end.ensures.within, c.l1_table_entries-entries.ensures, c.requires.sources.tables.count);
      reader = search rules;
      storage = search rules;
    }

pub returns-then-end-entries-clause-exact : goal.returns-then-end-entries-clause-exact
returns-then-end-entries-clause-exact g c = λ told.
    let tables = planning_tables c.args.sources.now c.args.counters.now in
    let edits = c.args.sources.now.edits.now in
    let image = (g.S.Storage.state c.args.image.now).byte_at in
    let end : c.loop-index.index ≡ c.first_missing-end.result = omega (
      arith,
      c.loop-index.invariant.within,
      c.loop-index-test.false,
      c.first_missing-end.ensures.within,
      c.l1_table_entries-entries.ensures,
      c.requires.sources.tables.count,
    ) in
    let below : c.first_missing-end.result < length tables.l1 = search rules in
    missing-refused tables edits image c.first_missing-end.result (if are_more_needed tables.header.v2.cluster_bits edits (length tables.l1) then Some NotPlaced else None)
    c.first_missing-end.ensures below
    (subst (λ n. first_fault (table_refusal tables edits image) (range_with_len 0 n) ≡ None) end (c.loop-index.invariant.none told))

pub returns-then-end-entries-clause-reader : goal.returns-then-end-entries-clause-reader
returns-then-end-entries-clause-reader g c = c.loop-index.invariant.reader

pub returns-then-end-entries-clause-storage : goal.returns-then-end-entries-clause-storage
returns-then-end-entries-clause-storage g c = search rules

pub returns-then-are_more_needed-clause-exact : goal.returns-then-are_more_needed-clause-exact
returns-then-are_more_needed-clause-exact g c = λ told.
    let l1 = c.args.sources.now.l1_table.now.numbers in
    let reached : c.l1_table_entries-entries.result ≤ c.first_missing-end.result = search rules in
    let end : length l1 ≡ c.loop-index.index = omega (
      arith,
      c.loop-index.invariant.within,
      c.loop-index-test.false,
      c.first_missing-end.ensures.within,
      c.l1_table_entries-entries.ensures,
      c.requires.sources.tables.count,
      reached,
    ) in
    let cb = c.args.sources.now.header.now.v2.cluster_bits in
    let needed : are_more_needed cb c.args.sources.now.edits.now (length l1) ≡ true = rw c.requires.sources.tables.count (search rules) in
    inr (inr (ap (λ found. unless_refused found (Ok (tt {0})))
    (all-allowed (table_refusal (planning_tables c.args.sources.now c.args.counters.now) c.args.sources.now.edits.now (g.S.Storage.state c.args.image.now).byte_at)
    c.loop-index.index (length l1) (if are_more_needed cb c.args.sources.now.edits.now (length l1) then Some NotPlaced else None) (Some NotPlaced)
    (c.loop-index.invariant.none told) end (rw needed refl))))

pub returns-then-are_more_needed-clause-reader : goal.returns-then-are_more_needed-clause-reader
returns-then-are_more_needed-clause-reader g c = c.loop-index.invariant.reader

pub returns-then-are_more_needed-clause-storage : goal.returns-then-are_more_needed-clause-storage
returns-then-are_more_needed-clause-storage g c = search rules

pub returns-clause-exact : goal.returns-clause-exact
returns-clause-exact g c = λ told.
    let l1 = c.args.sources.now.l1_table.now.numbers in
    let reached : c.l1_table_entries-entries.result ≤ c.first_missing-end.result = search rules in
    let end : length l1 ≡ c.loop-index.index = omega (
      arith,
      c.loop-index.invariant.within,
      c.loop-index-test.false,
      c.first_missing-end.ensures.within,
      c.l1_table_entries-entries.ensures,
      c.requires.sources.tables.count,
      reached,
    ) in
    let cb = c.args.sources.now.header.now.v2.cluster_bits in
    let enough : are_more_needed cb c.args.sources.now.edits.now (length l1) ≡ false = rw c.requires.sources.tables.count (search rules) in
    ap (λ found. unless_refused found (Ok (tt {0})))
    (all-allowed (table_refusal (planning_tables c.args.sources.now c.args.counters.now) c.args.sources.now.edits.now (g.S.Storage.state c.args.image.now).byte_at)
    c.loop-index.index (length l1) (if are_more_needed cb c.args.sources.now.edits.now (length l1) then Some NotPlaced else None) None
    (c.loop-index.invariant.none told) end (rw enough refl))

pub returns-clause-planned : goal.returns-clause-planned
returns-clause-planned g c = λ told.
    let reached : c.l1_table_entries-entries.result ≤ c.first_missing-end.result = search rules in
    let end : c.loop-index.index ≡ c.args.sources.now.header.now.v2.l1_size = omega (
      arith,
      c.loop-index.invariant.within,
      c.loop-index-test.false,
      c.first_missing-end.ensures.within,
      c.l1_table_entries-entries.ensures,
      c.requires.sources.tables.count,
      reached,
    ) in
    subst (λ index. IsPlanned (planning_tables c.args.sources.now c.args.counters.now) c.args.sources.now.edits.now
    (g.S.Storage.state c.args.image.now).byte_at index c.loop-index.planned) end (c.loop-index.invariant.planned told)

pub returns-clause-sorted : goal.returns-clause-sorted
returns-clause-sorted g c = c.loop-index.invariant.sorted

pub returns-clause-reader : goal.returns-clause-reader
returns-clause-reader g c = c.loop-index.invariant.reader

pub returns-clause-storage : goal.returns-clause-storage
returns-clause-storage g c = search rules
