use Rattle.std.proofs.Common.{◌≡◌, ◌⊎◌, IsTrue, Ok, Err, get_or, ap, refl, subst, sym, ◌∙◌, arith, rules}
use Rattle.std.proofs.lemmas.List.{take_all}
use Rattle.std.proofs.lemmas.Result.{err_from_is_err_and}
use Rattle.qcow2_base.specs.declared.fault.Fault.TheVariants.{NoMemory, Storage}
use Rattle.qcow2_metadata.specs.Results.{unless_refused}
use Rattle.qcow2_metadata.specs.Table.{first_fault}
use Rattle.qcow2_apply.proofs.EditsByTableLemmas.{listed-below}
use Rattle.qcow2_apply.proofs.MissingLemmas.{mappings-kept, taken-none-next, taken-refused}
use Rattle.qcow2_apply.proofs.PlannedTablesLemmas.{same-mapping, same-sources}
use Rattle.qcow2_apply.specs.PlannedTables.{mapping_fault_in, planning_tables}
use Rattle.qcow2_apply.proofs.planned_tables.check_mappings.Goals as goal

pub loop-position-init : goal.loop-position-init
loop-position-init g c = record {
  none = λ told. refl;
  reader = record { same = refl; kept = c.requires.kept };
  storage = search rules;
}

pub check_mapping_in-requires-clause-sources : goal.check_mapping_in-requires-clause-sources
check_mapping_in-requires-clause-sources g c = same-sources c.args.sources.now (g.S.Storage.state c.args.image.now) c.args.counters.now c.loop-position.counters
    c.loop-position.invariant.reader c.requires.sources

pub check_mapping_in-requires-clause-kept : goal.check_mapping_in-requires-clause-kept
check_mapping_in-requires-clause-kept g c = λ told.
    let known : IsTrue (g.S.Storage.state c.args.image.now).tells = search rules in
    let bytes : (g.S.Storage.state c.loop-position.image).byte_at ≡ (g.S.Storage.state c.args.image.now).byte_at = c.loop-position.invariant.storage.bytes in
    rw bytes (c.loop-position.invariant.reader.kept known)

pub check_mapping_in-requires-clause-position : goal.check_mapping_in-requires-clause-position
check_mapping_in-requires-clause-position g c = listed-below c.args.sources.now.header.now.v2.cluster_bits c.args.index c.args.sources.now.edits.now c.args.positions.now
    c.loop-position.position-index _ c.requires.positions c.loop-position-test.true

pub loop-position-preserved : goal.loop-position-preserved
loop-position-preserved g c =
    let so_far = c.loop-position.invariant in
    record {
      none = λ told.
          let known : IsTrue (g.S.Storage.state c.loop-position.image).tells = search rules in
          let bytes : (g.S.Storage.state c.loop-position.image).byte_at ≡ (g.S.Storage.state c.args.image.now).byte_at = so_far.storage.bytes in
          taken-none-next (mapping_fault_in (planning_tables c.args.sources.now c.args.counters.now) c.args.sources.now.edits.now
          (g.S.Storage.state c.args.image.now).byte_at c.args.index) c.args.positions.now c.loop-position.position-index 0 _ c.loop-position-test.true (so_far.none told)
          (same-mapping c.args.sources.now (g.S.Storage.state c.args.image.now) c.args.counters.now c.loop-position.counters
          (g.S.Storage.state c.args.image.now).byte_at (g.S.Storage.state c.loop-position.image).byte_at c.args.index
          (get_or c.args.positions.now c.loop-position.position-index 0) so_far.reader bytes)
          (c.in_ok-check_mapping_in.ensures.exact known);
      reader = search rules;
      storage = search rules;
    }

pub returns-in_err-check_mapping_in-clause-exact : goal.returns-in_err-check_mapping_in-clause-exact
returns-in_err-check_mapping_in-clause-exact g c = λ told.
    let exit = err_from_is_err_and c.from_residual.result c.from_residual.ensures.1 in
    let so_far = c.loop-position.invariant in
    let known : IsTrue (g.S.Storage.state c.loop-position.image).tells = search rules in
    let bytes : (g.S.Storage.state c.loop-position.image).byte_at ≡ (g.S.Storage.state c.args.image.now).byte_at = so_far.storage.bytes in
    let tables = planning_tables c.args.sources.now c.args.counters.now in
    let edits = c.args.sources.now.edits.now in
    let image = (g.S.Storage.state c.args.image.now).byte_at in
    let fault = c.in_err-check_mapping_in.field-0.0 in
    rw (exit.1, exit.2) (subst (λ found. (fault ≡ Storage) ⊎ (fault ≡ NoMemory) ⊎ (unless_refused found (Ok (tt {0})) ≡ Err fault))
    (mappings-kept tables edits image c.args.index c.args.positions.now c.requires.positions)
    (taken-refused (mapping_fault_in tables edits image c.args.index) c.args.positions.now c.loop-position.position-index 0 _ fault c.loop-position-test.true
    (so_far.none told) (same-mapping c.args.sources.now (g.S.Storage.state c.args.image.now) c.args.counters.now c.loop-position.counters
    image (g.S.Storage.state c.loop-position.image).byte_at c.args.index (get_or c.args.positions.now c.loop-position.position-index 0) so_far.reader bytes)
    (c.in_err-check_mapping_in.ensures.exact known)))

pub returns-in_err-check_mapping_in-clause-reader : goal.returns-in_err-check_mapping_in-clause-reader
returns-in_err-check_mapping_in-clause-reader g c = search rules

pub returns-in_err-check_mapping_in-clause-storage : goal.returns-in_err-check_mapping_in-clause-storage
returns-in_err-check_mapping_in-clause-storage g c = search rules

pub returns-clause-exact : goal.returns-clause-exact
returns-clause-exact g c = λ told.
    let tables = planning_tables c.args.sources.now c.args.counters.now in
    let edits = c.args.sources.now.edits.now in
    let image = (g.S.Storage.state c.args.image.now).byte_at in
    ap (λ found. unless_refused found (Ok (tt {0}))) (sym (mappings-kept tables edits image c.args.index c.args.positions.now c.requires.positions)
    ∙ ap (first_fault (mapping_fault_in tables edits image c.args.index))
    (sym (take_all c.loop-position.position-index c.args.positions.now (omega (arith, c.loop-position-test.false))))
    ∙ c.loop-position.invariant.none told)

pub returns-clause-reader : goal.returns-clause-reader
returns-clause-reader g c = c.loop-position.invariant.reader

pub returns-clause-storage : goal.returns-clause-storage
returns-clause-storage g c = search rules
