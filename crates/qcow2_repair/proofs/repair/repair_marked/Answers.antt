use Rattle.std.proofs.Common.{◌≡◌, IsTrue, IsOk, Ok, Some, length, true, refl, sym, ◌∙◌, inl, inr, arith, rules}
use Rattle.std.proofs.lemmas.Bool.Decides.{nat_tests}
use Rattle.std.proofs.lemmas.Result.{err_from_is_err_and}
use Rattle.qcow2_metadata.proofs.WritableLemmas.{writable-same}
use Rattle.qcow2_metadata.specs.Header.Open.{SaysSame, opened_text}
use Rattle.qcow2_check.specs.Uses.{ImageTables, image_tables}
use Rattle.qcow2_repair.proofs.HeaderLemmas.{blocks-said, found-fault, geometry-said, kept-written, l1-place-said, l1-table-written, makes-writable, pass-fault-said, repairable-l1, repairable-written, reports-none, text-fits}
use Rattle.qcow2_repair.proofs.RepairLemmas.{counts-still}
use Rattle.qcow2_repair.specs.Repair.{MakesWritable, tables_in}
use Rattle.qcow2_repair.specs.Refusals.{repairable_tables}
use Rattle.qcow2_repair.proofs.repair.repair_marked.Goals as goal

pub repair_written-requires-clause-reftable : goal.repair_written-requires-clause-reftable
repair_written-requires-clause-reftable g c =
    let says : SaysSame c.args.header c.in_ok-header.header = writable-same c.args.header c.in_ok-header.header c.in_ok-header.ensures.writable.exact in record {
      geometry = c.in_ok-l1_table.ensures.reftable.geometry ∙ sym (geometry-said c.args.header c.in_ok-header.header says);
      entries = c.in_ok-l1_table.ensures.reftable.entries;
      placed = blocks-said c.args.header c.in_ok-header.header c.in_ok-l1_table.reftable.numbers says ∙ c.in_ok-l1_table.ensures.reftable.placed;
    }

pub repair_written-requires-clause-placed : goal.repair_written-requires-clause-placed
repair_written-requires-clause-placed g c =
    l1-place-said c.args.header c.in_ok-header.header (writable-same c.args.header c.in_ok-header.header c.in_ok-header.ensures.writable.exact) c.in_ok-l1_table.ensures.l1_table.1

pub repair_written-requires-clause-l1_table : goal.repair_written-requires-clause-l1_table
repair_written-requires-clause-l1_table g c =
    let says : SaysSame c.args.header c.in_ok-header.header = writable-same c.args.header c.in_ok-header.header c.in_ok-header.ensures.writable.exact in
    let before = (g.S.Storage.state c.args.image.now).byte_at in
    let bytes : (g.S.Storage.state c.repairable_tables.new.image).byte_at ≡ before = search rules in
    l1-table-written c.args.header c.in_ok-header.header c.in_ok-l1_table.l1_table c.in_ok-l1_table.reftable.numbers (length (opened_text true (Ok c.args.header)))
    (g.S.Storage.state c.args.image.now) (g.S.Storage.state c.into_writable.new.image) says (search rules) c.in_ok-l1_table.ensures.repairable
    (λ told.
    let known : IsTrue (g.S.Storage.state c.repairable_tables.new.image).tells = search rules in
    rw bytes at (c.in_ok-header.ensures.writable.storage.others known))
    (text-fits c.args.header) c.in_ok-l1_table.ensures.l1_table.0

pub repair_written-requires-clause-repairable : goal.repair_written-requires-clause-repairable
repair_written-requires-clause-repairable g c = λ told.
    let start : IsTrue (g.S.Storage.state c.args.image.now).tells = search rules in
    let before = (g.S.Storage.state c.args.image.now).byte_at in
    let after = (g.S.Storage.state c.into_writable.new.image).byte_at in
    let bytes : (g.S.Storage.state c.repairable_tables.new.image).byte_at ≡ before = search rules in
    let known : IsTrue (g.S.Storage.state c.repairable_tables.new.image).tells = search rules in
    let tables : ImageTables = image_tables c.args.header c.in_ok-l1_table.l1_table.numbers c.in_ok-l1_table.reftable.numbers in
    let says : SaysSame c.args.header c.in_ok-header.header = writable-same c.args.header c.in_ok-header.header c.in_ok-header.ensures.writable.exact in
    let l1 = (repairable-l1 c.args.header tables before (c.in_ok-l1_table.ensures.reads.exact start)).1 in
    let both = repairable-written c.args.header c.in_ok-header.header c.in_ok-l1_table.l1_table.numbers c.in_ok-l1_table.reftable.numbers _ before after says
    (c.in_ok-l1_table.ensures.repairable start) l1 (rw bytes at (c.in_ok-header.ensures.writable.storage.others known)) (text-fits c.args.header) in
    rw both.1 both.0

pub repair_written-requires-clause-counted : goal.repair_written-requires-clause-counted
repair_written-requires-clause-counted g c = λ told.
    let start : IsTrue (g.S.Storage.state c.args.image.now).tells = search rules in
    let before = (g.S.Storage.state c.args.image.now).byte_at in
    let after = (g.S.Storage.state c.into_writable.new.image).byte_at in
    let bytes : (g.S.Storage.state c.repairable_tables.new.image).byte_at ≡ before = search rules in
    let known : IsTrue (g.S.Storage.state c.repairable_tables.new.image).tells = search rules in
    let tables : ImageTables = image_tables c.args.header c.in_ok-l1_table.l1_table.numbers c.in_ok-l1_table.reftable.numbers in
    let says : SaysSame c.args.header c.in_ok-header.header = writable-same c.args.header c.in_ok-header.header c.in_ok-header.ensures.writable.exact in
    let kept = kept-written c.args.header c.in_ok-header.header c.in_ok-l1_table.l1_table.numbers c.in_ok-l1_table.reftable.numbers _ before after says
    (c.in_ok-l1_table.ensures.repairable start) (c.in_ok-l1_table.ensures.l1_table.0.numbers start) (rw bytes at (c.in_ok-header.ensures.writable.storage.others known)) (text-fits c.args.header) in
    counts-still tables (tables_in c.in_ok-header.header c.in_ok-l1_table.reftable.numbers after) before after c.in_ok-l1_table.tally kept.0 (c.in_ok-l1_table.ensures.counted start).0

pub returns-in_err-l1_table : goal.returns-in_err-l1_table
returns-in_err-l1_table g c =
    let exit = err_from_is_err_and c.from_residual.result c.from_residual.ensures.1 in
    record {
      repairs = search rules;
      refused = search rules;
      faults = rw (exit.1, exit.2) (found-fault c.args.header _ c.in_err-l1_table.ensures.reads.faults);
      storage = search rules;
    }

pub returns-in_err-header : goal.returns-in_err-header
returns-in_err-header g c =
    let read = c.in_ok-l1_table.ensures.reads.storage in
    let written = c.in_err-header.ensures.writable.storage in
    let exit = err_from_is_err_and c.from_residual-in_err-header.result c.from_residual-in_err-header.ensures.1 in
    let before = (g.S.Storage.state c.args.image.now).byte_at in
    let bytes : (g.S.Storage.state c.repairable_tables.new.image).byte_at ≡ before = search rules in
    let known : (g.S.Storage.state c.repairable_tables.new.image).tells ≡ (g.S.Storage.state c.args.image.now).tells = search rules in
    record {
      repairs = λ told.
          let found : IsOk (repairable_tables c.args.header before) = rw (c.in_ok-l1_table.ensures.reads.exact told) refl in
          let outside = rw bytes at (c.in_err-header.ensures.writable.storage.others (rw known told)) in
          rw (exit.1, exit.2) (inl (record { whole = rw bytes at c.in_err-header.ensures.writable.storage.refused; torn = inr (found, outside) }));
      refused = search rules;
      faults = search rules;
      storage = rw (exit.1, exit.2) (record {
        failed = grind (arith, nat_tests, read.told, written.told);
        device = grind (arith, read.device, written.device);
      });
    }

pub returns-in_err-repair_written : goal.returns-in_err-repair_written
returns-in_err-repair_written g c =
    let exit = err_from_is_err_and c.from_residual-in_err-repair_written.result c.from_residual-in_err-repair_written.ensures.1 in
    let before = (g.S.Storage.state c.args.image.now).byte_at in
    let mid = (g.S.Storage.state c.into_writable.new.image).byte_at in
    let bytes : (g.S.Storage.state c.repairable_tables.new.image).byte_at ≡ before = search rules in
    let known : (g.S.Storage.state c.repairable_tables.new.image).tells ≡ (g.S.Storage.state c.args.image.now).tells = search rules in
    let later : (g.S.Storage.state c.into_writable.new.image).tells ≡ (g.S.Storage.state c.args.image.now).tells = search rules in
    let tables : ImageTables = image_tables c.args.header c.in_ok-l1_table.l1_table.numbers c.in_ok-l1_table.reftable.numbers in
    let read = c.in_ok-l1_table.ensures.reads.storage in
    let written = c.in_ok-header.ensures.writable.storage in
    let passed = c.in_err-repair_written.ensures.storage in
    record {
      repairs = λ told.
          let makes : MakesWritable c.args.header c.in_ok-header.header before mid =
          rw bytes at (makes-writable c.args.header c.in_ok-header.header _ _ c.in_ok-header.ensures.writable (rw known told)) in
          rw (exit.1, exit.2) (inr (inl (c.in_ok-header.header, tables, mid, c.in_ok-l1_table.ensures.reads.exact told, makes, c.in_err-repair_written.ensures.repairs (rw later told))));
      refused = rw (exit.1, exit.2) (λ told. inl (c.in_err-repair_written.ensures.fault.1 (rw later told)));
      faults = rw (exit.1, exit.2) (pass-fault-said c.args.header c.in_ok-header.header _ (writable-same c.args.header c.in_ok-header.header c.in_ok-header.ensures.writable.exact)
          c.in_err-repair_written.ensures.fault.0);
      storage = rw (exit.1, exit.2) (record {
        failed = grind (arith, nat_tests, read.told, written.told, passed.failed);
        device = grind (arith, read.device, written.device, passed.device);
      });
    }

pub returns : goal.returns
returns g c =
    let before = (g.S.Storage.state c.args.image.now).byte_at in
    let mid = (g.S.Storage.state c.into_writable.new.image).byte_at in
    let bytes : (g.S.Storage.state c.repairable_tables.new.image).byte_at ≡ before = search rules in
    let known : (g.S.Storage.state c.repairable_tables.new.image).tells ≡ (g.S.Storage.state c.args.image.now).tells = search rules in
    let later : (g.S.Storage.state c.into_writable.new.image).tells ≡ (g.S.Storage.state c.args.image.now).tells = search rules in
    let tables : ImageTables = image_tables c.args.header c.in_ok-l1_table.l1_table.numbers c.in_ok-l1_table.reftable.numbers in
    record {
      repairs = λ told.
          let makes : MakesWritable c.args.header c.in_ok-header.header before mid =
          rw bytes at (makes-writable c.args.header c.in_ok-header.header _ _ c.in_ok-header.ensures.writable (rw known told)) in
          (tables, (mid, c.in_ok-l1_table.ensures.reads.exact told, makes, c.in_ok-repair_written.ensures.repairs (rw later told)), (c.in_ok-l1_table.ensures.counted told).1);
      refused = search rules;
      faults = search rules;
      storage = reports-none _ _ _ _ _ _ _ _ _ c.in_ok-l1_table.ensures.reads.storage c.in_ok-header.ensures.writable.storage c.in_ok-repair_written.ensures.storage;
    }
