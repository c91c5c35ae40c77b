use Rattle.std.proofs.Common.{◌≡◌, IsTrue, Some, map, sym, ◌∙◌, rules}
use Rattle.std.proofs.lemmas.Result.{err_from_is_err_and}
use Rattle.qcow2_check.specs.Findings.{CountsAll}
use Rattle.qcow2_check.specs.Uses.{ImageTables, image_tables, image_uses, uses_of}
use Rattle.qcow2_repair.proofs.FlagWindowsLemmas.{PassesWindow, l1-after, loads-after-l1, tally_pass, window-passed, window-torn-l1, window-torn-l2}
use Rattle.qcow2_repair.proofs.PassesLemmas.{PassedBy, tables_after, uses-after}
use Rattle.qcow2_repair.proofs.RepairLemmas.{counts-still}
use Rattle.qcow2_repair.specs.Flags.{l1_in, passed_l1, uses_between}
use Rattle.qcow2_repair.proofs.flag_windows.pass_window.Goals as goal

pub returns-in_err-write_l1_table-clause-passed : goal.returns-in_err-write_l1_table-clause-passed
returns-in_err-write_l1_table-clause-passed g c = λ told.
    let exit = err_from_is_err_and c.from_residual-in_err-write_l1_table.result c.from_residual-in_err-write_l1_table.ensures.1 in
    let tables : ImageTables = image_tables c.args.header.now c.args.l1_table.now.numbers c.args.reftable.now.numbers in
    let bytes : (g.S.Storage.state c.keep_from.new.image).byte_at ≡ (g.S.Storage.state c.args.image.now).byte_at = search rules in
    let known : IsTrue (g.S.Storage.state c.keep_from.new.image).tells = search rules in
    let kept : c.keep_from.new.self.tally ≡ Some c.unwrap-tally.result.now = search rules in
    let counts : CountsAll tables (g.S.Storage.state c.args.image.now).byte_at c.unwrap-tally.result.now = rw kept at (c.in_ok-keep_from.ensures.counted told) in
    let window : PassesWindow tables c.args.flag c.unwrap-tally.result.now (g.S.Storage.state c.args.image.now).byte_at (g.S.Storage.state c.write_l1_table.new.image).byte_at =
    record {
      is = c.requires.repairable told;
      counts = counts;
      l1 = sym (c.requires.l1_table.numbers told);
      outside = rw bytes at (c.in_err-write_l1_table.ensures.storage.others known);
    } in
    let whole = rw bytes at c.in_err-write_l1_table.ensures.storage.refused in
    rw (exit.1, exit.2) (window-torn-l1 tables c.args.flag c.unwrap-tally.result.now c.in_err-write_l1_table.field-0.0 (g.S.Storage.state c.args.image.now).byte_at (g.S.Storage.state c.write_l1_table.new.image).byte_at window whole)

pub pass_tables-requires-clause-loads : goal.pass_tables-requires-clause-loads
pass_tables-requires-clause-loads g c = λ told.
    let tables : ImageTables = image_tables c.args.header.now c.args.l1_table.now.numbers c.args.reftable.now.numbers in
    let start : IsTrue (g.S.Storage.state c.args.image.now).tells = search rules in
    let bytes : (g.S.Storage.state c.keep_from.new.image).byte_at ≡ (g.S.Storage.state c.args.image.now).byte_at = search rules in
    let known : IsTrue (g.S.Storage.state c.keep_from.new.image).tells = search rules in
    let outside = rw bytes at (c.in_ok-write_l1_table.ensures.storage.others known) in
    let numbers : c.write_l1_table.new.l1_table.numbers ≡ map (passed_l1 (tally_pass tables c.args.flag c.unwrap-tally.result.now)) c.args.l1_table.now.numbers = search rules in
    rw numbers (loads-after-l1 tables c.args.flag c.unwrap-tally.result.now (g.S.Storage.state c.args.image.now).byte_at (g.S.Storage.state c.write_l1_table.new.image).byte_at
    (c.requires.repairable start) outside)

pub returns-in_err-pass_tables-clause-passed : goal.returns-in_err-pass_tables-clause-passed
returns-in_err-pass_tables-clause-passed g c = λ told.
    let exit = err_from_is_err_and c.from_residual-in_err-pass_tables.result c.from_residual-in_err-pass_tables.ensures.1 in
    let tables : ImageTables = image_tables c.args.header.now c.args.l1_table.now.numbers c.args.reftable.now.numbers in
    let bytes : (g.S.Storage.state c.keep_from.new.image).byte_at ≡ (g.S.Storage.state c.args.image.now).byte_at = search rules in
    let known : IsTrue (g.S.Storage.state c.keep_from.new.image).tells = search rules in
    let later : IsTrue (g.S.Storage.state c.write_l1_table.new.image).tells = search rules in
    let kept : c.keep_from.new.self.tally ≡ Some c.unwrap-tally.result.now = search rules in
    let counts : CountsAll tables (g.S.Storage.state c.args.image.now).byte_at c.unwrap-tally.result.now = rw kept at (c.in_ok-keep_from.ensures.counted told) in
    let window : PassesWindow tables c.args.flag c.unwrap-tally.result.now (g.S.Storage.state c.args.image.now).byte_at (g.S.Storage.state c.write_l1_table.new.image).byte_at =
    record {
      is = c.requires.repairable told;
      counts = counts;
      l1 = sym (c.requires.l1_table.numbers told);
      outside = rw bytes at (c.in_ok-write_l1_table.ensures.storage.others known);
    } in
    let numbers : c.write_l1_table.new.l1_table.numbers ≡ map (passed_l1 (tally_pass tables c.args.flag c.unwrap-tally.result.now)) c.args.l1_table.now.numbers = search rules in
    let broken = rw numbers at (c.in_err-pass_tables.ensures.passed later) in
    rw (exit.1, exit.2) (window-torn-l2 tables c.args.flag c.unwrap-tally.result.now c.in_err-pass_tables.field-0.0 (g.S.Storage.state c.args.image.now).byte_at (g.S.Storage.state c.write_l1_table.new.image).byte_at
    (g.S.Storage.state c.pass_tables.new.image).byte_at window (sym (c.in_ok-write_l1_table.ensures.written.numbers later) ∙ numbers) broken)

pub returns-clause-passed : goal.returns-clause-passed
returns-clause-passed g c = λ told.
    let tables : ImageTables = image_tables c.args.header.now c.args.l1_table.now.numbers c.args.reftable.now.numbers in
    let bytes : (g.S.Storage.state c.keep_from.new.image).byte_at ≡ (g.S.Storage.state c.args.image.now).byte_at = search rules in
    let known : IsTrue (g.S.Storage.state c.keep_from.new.image).tells = search rules in
    let later : IsTrue (g.S.Storage.state c.write_l1_table.new.image).tells = search rules in
    let kept : c.keep_from.new.self.tally ≡ Some c.unwrap-tally.result.now = search rules in
    let counts : CountsAll tables (g.S.Storage.state c.args.image.now).byte_at c.unwrap-tally.result.now = rw kept at (c.in_ok-keep_from.ensures.counted told) in
    let window : PassesWindow tables c.args.flag c.unwrap-tally.result.now (g.S.Storage.state c.args.image.now).byte_at (g.S.Storage.state c.write_l1_table.new.image).byte_at =
    record {
      is = c.requires.repairable told;
      counts = counts;
      l1 = sym (c.requires.l1_table.numbers told);
      outside = rw bytes at (c.in_ok-write_l1_table.ensures.storage.others known);
    } in
    let numbers : c.write_l1_table.new.l1_table.numbers ≡ map (passed_l1 (tally_pass tables c.args.flag c.unwrap-tally.result.now)) c.args.l1_table.now.numbers = search rules in
    let passes = rw numbers at (c.in_ok-pass_tables.ensures.passed later) in
    let end = c.end.ensures.value in
    rw end (window-passed tables c.args.flag c.unwrap-tally.result.now c.args.first (g.S.Storage.state c.args.image.now).byte_at (g.S.Storage.state c.write_l1_table.new.image).byte_at
    (g.S.Storage.state c.pass_tables.new.image).byte_at window (search rules) (sym (c.in_ok-write_l1_table.ensures.written.numbers later) ∙ numbers) passes)

pub returns-clause-kept : goal.returns-clause-kept
returns-clause-kept g c = (
  record {
    numbers = λ told.
        let tables : ImageTables = image_tables c.args.header.now c.args.l1_table.now.numbers c.args.reftable.now.numbers in
        let start : IsTrue (g.S.Storage.state c.args.image.now).tells = search rules in
        let later : IsTrue (g.S.Storage.state c.write_l1_table.new.image).tells = search rules in
        let pass = tally_pass tables c.args.flag c.unwrap-tally.result.now in
        let numbers : c.write_l1_table.new.l1_table.numbers ≡ map (passed_l1 pass) c.args.l1_table.now.numbers = search rules in
        let passes = rw numbers at (c.in_ok-pass_tables.ensures.passed later) in
        c.in_ok-write_l1_table.ensures.written.numbers later ∙ sym (l1-after tables c.args.flag c.unwrap-tally.result.now (g.S.Storage.state c.args.image.now).byte_at (g.S.Storage.state c.write_l1_table.new.image).byte_at
        (g.S.Storage.state c.pass_tables.new.image).byte_at (c.requires.repairable start) passes);
    count = search rules;
    cluster = search rules;
    unmodified = search rules;
    geometry = search rules;
  },
  λ told.
      let header = c.args.header.now in
      let tables : ImageTables = image_tables header c.args.l1_table.now.numbers c.args.reftable.now.numbers in
      let before = (g.S.Storage.state c.args.image.now).byte_at in
      let mid = (g.S.Storage.state c.write_l1_table.new.image).byte_at in
      let after = (g.S.Storage.state c.pass_tables.new.image).byte_at in
      let bytes : (g.S.Storage.state c.keep_from.new.image).byte_at ≡ before = search rules in
      let known : IsTrue (g.S.Storage.state c.keep_from.new.image).tells = search rules in
      let later : IsTrue (g.S.Storage.state c.write_l1_table.new.image).tells = search rules in
      let kept : c.keep_from.new.self.tally ≡ Some c.unwrap-tally.result.now = search rules in
      let counts : CountsAll tables before c.unwrap-tally.result.now = rw kept at (c.in_ok-keep_from.ensures.counted told) in
      let window : PassesWindow tables c.args.flag c.unwrap-tally.result.now before mid = record {
        is = c.requires.repairable told;
        counts = counts;
        l1 = sym (c.requires.l1_table.numbers told);
        outside = rw bytes at (c.in_ok-write_l1_table.ensures.storage.others known);
      } in
      let pass = tally_pass tables c.args.flag c.unwrap-tally.result.now in
      let numbers : c.write_l1_table.new.l1_table.numbers ≡ map (passed_l1 pass) c.args.l1_table.now.numbers = search rules in
      let passes = rw numbers at (c.in_ok-pass_tables.ensures.passed later) in
      let written = c.in_ok-write_l1_table.ensures.written.numbers later in
      let by : PassedBy tables c.args.flag (uses_between (λ k. uses_of (image_uses tables before) k) c.args.first c.unwrap-tally.result.now.end) before after = record {
        is = c.requires.repairable told;
        l1 = c.requires.l1_table.numbers told;
        passes = window-passed tables c.args.flag c.unwrap-tally.result.now c.args.first before mid after window (search rules) (sym written ∙ numbers) passes;
      } in
      let l1 : c.write_l1_table.new.l1_table.numbers ≡ l1_in header after = written ∙ sym (l1-after tables c.args.flag c.unwrap-tally.result.now before mid after (c.requires.repairable told) passes) in
      rw l1 (counts-still tables (tables_after tables after) before after c.keep_from.new.self.tally (uses-after tables c.args.flag _ before after by)
      (c.in_ok-keep_from.ensures.counted told)),
)
