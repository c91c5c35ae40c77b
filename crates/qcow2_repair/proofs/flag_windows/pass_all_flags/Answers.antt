use Rattle.std.proofs.Common.{◌≡◌, IsTrue, rules}
use Rattle.std.proofs.lemmas.Result.{err_from_is_err_and}
use Rattle.qcow2_check.specs.Uses.{ImageTables, image_tables, image_uses, uses_of}
use Rattle.qcow2_repair.proofs.FlagWindowsLemmas.{flags-done}
use Rattle.qcow2_repair.proofs.PassesLemmas.{PassedBy, breaks-joined, passes-finished, passes-joined, repairable-after}
use Rattle.qcow2_repair.specs.Flags.{uses_between}
use Rattle.qcow2_repair.proofs.flag_windows.pass_all_flags.Goals as goal

pub pass_window-requires-in-loop-first-clause-repairable : goal.pass_window-requires-in-loop-first-clause-repairable
pass_window-requires-in-loop-first-clause-repairable g c = λ told.
    let start : IsTrue (g.S.Storage.state c.args.image.now).tells = search rules in
    let tables : ImageTables = image_tables c.args.header.now c.args.l1_table.now.numbers c.args.reftable.now.numbers in
    let by : PassedBy tables c.args.flag (uses_between (λ k. uses_of (image_uses tables (g.S.Storage.state c.args.image.now).byte_at) k) 0 c.loop-first.first)
    (g.S.Storage.state c.args.image.now).byte_at (g.S.Storage.state c.loop-first.image).byte_at =
    record { is = c.requires.repairable start; l1 = c.requires.l1_table.numbers start; passes = c.loop-first.invariant.passed start } in
    rw (c.loop-first.invariant.l1_table.numbers told) (repairable-after tables c.args.flag _ _ _ by)

pub returns-in_err-first-2-clause-passed : goal.returns-in_err-first-2-clause-passed
returns-in_err-first-2-clause-passed g c = λ told.
    let exit = err_from_is_err_and c.from_residual-in_err-first-2.result c.from_residual-in_err-first-2.ensures.1 in
    let known : IsTrue (g.S.Storage.state c.loop-first.image).tells = search rules in
    let tables : ImageTables = image_tables c.args.header.now c.args.l1_table.now.numbers c.args.reftable.now.numbers in
    let by : PassedBy tables c.args.flag (uses_between (λ k. uses_of (image_uses tables (g.S.Storage.state c.args.image.now).byte_at) k) 0 c.loop-first.first)
    (g.S.Storage.state c.args.image.now).byte_at (g.S.Storage.state c.loop-first.image).byte_at =
    record { is = c.requires.repairable told; l1 = c.requires.l1_table.numbers told; passes = c.loop-first.invariant.passed told } in
    let broken = rw (c.loop-first.invariant.l1_table.numbers known) at (c.in_err-first-2.ensures.passed known) in
    rw (exit.1, exit.2) (breaks-joined tables c.args.flag c.loop-first.first c.in_err-first-2.field-0.0 (g.S.Storage.state c.args.image.now).byte_at (g.S.Storage.state c.loop-first.image).byte_at
    (g.S.Storage.state c.pass_window-in-loop-first.new.image).byte_at by broken)

pub loop-first-preserved : goal.loop-first-preserved
loop-first-preserved g c = record {
  passed = λ told.
      let known : IsTrue (g.S.Storage.state c.loop-first.image).tells = search rules in
      let tables : ImageTables = image_tables c.args.header.now c.args.l1_table.now.numbers c.args.reftable.now.numbers in
      let by : PassedBy tables c.args.flag (uses_between (λ k. uses_of (image_uses tables (g.S.Storage.state c.args.image.now).byte_at) k) 0 c.loop-first.first)
      (g.S.Storage.state c.args.image.now).byte_at (g.S.Storage.state c.loop-first.image).byte_at =
      record { is = c.requires.repairable told; l1 = c.requires.l1_table.numbers told; passes = c.loop-first.invariant.passed told } in
      let passes = rw (c.loop-first.invariant.l1_table.numbers known) at (c.in_ok-first-2.ensures.passed known) in
      passes-joined tables c.args.flag c.loop-first.first c.in_ok-first-2.first (g.S.Storage.state c.args.image.now).byte_at (g.S.Storage.state c.loop-first.image).byte_at
      (g.S.Storage.state c.pass_window-in-loop-first.new.image).byte_at (search rules) by passes;
  l1_table = search rules;
  kept = search rules;
  within = search rules;
  storage = search rules;
}

pub returns-clause-passed : goal.returns-clause-passed
returns-clause-passed g c = λ told.
    let tables : ImageTables = image_tables c.args.header.now c.args.l1_table.now.numbers c.args.reftable.now.numbers in
    let same : (g.S.Storage.state c.sync.new.self).byte_at ≡ (g.S.Storage.state c.loop-first.image).byte_at = search rules in
    rw same (passes-finished tables c.args.flag c.loop-first.first (g.S.Storage.state c.args.image.now).byte_at (g.S.Storage.state c.loop-first.image).byte_at
    (search rules) (c.loop-first.invariant.passed told))

pub returns-in_err-sync-clause-passed : goal.returns-in_err-sync-clause-passed
returns-in_err-sync-clause-passed g c = λ told.
    let exit = err_from_is_err_and c.from_residual-in_err-sync.result c.from_residual-in_err-sync.ensures.1 in
    let tables : ImageTables = image_tables c.args.header.now c.args.l1_table.now.numbers c.args.reftable.now.numbers in
    let passes = passes-finished tables c.args.flag c.loop-first.first (g.S.Storage.state c.args.image.now).byte_at (g.S.Storage.state c.loop-first.image).byte_at
    (search rules) (c.loop-first.invariant.passed told) in
    rw exit.1 (flags-done _ _ (g.S.Storage.state c.args.image.now).byte_at (g.S.Storage.state c.loop-first.image).byte_at
    (g.S.Storage.state c.sync.new.self).byte_at passes (search rules))
