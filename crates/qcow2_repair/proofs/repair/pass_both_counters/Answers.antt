use Rattle.std.proofs.Common.{◌≡◌, IfSome, IsTrue, inl, inr, sym, ◌∙◌, rules}
use Rattle.std.proofs.lemmas.Result.{err_from_is_err_and}
use Rattle.qcow2_check.specs.Findings.{CountsAll}
use Rattle.qcow2_check.specs.Uses.{ImageTables, image_tables}
use Rattle.qcow2_repair.proofs.RepairLemmas.{repairable-stays}
use Rattle.qcow2_repair.proofs.OrderLemmas.{l1-stays}
use Rattle.qcow2_repair.specs.Repair.{IsRepairable}
use Rattle.qcow2_repair.specs.Flags.{l1_in}
use Rattle.qcow2_repair.proofs.repair.pass_both_counters.Goals as goal

pub pass_all_counters-requires-2-clause-repairable : goal.pass_all_counters-requires-2-clause-repairable
pass_all_counters-requires-2-clause-repairable g c = λ told.
    let start : IsTrue (g.S.Storage.state c.args.image.now).tells = search rules in
    let tables : ImageTables = image_tables c.args.header.now c.args.l1_table.now.numbers c.args.reftable.now.numbers in
    let is : IsRepairable tables (g.S.Storage.state c.args.image.now).byte_at = rw (c.requires.l1_table.numbers start) (c.requires.repairable start) in
    repairable-stays tables (g.S.Storage.state c.args.image.now).byte_at (g.S.Storage.state c.pass_all_counters.new.image).byte_at is (c.in_ok-pass_all_counters.ensures.passed start).others

pub returns-in_err-pass_all_counters-clause-counters : goal.returns-in_err-pass_all_counters-clause-counters
returns-in_err-pass_all_counters-clause-counters g c = λ told.
    let exit = err_from_is_err_and c.from_residual.result c.from_residual.ensures.1 in
    rw (exit.1, exit.2) (inl (rw (c.requires.l1_table.numbers told) at (c.in_err-pass_all_counters.ensures.passed told)))

pub returns-in_err-pass_all_counters-2-clause-counters : goal.returns-in_err-pass_all_counters-2-clause-counters
returns-in_err-pass_all_counters-2-clause-counters g c = λ told.
    let exit = err_from_is_err_and c.from_residual-in_err-pass_all_counters-2.result c.from_residual-in_err-pass_all_counters-2.ensures.1 in
    let header = c.args.header.now in
    let tables : ImageTables = image_tables header c.args.l1_table.now.numbers c.args.reftable.now.numbers in
    let before = (g.S.Storage.state c.args.image.now).byte_at in
    let mid = (g.S.Storage.state c.pass_all_counters.new.image).byte_at in
    let known : IsTrue (g.S.Storage.state c.pass_all_counters.new.image).tells = search rules in
    let is : IsRepairable tables before = rw (c.requires.l1_table.numbers told) (c.requires.repairable told) in
    let raised = c.in_ok-pass_all_counters.ensures.passed told in
    let l1 : c.args.l1_table.now.numbers ≡ l1_in header mid = c.requires.l1_table.numbers told ∙ sym (l1-stays tables before mid is raised.others) in
    rw (exit.1, exit.2) (inr (mid, rw (c.requires.l1_table.numbers told) at raised, rw l1 at (c.in_err-pass_all_counters-2.ensures.passed known)))

pub returns-clause-counters : goal.returns-clause-counters
returns-clause-counters g c = λ told.
    let header = c.args.header.now in
    let tables : ImageTables = image_tables header c.args.l1_table.now.numbers c.args.reftable.now.numbers in
    let before = (g.S.Storage.state c.args.image.now).byte_at in
    let mid = (g.S.Storage.state c.pass_all_counters.new.image).byte_at in
    let known : IsTrue (g.S.Storage.state c.pass_all_counters.new.image).tells = search rules in
    let is : IsRepairable tables before = rw (c.requires.l1_table.numbers told) (c.requires.repairable told) in
    let raised = c.in_ok-pass_all_counters.ensures.passed told in
    let l1 : c.args.l1_table.now.numbers ≡ l1_in header mid = c.requires.l1_table.numbers told ∙ sym (l1-stays tables before mid is raised.others) in
    (mid, rw (c.requires.l1_table.numbers told) at raised, rw l1 at (c.in_ok-pass_all_counters-2.ensures.passed known))

pub returns-clause-l1_table : goal.returns-clause-l1_table
returns-clause-l1_table g c = record {
  numbers = λ told.
      let header = c.args.header.now in
      let start : IsTrue (g.S.Storage.state c.args.image.now).tells = search rules in
      let known : IsTrue (g.S.Storage.state c.pass_all_counters.new.image).tells = search rules in
      let tables : ImageTables = image_tables header c.args.l1_table.now.numbers c.args.reftable.now.numbers in
      let before = (g.S.Storage.state c.args.image.now).byte_at in
      let mid = (g.S.Storage.state c.pass_all_counters.new.image).byte_at in
      let after = (g.S.Storage.state c.pass_all_counters-2.new.image).byte_at in
      let is : IsRepairable tables before = rw (c.requires.l1_table.numbers start) (c.requires.repairable start) in
      let raised = c.in_ok-pass_all_counters.ensures.passed start in
      let lowered = c.in_ok-pass_all_counters-2.ensures.passed known in
      let still = repairable-stays tables before mid is raised.others in
      c.requires.l1_table.numbers start ∙ sym (l1-stays tables mid after still lowered.others ∙ l1-stays tables before mid is raised.others);
  count = search rules;
  cluster = search rules;
  unmodified = search rules;
  geometry = search rules;
}

pub returns-clause-repairable : goal.returns-clause-repairable
returns-clause-repairable g c = λ told.
    let header = c.args.header.now in
    let start : IsTrue (g.S.Storage.state c.args.image.now).tells = search rules in
    let known : IsTrue (g.S.Storage.state c.pass_all_counters.new.image).tells = search rules in
    let tables : ImageTables = image_tables header c.args.l1_table.now.numbers c.args.reftable.now.numbers in
    let before = (g.S.Storage.state c.args.image.now).byte_at in
    let mid = (g.S.Storage.state c.pass_all_counters.new.image).byte_at in
    let after = (g.S.Storage.state c.pass_all_counters-2.new.image).byte_at in
    let is : IsRepairable tables before = rw (c.requires.l1_table.numbers start) (c.requires.repairable start) in
    let raised = c.in_ok-pass_all_counters.ensures.passed start in
    let lowered = c.in_ok-pass_all_counters-2.ensures.passed known in
    let still = repairable-stays tables before mid is raised.others in
    let end = repairable-stays tables mid after still lowered.others in
    let l1 : c.args.l1_table.now.numbers ≡ l1_in header after =
    c.requires.l1_table.numbers start ∙ sym (l1-stays tables mid after still lowered.others ∙ l1-stays tables before mid is raised.others) in
    let both : IsRepairable tables after × IfSome c.pass_all_counters-2.new.kept.tally (CountsAll tables after) = (end, c.in_ok-pass_all_counters-2.ensures.kept known) in
    rw l1 at both

pub pass_all_counters-requires-2-clause-kept : goal.pass_all_counters-requires-2-clause-kept
pass_all_counters-requires-2-clause-kept g c = λ told.
    let start : IsTrue (g.S.Storage.state c.args.image.now).tells = search rules in
    c.in_ok-pass_all_counters.ensures.kept start
