use Rattle.std.proofs.Common.{◌≡◌, IsTrue, Some, inl, inr, arith, rules}
use Rattle.std.proofs.lemmas.Result.{err_from_is_err_and}
use Rattle.qcow2_check.specs.Findings.{CountsAll}
use Rattle.qcow2_repair.proofs.CountersLemmas.{breaks-first, breaks-here, changes-block, none-passed, others-stay, part-from, past-never}
use Rattle.qcow2_repair.proofs.RepairLemmas.{uses-stay}
use Rattle.qcow2_repair.proofs.counters.pass_from.Goals as goal

pub returns-in_default-clause-passed : goal.returns-in_default-clause-passed
returns-in_default-clause-passed g c = λ told.
    none-passed c.args.tables.now c.args.pass c.rt_rb_indices-table_index.result.0 c.rt_rb_indices-table_index.result.1 c.args.cluster c.min.result
    (g.S.Storage.state c.args.image.now).byte_at (search rules) (search rules) (search rules) (search rules)

pub returns-clause-passed : goal.returns-clause-passed
returns-clause-passed g c = λ told.
    let tables = c.args.tables.now in
    let i = c.rt_rb_indices-table_index.result.0 in
    let before = (g.S.Storage.state c.args.image.now).byte_at in
    let after = (g.S.Storage.state c.pass_block.new.image).byte_at in
    let bytes : (g.S.Storage.state c.keep.new.image).byte_at ≡ before = search rules in
    let known : IsTrue (g.S.Storage.state c.keep.new.image).tells = search rules in
    let outside = rw bytes at (c.in_ok-pass_block.ensures.storage.others known) in
    let counters = rw bytes at (c.in_ok-pass_block.ensures.counters known) in
    let kept : c.keep.new.self.tally ≡ Some c.unwrap-tally.result.now = search rules in
    let counts : CountsAll tables before c.unwrap-tally.result.now = rw kept at (c.in_ok-keep.ensures.counted told) in
    part-from tables c.args.pass i c.rt_rb_indices-table_index.result.1 c.args.cluster c.min-end.result c.in-Some.place c.unwrap-tally.result.now before after
    (c.requires.repairable told) (search rules) (search rules) (search rules) (search rules) (search rules) (search rules) (search rules) (search rules) (search rules) (search rules)

pub returns-clause-kept : goal.returns-clause-kept
returns-clause-kept g c = λ told.
    let tables = c.args.tables.now in
    let before = (g.S.Storage.state c.args.image.now).byte_at in
    let after = (g.S.Storage.state c.pass_block.new.image).byte_at in
    let bytes : (g.S.Storage.state c.keep.new.image).byte_at ≡ before = search rules in
    let known : IsTrue (g.S.Storage.state c.keep.new.image).tells = search rules in
    let outside = rw bytes at (c.in_ok-pass_block.ensures.storage.others known) in
    let change = changes-block tables c.rt_rb_indices-table_index.result.0 c.args.cluster c.in-Some.place before after (c.requires.repairable told) (search rules) (search rules) (search rules) in
    let uses = uses-stay tables before after (c.requires.repairable told) (others-stay tables c.rt_rb_indices-table_index.result.0 c.in-Some.place before after change) in
    grind (arith, uses, bytes, c.in_ok-keep.ensures.counted told)

pub returns-in_err-keep-clause-passed : goal.returns-in_err-keep-clause-passed
returns-in_err-keep-clause-passed g c = λ told.
    let exit = err_from_is_err_and c.from_residual.result c.from_residual.ensures.1 in
    rw (exit.1, exit.2) (breaks-first c.args.tables.now c.args.pass c.in_err-keep.field-0.0 (g.S.Storage.state c.args.image.now).byte_at
    (g.S.Storage.state c.keep.new.image).byte_at (search rules))

pub returns-in_err-pass_block-clause-passed : goal.returns-in_err-pass_block-clause-passed
returns-in_err-pass_block-clause-passed g c = λ told.
    let exit = err_from_is_err_and c.from_residual-in_err-pass_block.result c.from_residual-in_err-pass_block.ensures.1 in
    let tables = c.args.tables.now in
    let before = (g.S.Storage.state c.args.image.now).byte_at in
    let after = (g.S.Storage.state c.pass_block.new.image).byte_at in
    let bytes : (g.S.Storage.state c.keep.new.image).byte_at ≡ before = search rules in
    let known : IsTrue (g.S.Storage.state c.keep.new.image).tells = search rules in
    let outside = rw bytes at (c.in_err-pass_block.ensures.storage.others known) in
    let change = changes-block tables c.rt_rb_indices-table_index.result.0 c.args.cluster c.in-Some.place before after (c.requires.repairable told) (search rules) (search rules) (search rules) in
    let whole = rw bytes at c.in_err-pass_block.ensures.storage.refused in
    rw (exit.1, exit.2) (breaks-here tables c.args.pass c.rt_rb_indices-table_index.result.0 c.in-Some.place c.in_err-pass_block.field-0.0 before after change whole)

pub returns-in_err-pass_block-clause-fault : goal.returns-in_err-pass_block-clause-fault
returns-in_err-pass_block-clause-fault g c =
    let exit = err_from_is_err_and c.from_residual-in_err-pass_block.result c.from_residual-in_err-pass_block.ensures.1 in
    let kept : c.keep.new.self.tally ≡ Some c.unwrap-tally.result.now = search rules in
    rw (exit.1, exit.2) (elim c.in_err-pass_block.ensures.fault [
      | inl outside ↦ (inl (inr outside), λ told. outside)
      | inr past ↦ (
        inr past.is,
        λ told.
            let counts : CountsAll c.args.tables.now (g.S.Storage.state c.args.image.now).byte_at c.unwrap-tally.result.now = rw kept at (c.in_ok-keep.ensures.counted told) in
            absurd (past-never c.args.tables.now c.rt_rb_indices-table_index.result.0 c.rt_rb_indices-table_index.result.1 c.args.cluster c.min-end.result c.in-Some.place c.unwrap-tally.result.now
            (g.S.Storage.state c.args.image.now).byte_at c.in_err-pass_block.field-0.0 (c.requires.repairable told) (search rules) (search rules) (search rules) counts (search rules) (search rules) (search rules) (search rules) (search rules) past),
      )
    ])
