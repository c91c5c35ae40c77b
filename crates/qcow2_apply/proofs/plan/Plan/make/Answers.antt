use Rattle.std.proofs.Common.{◌≤◌, IsTrue, inl, inr, rules}
use Rattle.std.proofs.lemmas.Result.{err_from_is_err_and}
use Rattle.qcow2_base.specs.Types.{IsClusterBits}
use Rattle.qcow2_check.specs.Uses.{image_tables}
use Rattle.qcow2_apply.proofs.ApplyLemmas.{breaks-in-tables, count-cleared, counters-cleared, counters-stay, ends-applying, storage-alone, gains-count, losses-count, stuck-where-apart, tables-load}
use Rattle.qcow2_apply.specs.Apply.{CanBeMade}
use Rattle.qcow2_apply.specs.Blocks.{SomeIsStuck, blocks}
use Rattle.qcow2_apply.specs.Passes.{ArePlacesApart}
use Rattle.qcow2_apply.specs.PlannedTables.{counter_tables}
use Rattle.qcow2_apply.proofs.plan.Plan.make.Goals as goal

pub returns-in_err-follow_changes-clause-fault : goal.returns-in_err-follow_changes-clause-fault
returns-in_err-follow_changes-clause-fault g c = λ apart.
    let exit = err_from_is_err_and c.from_residual.result c.from_residual.ensures.1 in
    let plan = c.args.self.now in
    let tables = image_tables c.args.header.now plan.l1_table.numbers plan.reftable.numbers in
    let state = counter_tables tables in
    let bytes = (g.S.Storage.state c.args.image.now).byte_at in
    let bits : IsClusterBits c.args.header.now.v2.cluster_bits = search rules in
    let orders : c.args.header.now.base.refcount_order ≤ 6 = search rules in
    rw (exit.1, exit.2) (λ told first can cleared. elim c.in_err-follow_changes.ensures.fault [
      | inl failed ↦ failed
      | inr stuck ↦ absurd (gains-count state plan.gains plan.losses bytes orders (g.met.S.Storage.byte_fits c.args.image.now) c.requires.plan.changes
          (count-cleared state plan.gains plan.losses first bytes (counters-cleared tables first bytes bits orders apart cleared) can.counters_count)
          (stuck.1 apart.blocks_apart told))
    ])

pub returns-in_err-edit_tables-clause-applied : goal.returns-in_err-edit_tables-clause-applied
returns-in_err-edit_tables-clause-applied g c = λ apart told.
    let exit = err_from_is_err_and c.from_residual-in_err-edit_tables.result c.from_residual-in_err-edit_tables.ensures.1 in
    let plan = c.args.self.now in
    let tables = image_tables c.args.header.now plan.l1_table.numbers plan.reftable.numbers in
    let counted = g.S.Storage.state c.follow_changes.new.image in
    let known : IsTrue counted.tells = search rules in
    rw (exit.1, exit.2) (breaks-in-tables tables c.args.edits.now plan.gains plan.losses c.in_err-edit_tables.field-0.0
    (g.S.Storage.state c.args.image.now).byte_at counted.byte_at (g.S.Storage.state c.edit_tables.new.image).byte_at
    (c.in_ok-follow_changes.ensures.followed apart.blocks_apart told) (c.in_err-edit_tables.ensures.edited apart.tables_apart known))

pub returns-in_err-edit_tables-clause-fault : goal.returns-in_err-edit_tables-clause-fault
returns-in_err-edit_tables-clause-fault g c = λ apart.
    let exit = err_from_is_err_and c.from_residual-in_err-edit_tables.result c.from_residual-in_err-edit_tables.ensures.1 in
    let plan = c.args.self.now in
    let tables = image_tables c.args.header.now plan.l1_table.numbers plan.reftable.numbers in
    let bytes = (g.S.Storage.state c.args.image.now).byte_at in
    let counted = g.S.Storage.state c.follow_changes.new.image in
    let bits : IsClusterBits c.args.header.now.v2.cluster_bits = search rules in
    rw (exit.1, exit.2) (λ told first can cleared.
    let known : IsTrue counted.tells = search rules in
    elim (c.in_err-edit_tables.ensures.loaded.fault.1 apart.tables_apart known) [
      | inl failed ↦ failed
      | inr fails ↦ absurd (tables-load c.args.edits.now tables plan.gains c.in_err-edit_tables.field-0.0 first bytes counted.byte_at bits apart
          can.tables_allow cleared (c.in_ok-follow_changes.ensures.followed apart.blocks_apart told) fails)
    ])

pub returns-clause-applied : goal.returns-clause-applied
returns-clause-applied g c = λ apart told.
    let plan = c.args.self.now in
    let tables = image_tables c.args.header.now plan.l1_table.numbers plan.reftable.numbers in
    let counted = g.S.Storage.state c.follow_changes.new.image in
    let edited = g.S.Storage.state c.edit_tables.new.image in
    let known : IsTrue counted.tells = search rules in
    let still : IsTrue edited.tells = search rules in
    ends-applying tables c.args.edits.now plan.gains plan.losses c.follow_changes-2.result (g.S.Storage.state c.args.image.now).byte_at counted.byte_at
    edited.byte_at (g.S.Storage.state c.follow_changes-2.new.image).byte_at (c.in_ok-follow_changes.ensures.followed apart.blocks_apart told)
    (c.in_ok-edit_tables.ensures.edited apart.tables_apart known) (c.follow_changes-2.ensures.followed apart.blocks_apart still)

pub returns-clause-fault : goal.returns-clause-fault
returns-clause-fault g c = λ apart.
    let plan = c.args.self.now in
    let tables = image_tables c.args.header.now plan.l1_table.numbers plan.reftable.numbers in
    let state = counter_tables tables in
    let before = g.S.Storage.state c.args.image.now in
    let counted = g.S.Storage.state c.follow_changes.new.image in
    let edited = g.S.Storage.state c.edit_tables.new.image in
    let bits : IsClusterBits c.args.header.now.v2.cluster_bits = search rules in
    let orders : c.args.header.now.base.refcount_order ≤ 6 = search rules in
    storage-alone c.follow_changes-2.result before edited (SomeIsStuck state plan.losses) (CanBeMade tables c.args.edits.now plan.gains plan.losses) (search rules)
    (λ told stuck first can cleared.
    let listed : IsTrue counted.tells = search rules in
    losses-count state plan.gains plan.losses before.byte_at counted.byte_at edited.byte_at orders (g.met.S.Storage.byte_fits c.edit_tables.new.image)
    c.requires.plan.changes (count-cleared state plan.gains plan.losses first before.byte_at (counters-cleared tables first before.byte_at bits orders apart cleared)
    can.counters_count) (c.in_ok-follow_changes.ensures.followed apart.blocks_apart told)
    (counters-stay tables counted.byte_at edited.byte_at bits orders apart (c.in_ok-edit_tables.ensures.edited apart.tables_apart listed).others) stuck)
    (stuck-where-apart c.follow_changes-2.result edited (SomeIsStuck state plan.losses) (ArePlacesApart (blocks state)) apart.blocks_apart c.follow_changes-2.ensures.fault)
