use Rattle.std.proofs.Common.{inl, inr, refl, arith, rules}
use Rattle.qcow2_apply.proofs.EditsByTableLemmas.{kept-are, none-listed, some-listed}
use Rattle.qcow2_apply.proofs.MadeEditsLemmas.{table-loads}
use Rattle.qcow2_apply.proofs.PassesLemmas.{none-steps, one-keeps, step-answer}
use Rattle.qcow2_apply.proofs.TablesLemmas.{are-of-clusters, l2-outside, loads-named, loads-none, no-edits}
use Rattle.qcow2_apply.specs.GuestEdits.{edits_in}
use Rattle.qcow2_apply.specs.Tables.{IsEdited, l2_tables}
use Rattle.qcow2_apply.proofs.tables.edit_at.Goals as goal

pub returns-in_default-clause-loaded : goal.returns-in_default-clause-loaded
returns-in_default-clause-loaded g c = loads-none c.args.header.now c.args.l1_table.now.numbers c.args.edits.now c.args.index _ (inl (search rules))

pub returns-then-is_empty-clause-edited : goal.returns-then-is_empty-clause-edited
returns-then-is_empty-clause-edited g c = λ apart told.
    let header = c.args.header.now in
    let image = (g.S.Storage.state c.args.image.now).byte_at in
    let ps = c.positions_in-positions.result.now in
    let listed = kept-are header c.args.l1_table.now.numbers c.args.edits.now c.args.by_table.now c.args.index c.in-Some.cluster ps c.requires.by_table (search rules)
    c.positions_in-positions.ensures in
    let none = (none-listed header.v2.cluster_bits c.args.index c.args.edits.now ps listed (search rules)).0 in
    none-steps (l2_tables header c.args.l1_table.now.numbers) (IsEdited header c.args.edits.now) c.args.index image image refl
    (λ cluster named. no-edits header c.args.edits.now c.args.index _ none)

pub returns-then-is_empty-clause-loaded : goal.returns-then-is_empty-clause-loaded
returns-then-is_empty-clause-loaded g c =
    let header = c.args.header.now in
    let ps = c.positions_in-positions.result.now in
    let listed = kept-are header c.args.l1_table.now.numbers c.args.edits.now c.args.by_table.now c.args.index c.in-Some.cluster ps c.requires.by_table (search rules)
    c.positions_in-positions.ensures in
    loads-none header c.args.l1_table.now.numbers c.args.edits.now c.args.index _ (inr (none-listed header.v2.cluster_bits c.args.index c.args.edits.now ps listed (search rules)).0)

pub edit_named-requires-clause-positions : goal.edit_named-requires-clause-positions
edit_named-requires-clause-positions g c = kept-are c.args.header.now c.args.l1_table.now.numbers c.args.edits.now c.args.by_table.now c.args.index c.in-Some.cluster
    c.positions_in-positions.result.now c.requires.by_table (search rules) c.positions_in-positions.ensures

pub returns-clause-edited : goal.returns-clause-edited
returns-clause-edited g c = λ apart told.
    let header = c.args.header.now in
    let places = l2_tables header c.args.l1_table.now.numbers in
    let before = (g.S.Storage.state c.args.image.now).byte_at in
    let after = (g.S.Storage.state c.edit_named.new.image).byte_at in
    step-answer places (IsEdited header c.args.edits.now) c.args.index c.in-Some.cluster c.edit_named.result before after
    (are-of-clusters header c.args.l1_table.now.numbers (search rules)) apart (search rules)
    (l2-outside header c.in-Some.cluster before after (search rules) (c.edit_named.ensures.storage.others told)) c.edit_named.ensures.storage.refused
    (grind (arith, told, c.edit_named.ensures.edited))

pub returns-clause-loaded : goal.returns-clause-loaded
returns-clause-loaded g c = loads-named c.args.header.now c.args.l1_table.now.numbers c.args.edits.now c.args.index c.in-Some.cluster c.edit_named.result
    (g.S.Storage.state c.args.image.now) (search rules)
    (some-listed c.args.header.now.v2.cluster_bits c.args.index c.args.edits.now c.positions_in-positions.result.now
    (kept-are c.args.header.now c.args.l1_table.now.numbers c.args.edits.now c.args.by_table.now c.args.index c.in-Some.cluster c.positions_in-positions.result.now
    c.requires.by_table (search rules) c.positions_in-positions.ensures) (search rules)).0
    (table-loads c.args.header.now (edits_in c.args.header.now.v2.cluster_bits c.args.index c.args.edits.now) c.in-Some.cluster c.edit_named.result
    (g.S.Storage.state c.args.image.now) (g.S.Storage.state c.edit_named.new.image) c.edit_named.ensures.edited)
    c.edit_named.ensures.fault

pub returns-clause-others : goal.returns-clause-others
returns-clause-others g c = λ told.
    let header = c.args.header.now in
    let before = (g.S.Storage.state c.args.image.now).byte_at in
    let after = (g.S.Storage.state c.edit_named.new.image).byte_at in
    one-keeps (l2_tables header c.args.l1_table.now.numbers) c.args.index c.in-Some.cluster before after (search rules)
    (l2-outside header c.in-Some.cluster before after (search rules) (c.edit_named.ensures.storage.others told))
