use Rattle.std.proofs.Common.{refl, rules, arith}
use Rattle.qcow2_apply.proofs.BlocksLemmas.{are-of-clusters, idle-follows}
use Rattle.qcow2_apply.proofs.CounterTablesLemmas.{place-at}
use Rattle.qcow2_apply.proofs.PassesLemmas.{none-steps, one-keeps, step-answer}
use Rattle.qcow2_apply.specs.CounterTables.{BlockFollows, NamesBlock}
use Rattle.qcow2_apply.specs.Blocks.{blocks}
use Rattle.qcow2_apply.proofs.blocks.follow_at.Goals as goal

pub returns-in_default-clause-followed : goal.returns-in_default-clause-followed
returns-in_default-clause-followed g c = λ apart told. let tables = c.args.tables.now in let image = (g.S.Storage.state c.args.image.now).byte_at in
    none-steps (blocks tables) (BlockFollows tables c.args.changes.now) c.args.index image image refl
    (λ block named. idle-follows tables c.args.changes.now c.args.index block image c.requires.bits (search rules))

pub follow_block-requires-clause-place : goal.follow_block-requires-clause-place
follow_block-requires-clause-place g c = place-at c.args.tables.now c.args.index c.in-Some-named_block.cluster (search rules) (search rules)

pub returns-clause-followed : goal.returns-clause-followed
returns-clause-followed g c = λ apart told.
    let tables = c.args.tables.now in
    let before = (g.S.Storage.state c.args.image.now).byte_at in
    let after = (g.S.Storage.state c.follow_block.new.image).byte_at in
    let outside = c.follow_block.ensures.storage.others told in
    step-answer (blocks tables) (BlockFollows tables c.args.changes.now) c.args.index c.in-Some-named_block.cluster c.follow_block.result before after
    (are-of-clusters tables (search rules) (search rules)) apart (search rules) (search rules) c.follow_block.ensures.storage.refused
    (grind (arith, told, c.follow_block.ensures.followed))

pub returns-clause-fault : goal.returns-clause-fault
returns-clause-fault g c = let named : NamesBlock c.args.tables.now c.args.index c.in-Some-named_block.cluster = search rules in
    grind (arith, named, c.follow_block.ensures.fault)

pub returns-clause-others : goal.returns-clause-others
returns-clause-others g c = λ told.
    let tables = c.args.tables.now in
    let before = (g.S.Storage.state c.args.image.now).byte_at in
    let after = (g.S.Storage.state c.follow_block.new.image).byte_at in
    let outside = c.follow_block.ensures.storage.others told in
    one-keeps (blocks tables) c.args.index c.in-Some-named_block.cluster before after (search rules) (search rules)
