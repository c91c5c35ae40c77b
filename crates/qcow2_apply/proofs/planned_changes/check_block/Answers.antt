use Rattle.std.proofs.Common.{rules}
use Rattle.qcow2_apply.proofs.PlannedChangesLemmas.{all-count}
use Rattle.qcow2_apply.proofs.planned_changes.check_block.Goals as goal

pub returns-clause-counts : goal.returns-clause-counts
returns-clause-counts g c = λ told.
    let left = c.in_ok-load_left.ensures.left told in
    all-count c.args.tables.now c.args.gains.now c.args.losses.now c.args.index c.in-Some.place (g.S.Storage.state c.args.image.now).byte_at
    left.risen c.in_ok-load_left.field-0.numbers c.requires.sorted (search rules) left.gained left.fits left.lost
