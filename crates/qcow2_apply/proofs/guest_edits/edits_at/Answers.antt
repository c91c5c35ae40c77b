use Rattle.std.proofs.Common.{arith, ◌∙◌, rules}
use Rattle.qcow2_apply.proofs.EditsByTableLemmas.{list-next, listed-below, taken-all}
use Rattle.qcow2_apply.proofs.guest_edits.edits_at.Goals as goal

pub bounds-edits-position : goal.bounds-edits-position
bounds-edits-position c = listed-below c.args.cluster_bits c.args.l1_index c.args.edits.now c.args.positions.now c.loop-position.position-index _ c.requires.positions
    c.loop-position-test.true

pub offset_bounds-edits-position : goal.offset_bounds-edits-position
offset_bounds-edits-position c =
    let below = listed-below c.args.cluster_bits c.args.l1_index c.args.edits.now c.args.positions.now c.loop-position.position-index 0 c.requires.positions
    c.loop-position-test.true in
    search (rules, below)

pub loop-position-preserved : goal.loop-position-preserved
loop-position-preserved c = list-next c.args.cluster_bits c.args.l1_index c.args.edits.now c.args.positions.now c.loop-position.position-index _ _ c.loop-position.list.items
    c.push_edits.new.edits.items c.requires.positions c.loop-position-test.true c.loop-position.invariant c.in_ok-push_edits.ensures

pub returns : goal.returns
returns c = c.loop-position.invariant ∙ taken-all c.args.cluster_bits c.args.l1_index c.args.edits.now c.args.positions.now c.loop-position.position-index c.requires.positions
    (omega (arith, c.loop-position-test.false))
