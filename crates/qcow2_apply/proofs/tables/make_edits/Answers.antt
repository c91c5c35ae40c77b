use Rattle.std.proofs.Common.{arith, rules, subst}
use Rattle.qcow2_apply.proofs.EditsByTableLemmas.{listed-below, taken-all}
use Rattle.qcow2_apply.proofs.MadeEditsLemmas.{all-fit-at, left-none, left-of, left-more}
use Rattle.qcow2_apply.specs.Tables.{IsLeftBy}
use Rattle.qcow2_apply.proofs.tables.make_edits.Goals as goal

pub loop-position-init : goal.loop-position-init
loop-position-init c = left-none c.args.header.now c.args.table.now

pub bounds-edits-position : goal.bounds-edits-position
bounds-edits-position c = listed-below c.args.header.now.v2.cluster_bits c.args.index c.args.edits.now c.args.positions.now c.loop-position.position-index _ c.requires.positions
    c.loop-position-test.true

pub offset_bounds-edits-position : goal.offset_bounds-edits-position
offset_bounds-edits-position c =
    let below = listed-below c.args.header.now.v2.cluster_bits c.args.index c.args.edits.now c.args.positions.now c.loop-position.position-index 0 c.requires.positions
    c.loop-position-test.true in
    search (rules, below)

pub make_in-requires-clause-table : goal.make_in-requires-clause-table
make_in-requires-clause-table c = left-of c.args.header.now _ c.args.table.now c.loop-position.table c.requires.table c.loop-position.invariant

pub make_in-requires-clause-fits : goal.make_in-requires-clause-fits
make_in-requires-clause-fits c = all-fit-at c.args.header.now c.args.edits.now _ _ c.requires.fit
    (listed-below c.args.header.now.v2.cluster_bits c.args.index c.args.edits.now c.args.positions.now c.loop-position.position-index _ c.requires.positions
    c.loop-position-test.true)

pub loop-position-preserved : goal.loop-position-preserved
loop-position-preserved c = left-more c.args.header.now c.args.index c.args.edits.now c.args.positions.now c.loop-position.position-index _ _ c.args.table.now c.loop-position.table
    c.make_in.new.table c.requires.positions c.loop-position-test.true c.loop-position.invariant c.make_in.ensures

pub returns : goal.returns
returns c = subst (λ edits. IsLeftBy c.args.header.now edits c.args.table.now c.loop-position.table)
    (taken-all c.args.header.now.v2.cluster_bits c.args.index c.args.edits.now c.args.positions.now c.loop-position.position-index c.requires.positions
    (omega (arith, c.loop-position-test.false))) c.loop-position.invariant
