use Rattle.qcow2_edits.proofs.EditsLemmas.{part_way-next}
use Rattle.qcow2_edits.proofs.edits.make_edits.Goals as goal

pub loop-edit-preserved : goal.loop-edit-preserved
loop-edit-preserved c =
    part_way-next c.args.edits.now c.loop-edit.edit-index _ c.args.table.now c.loop-edit.table c.make.new.table
    c.make.result c.loop-edit.outcome c.push.new.self c.loop-edit-test.true c.loop-edit.invariant c.make.ensures
    c.push.ensures.gained c.push.ensures.freed c.push.ensures.room
