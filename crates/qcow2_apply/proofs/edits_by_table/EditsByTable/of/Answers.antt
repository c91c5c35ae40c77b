use Rattle.qcow2_apply.proofs.EditsByTableLemmas.{positions-next}
use Rattle.qcow2_apply.proofs.MadeEditsLemmas.{all-fit-at}
use Rattle.qcow2_apply.specs.EditsByTable.{kept_positions}
use Rattle.qcow2_apply.proofs.edits_by_table.EditsByTable.of.Goals as goal

pub add-requires-clause-fits : goal.add-requires-clause-fits
add-requires-clause-fits c = all-fit-at c.args.header.now c.args.edits.now c.loop-position.position _ c.requires.fit c.loop-position-test.true

pub loop-position-preserved : goal.loop-position-preserved
loop-position-preserved c = λ i named. positions-next c.args.header.now.v2.cluster_bits i c.args.edits.now c.loop-position.position _
    (kept_positions c.loop-position.by_table i) (kept_positions c.add.new.self i) c.loop-position-test.true (c.loop-position.invariant i named)
    (c.in_ok-add.ensures.kept i named)
