use Rattle.qcow2_apply.proofs.MappedClustersLemmas.{holds-more}
use Rattle.qcow2_apply.proofs.mapped_clusters.MappedClusters.of.Goals as goal

pub loop-edit-preserved : goal.loop-edit-preserved
loop-edit-preserved c = holds-more c.args.edits.now c.loop-edit.edit-index _ c.loop-edit.mapped c.add.new.self
    c.loop-edit-test.true c.loop-edit.invariant c.in_ok-add.ensures
