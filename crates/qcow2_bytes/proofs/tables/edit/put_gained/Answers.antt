use Rattle.std.proofs.Common.{refl}
use Rattle.qcow2_base.specs.declared.types.HostCluster.{HostCluster}
use Rattle.qcow2_bytes.proofs.EditLemmas.{put-next}
use Rattle.qcow2_bytes.proofs.tables.edit.put_gained.Goals as goal

pub loop-index-preserved : goal.loop-index-preserved
loop-index-preserved c =
    put-next (λ (cluster : HostCluster). cluster.0) c.args.clusters.now c.loop-index.index _ c.args.gained.now c.loop-index.gained _ c.loop-index-test.true
    c.requires refl c.loop-index.invariant
