use Rattle.std.proofs.Common.{refl}
use Rattle.qcow2_bytes.specs.Tables.Edit.{host_clusters}
use Rattle.qcow2_bytes.proofs.EditLemmas.{put-next}
use Rattle.qcow2_bytes.proofs.tables.edit.put_freed.Goals as goal

pub loop-index-preserved : goal.loop-index-preserved
loop-index-preserved c =
    put-next host_clusters c.args.clusters.now c.loop-index.index _ c.args.freed.now c.loop-index.freed _ c.loop-index-test.true c.requires refl
    c.loop-index.invariant
