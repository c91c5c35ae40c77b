use Rattle.qcow2_metadata.specs.Header.{geometry}
use Rattle.qcow2_bytes.proofs.TablesLemmas.{joins_more}
use Rattle.qcow2_bytes.proofs.tables.join.Goals as goal

pub loop-index-preserved : goal.loop-index-preserved
loop-index-preserved c =
    joins_more (geometry c.args.cluster_bits c.args.external) c.args.first_guest_offset c.args.bytes.now c.args.extents.now c.loop-index.extents
    c.loop-index.count c.loop-index.index c.extent_at-extent.result c.loop-index.invariant c.if-count-extents.true c.extent_at-extent.ensures
