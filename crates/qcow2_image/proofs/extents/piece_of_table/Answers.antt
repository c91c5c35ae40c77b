use Rattle.qcow2_metadata.specs.Entries.L2Mapping.{meaning}
use Rattle.qcow2_image.proofs.ExtentsLemmas.{piece_of_run}
use Rattle.qcow2_image.proofs.extents.piece_of_table.Goals as goal

pub returns-clause-piece : goal.returns-clause-piece
returns-clause-piece c =
    let bits = rw c.table.ensures at c.cluster_bits-cluster_bits.ensures.value in
    piece_of_run c.args.kept.now c.args.from c.args.size _ c.cluster-guest_cluster.result.0 c.in_cluster_offset-distance.result c.run_length.result.0 c.min.result
    (meaning c.in_ok-mapping.mapping) c.within-content.result c.requires bits (rw bits at c.cluster-guest_cluster.ensures) (rw bits at c.in_cluster_offset-distance.ensures)
    c.run_length.ensures.run (rw c.table-2.ensures at c.in_ok-mapping.ensures.mapping) c.within-content.ensures (rw (c.byte_size.ensures, bits) at c.min.ensures)
