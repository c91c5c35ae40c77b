use Rattle.std.proofs.Common.{◌∙◌}
use Rattle.qcow2_image.proofs.KeptTableLemmas.{run_again}
use Rattle.qcow2_image.proofs.kept_table.KeptTable.run_length.Goals as goal

pub invariant_of-self : goal.invariant_of-self
invariant_of-self c = λ cluster at some.
    run_again c.self.inside.table c.args.guest_cluster.0 cluster c.run_length-length.result.0 c.run_length-length.ensures
    (at ∙ rw c.cluster_bits.ensures.value at c.l2_index-index.ensures)
