use Rattle.std.proofs.Common.{◌≡◌, rules}
use Rattle.qcow2_metadata.proofs.table.l2_guards.L2TableWriteGuard.allocation_of.Goals as goal

pub returns : goal.returns
returns c =
    let table = c.args.self.now.table.now in
    let bits : c.cluster_bits.result ≡ table.geometry.cluster_bits = search rules in
    let external : c.external_data_file-external_data_file.result ≡ table.geometry.external_data_file = search rules in
    rw (bits, external) at c.in_ok-first.ensures
