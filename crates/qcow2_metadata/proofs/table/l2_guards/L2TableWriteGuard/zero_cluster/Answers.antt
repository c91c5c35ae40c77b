use Rattle.std.proofs.Common.{arith}
use Rattle.std.proofs.lemmas.Bool.Decides.{nat_tests}
use Rattle.qcow2_metadata.specs.Table.L2Guards.{guarded_table}
use Rattle.qcow2_metadata.proofs.L2GuardsLemmas.{zeros-lawful}
use Rattle.qcow2_metadata.proofs.table.l2_guards.L2TableWriteGuard.zero_cluster.Goals as goal
use Rattle.qcow2_metadata.proofs.table.l2_guards.L2TableWriteGuard.zero_cluster.Goals.{else-keep_allocation-via-then-keep_allocation+else-has_host_cluster, else-keep_allocation-via-else-keep_allocation}

pub replace_entry-requires-clause-valid : goal.replace_entry-requires-clause-valid
replace_entry-requires-clause-valid c =
    let has = c.has_host_cluster.ensures (guarded_table c.args.self.now).geometry.cluster_bits in
    grind (arith, nat_tests, has, zeros-lawful)

pub returns-then-has_host_cluster-clause-edit : goal.returns-then-has_host_cluster-clause-edit
returns-then-has_host_cluster-clause-edit c =
    let has = c.has_host_cluster.ensures (guarded_table c.args.self.now).geometry.cluster_bits in
    grind (arith, nat_tests, has)

pub returns-clause-edit : goal.returns-clause-edit
returns-clause-edit c =
    elim c.else-keep_allocation.branch [
      | else-keep_allocation-via-then-keep_allocation+else-has_host_cluster w ↦
          let has = w.has_host_cluster.ensures (guarded_table c.args.self.now).geometry.cluster_bits in
          grind (arith, nat_tests, has)
      | else-keep_allocation-via-else-keep_allocation w ↦ grind (arith, nat_tests)
    ]
