use Rattle.std.proofs.Common.{refl, arith}
use Rattle.qcow2_apply.proofs.ChangedClustersLemmas.{on-ok}
use Rattle.qcow2_apply.proofs.OrderLemmas.{ends-freed-row}
use Rattle.qcow2_apply.proofs.changed_clusters.push_freed.Goals as goal

pub returns-clause-order : goal.returns-clause-order
returns-clause-order c = on-ok c.push_clusters.result _ _ (λ order before. ends-freed-row (record { first = record { 0 = c.args.first }; count = record { 0 = 64 } })
    c.args.clusters.now (record c.args.clusters.now { freed = c.push_clusters.new.list }) (omega arith) c.requires.fits order refl refl before) c.push_clusters.ensures.order
