use Rattle.std.proofs.Common.{refl, rules}
use Rattle.qcow2_apply.proofs.OrderLemmas.{ends-freed, ends-kept, ends-so, gained-next, gained-none}
use Rattle.qcow2_apply.proofs.ChangedClustersLemmas.{on-ok}
use Rattle.qcow2_apply.proofs.changed_clusters.list_cluster.Goals.{then-risen-before+in_ok-push, else-risen-before}
use Rattle.qcow2_apply.proofs.changed_clusters.list_cluster.Goals as goal

pub returns-then-after-risen-clause-order : goal.returns-then-after-risen-clause-order
returns-then-after-risen-clause-order c = λ before. ends-so c.args.cluster.0 c.if-risen-before.clusters
    (elim c.if-risen-before.branch [
      | then-risen-before+in_ok-push w ↦ gained-next c.args.cluster c.args.clusters.now c.if-risen-before.clusters (search rules) (search rules) (search rules) before
      | else-risen-before w ↦ gained-none c.args.cluster.0 c.args.clusters.now c.if-risen-before.clusters w.clusters-is before
    ])

pub returns-then-after-ne0-clause-order : goal.returns-then-after-ne0-clause-order
returns-then-after-ne0-clause-order c = λ before. ends-kept (record { cluster = c.args.cluster; counter = c.args.after }) c.if-risen-before.clusters
    (record c.if-risen-before.clusters { kept = c.push-then-after-ne0.new.self }) refl (search rules) refl
    (elim c.if-risen-before.branch [
      | then-risen-before+in_ok-push w ↦ gained-next c.args.cluster c.args.clusters.now c.if-risen-before.clusters (search rules) (search rules) (search rules) before
      | else-risen-before w ↦ gained-none c.args.cluster.0 c.args.clusters.now c.if-risen-before.clusters w.clusters-is before
    ])

pub returns-clause-order : goal.returns-clause-order
returns-clause-order c = on-ok c.push_clusters.result _ _ (λ order before. ends-freed (record { first = c.args.cluster; count = record { 0 = 1 } }) c.if-risen-before.clusters
    (record c.if-risen-before.clusters { freed = c.push_clusters.new.list }) refl c.requires.fits order refl refl
    (elim c.if-risen-before.branch [
      | then-risen-before+in_ok-push w ↦ gained-next c.args.cluster c.args.clusters.now c.if-risen-before.clusters (search rules) (search rules) (search rules) before
      | else-risen-before w ↦ gained-none c.args.cluster.0 c.args.clusters.now c.if-risen-before.clusters w.clusters-is before
    ])) c.push_clusters.ensures.order
