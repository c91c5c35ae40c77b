use Rattle.std.proofs.Common.{◌+◌, arith}
use Rattle.qcow2_apply.proofs.OrderLemmas.{end-later}
use Rattle.qcow2_apply.proofs.changed_clusters.list_group.Goals as goal

pub returns-then-are_same-clause-order : goal.returns-then-are_same-clause-order
returns-then-are_same-clause-order c = end-later c.args.first (c.args.first + 64) c.args.clusters.now (omega arith)
