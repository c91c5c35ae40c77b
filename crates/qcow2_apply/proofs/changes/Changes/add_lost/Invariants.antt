use Rattle.std.proofs.Common.{◌≡◌, ◌≤◌, ◌-◌, ◌⊎◌}
use Rattle.qcow2_edits.specs.Settled.{is_between}
use Rattle.qcow2_metadata.specs.Table.L2Guards.{one_if}
use Rattle.qcow2_apply.specs.Changes.{AddsChanges}
use Rattle.qcow2_apply.proofs.changes.Changes.add_lost.Given as goal

-- the clusters before this one are counted
abbrev pub invariant-loop-first : goal.invariant-loop-first
invariant-loop-first l = record {
  added : AddsChanges (λ c. 0) (λ c. one_if (is_between l.fn.clusters.first.0 l.first c)) l.initial.self l.self;
  from : l.fn.clusters.first.0 ≤ l.first;
  end : (l.first ≤ l.end) ⊎ (l.first ≡ l.fn.clusters.first.0);
}

abbrev pub decreases-loop-first : goal.decreases-loop-first
decreases-loop-first l = l.end - l.first
