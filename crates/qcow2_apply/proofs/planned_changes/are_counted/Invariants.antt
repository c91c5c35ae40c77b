use Rattle.std.proofs.Common.{ℕ, ◌<◌, ◌≤◌, IsSome}
use Rattle.qcow2_check.specs.Counters.{block_of_cluster}
use Rattle.qcow2_apply.proofs.planned_changes.are_counted.Given as goal

-- the clusters from this one on have counters
abbrev pub invariant-loop-end : goal.invariant-loop-end
invariant-loop-end l = record {
  each : (c : ℕ) → l.end ≤ c → c < l.limit → IsSome (block_of_cluster l.counters.header l.counters.reftable c);
  within : l.end ≤ l.limit;
}

abbrev pub decreases-loop-end : goal.decreases-loop-end
decreases-loop-end l = l.end
