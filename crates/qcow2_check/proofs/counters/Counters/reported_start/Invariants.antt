use Rattle.std.proofs.Common.{ℕ, ◌-◌, ◌≤◌}
use Rattle.qcow2_base.specs.Storage.{Image}
use Rattle.qcow2_check.specs.Counters.{ReportNone}
use Rattle.qcow2_check.proofs.counters.Counters.reported_start.Given as goal

-- nothing is reported of the clusters before the one that was reached
abbrev pub invariant-loop-passed : goal.invariant-loop-passed
invariant-loop-passed l = record {
  from : l.fn.from.0 ≤ l.passed;
  order : l.passed ≤ l.start;
  within : l.start ≤ l.limit;
  none : (image : Image) → ReportNone l.self image l.fn.from.0 l.start;
}

abbrev pub decreases-loop-passed : goal.decreases-loop-passed
decreases-loop-passed l = l.limit - l.passed
