use Rattle.std.proofs.Common.{◌≤◌, ◌-◌, Ok, IfSome}
use Rattle.qcow2_base.specs.Format.{max_file_length}
use Rattle.qcow2_base.specs.Storage.{OnImage, OnImages}
use Rattle.qcow2_check.specs.Findings.{CountsAll}
use Rattle.qcow2_repair.specs.Repair.{IsRepairable}
use Rattle.qcow2_check.specs.Failures.{ReportsFailures}
use Rattle.qcow2_repair.specs.Counters.{PassesBetween}
use Rattle.qcow2_repair.proofs.counters.pass_all_counters.Given as goal

-- the counters of the clusters before this one are passed
abbrev pub invariant-loop-cluster : goal.invariant-loop-cluster
invariant-loop-cluster g l = record {
  passed : OnImages (g.S.Storage.state l.fn.image) (g.S.Storage.state l.image) (λ before after. PassesBetween l.tables l.pass 0 l.cluster before after);
  kept : OnImage (g.S.Storage.state l.image) (λ bytes. IfSome l.kept.tally (CountsAll l.tables bytes));
  repairable : OnImage (g.S.Storage.state l.image) (IsRepairable l.tables);
  within : l.cluster ≤ max_file_length;
  storage : ReportsFailures (Ok l.cluster) (g.S.Storage.state l.fn.image) (g.S.Storage.state l.image);
}

abbrev pub decreases-loop-cluster : goal.decreases-loop-cluster
decreases-loop-cluster g l = max_file_length - l.cluster
