use Rattle.std.proofs.Common.{◌≡◌, ◌-◌, ◌&&◌, Ok}
use Rattle.qcow2_base.specs.Format.{max_file_length}
use Rattle.qcow2_base.specs.Storage.{OnImage, OnlyReads}
use Rattle.qcow2_check.specs.Findings.{IsFindingsOf, MovesFindings, findings_left}
use Rattle.qcow2_repair.specs.Refusals.{are_counted, findings_refusal}
use Rattle.qcow2_repair.proofs.refusals.check_findings.Given as goal

-- no finding before those that are left is refused, and a flag says whether blocks count them
abbrev pub invariant-loop-finding : goal.invariant-loop-finding
invariant-loop-finding g l =
    let old = g.S.Storage.state l.fn.image in
    let begun = l.fn.findings in
    record {
      left : OnImage old (λ bytes. findings_refusal begun.header begun.counters.reftable (findings_left begun bytes)
          ≡ findings_refusal begun.header begun.counters.reftable (findings_left l.findings bytes));
      counted : OnImage old (λ bytes. are_counted begun.header begun.counters.reftable (findings_left begun bytes)
          ≡ (l.leaves_nothing && are_counted begun.header begun.counters.reftable (findings_left l.findings bytes)));
      kept : OnImage old (λ bytes. IsFindingsOf bytes l.findings);
      reader : MovesFindings old begun l.findings;
      storage : OnlyReads (Ok l.findings.position) old (g.S.Storage.state l.image);
    }

abbrev pub decreases-loop-finding : goal.decreases-loop-finding
decreases-loop-finding g l = max_file_length - l.findings.position
