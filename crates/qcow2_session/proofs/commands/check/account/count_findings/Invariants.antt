use Rattle.std.proofs.Common.{◌≡◌, ◌-◌, ◌≤◌, ◌++◌, List, Ok}
use Rattle.qcow2_base.specs.Format.{max_file_length}
use Rattle.qcow2_base.specs.Storage.{OnImage, OnlyReads}
use Rattle.qcow2_summary.proofs.ImageEndLemmas.{last_below}
use Rattle.qcow2_check.specs.Findings.{IsFindingsOf, MovesFindings, findings_left}
use Rattle.qcow2_check.specs.Totals.{finding_totals}
use Rattle.qcow2_check.specs.declared.findings.Finding.{Finding}
use Rattle.qcow2_session.proofs.commands.check.account.count_findings.Given as goal

-- the findings before those that are left are counted, and the end of all is found by theirs
abbrev pub invariant-loop-finding : goal.invariant-loop-finding
invariant-loop-finding g l =
    let old = g.S.Storage.state l.fn.image in
    record {
      counted : OnImage old (λ bytes. (counted : List Finding)
          × (findings_left l.fn.findings bytes ≡ counted ++ findings_left l.findings bytes) × (l.found.totals ≡ finding_totals counted));
      end : OnImage old (λ bytes. last_below l.limit l.found.end (findings_left l.findings bytes)
          ≡ last_below l.limit 0 (findings_left l.fn.findings bytes));
      within : l.found.end ≤ l.limit;
      kept : OnImage old (λ bytes. IsFindingsOf bytes l.findings);
      reader : MovesFindings old l.fn.findings l.findings;
      storage : OnlyReads (Ok l.findings.position) old (g.S.Storage.state l.image);
    }

abbrev pub decreases-loop-finding : goal.decreases-loop-finding
decreases-loop-finding g l = max_file_length - l.findings.position
