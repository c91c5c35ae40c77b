use Rattle.std.proofs.Common.{◌≡◌, ◌+◌, ◌-◌, ◌<◌, ◌≤◌, ◌∷◌, ◌++◌, Ok, None}
use Rattle.qcow2_base.specs.Format.{max_file_length}
use Rattle.qcow2_base.specs.Storage.{OnImage, OnlyReads}
use Rattle.qcow2_check.specs.Findings.{IsFindingsOf, MovesFindings, findings_left}
use Rattle.qcow2_session.proofs.RunsLemmas.{members}
use Rattle.qcow2_session.proofs.commands.check.runs.FindingRuns.run_from.Given as goal

-- the run has all findings that were read, the first of them first
abbrev pub invariant-loop-finding : goal.invariant-loop-finding
invariant-loop-finding g l =
    let old = g.S.Storage.state l.fn.image in
    let now = l.self-inside.findings in
    record {
      first : l.run.first ≡ l.fn.first;
      some : 0 < l.run.count;
      within : l.fn.first.cluster.0 + l.run.count ≤ now.position;
      none : l.self-inside.ahead ≡ None;
      from : l.fn.self.findings.position ≤ now.position;
      members : OnImage old (λ bytes. l.fn.first ∷ findings_left l.fn.self.findings bytes
          ≡ members l.run.first l.run.count ++ findings_left now bytes);
      kept : OnImage old (λ bytes. IsFindingsOf bytes now);
      reader : MovesFindings old l.fn.self.findings now;
      storage : OnlyReads (Ok now.position) old (g.S.Storage.state l.image);
    }

abbrev pub decreases-loop-finding : goal.decreases-loop-finding
decreases-loop-finding g l = max_file_length - l.self-inside.findings.position
