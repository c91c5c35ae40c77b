use Rattle.std.proofs.Common.{◌-◌, Ok}
use Rattle.qcow2_base.specs.Format.{max_file_length}
use Rattle.qcow2_base.specs.Storage.{OnImage, OnlyReads}
use Rattle.qcow2_check.specs.Findings.{IsFindingsOf}
use Rattle.qcow2_explain.proofs.clusters.first_about.Given as goal

-- the reader reads the same image, of which no byte has changed
abbrev pub invariant-loop-finding : goal.invariant-loop-finding
invariant-loop-finding g l =
    let old = g.S.Storage.state l.fn.image in
    record {
      kept : OnImage (g.S.Storage.state l.image) (λ bytes. IsFindingsOf bytes l.findings);
      storage : OnlyReads (Ok l.findings.position) old (g.S.Storage.state l.image);
    }

abbrev pub decreases-loop-finding : goal.decreases-loop-finding
decreases-loop-finding g l = max_file_length - l.findings.position
