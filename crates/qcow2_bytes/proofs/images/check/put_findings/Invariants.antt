use Rattle.std.proofs.Common.{◌≡◌, ◌-◌, ◌++◌, List, Ok, map}
use Rattle.qcow2_base.specs.Format.{max_file_length}
use Rattle.qcow2_base.specs.Storage.{OnImage, OnlyReads}
use Rattle.qcow2_check.specs.Findings.{IsFindingsOf, MovesFindings, findings_left}
use Rattle.qcow2_check.specs.declared.findings.Finding.{Finding}
use Rattle.qcow2_bytes.proofs.CheckLemmas.{Counted}
use Rattle.qcow2_bytes.specs.Images.Check.{AreFirstPut, finding_fields}
use Rattle.qcow2_bytes.proofs.images.check.put_findings.Given as goal

-- the findings before those that are left are counted, and put as far as there is room
abbrev pub invariant-loop-finding : goal.invariant-loop-finding
invariant-loop-finding g l =
    let old = g.S.Storage.state l.fn.image in
    record {
      counted : OnImage old (λ bytes. (counted : List Finding)
          × (findings_left l.fn.reader bytes ≡ counted ++ findings_left l.reader bytes)
          × Counted counted l.count l.totals × AreFirstPut (map finding_fields counted) l.fn.findings l.findings);
      kept : OnImage old (λ bytes. IsFindingsOf bytes l.reader);
      reader : MovesFindings old l.fn.reader l.reader;
      storage : OnlyReads (Ok l.reader.position) old (g.S.Storage.state l.image);
    }

abbrev pub decreases-loop-finding : goal.decreases-loop-finding
decreases-loop-finding g l = max_file_length - l.reader.position
