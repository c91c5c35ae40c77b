use Rattle.qcow2_base.specs.Storage.{OnImage}
use Rattle.qcow2_check.specs.Findings.{IsFindingsOf}
use Rattle.qcow2_check_tests.proofs.readers.read_findings.Given as goal

-- the reader reads the same image
abbrev pub invariant-loop : goal.invariant-loop
invariant-loop g l = OnImage (g.S.Storage.state l.image) (λ bytes. IsFindingsOf bytes l.findings)
