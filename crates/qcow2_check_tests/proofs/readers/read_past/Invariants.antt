use Rattle.qcow2_base.specs.Storage.{OnImage}
use Rattle.qcow2_check.specs.Findings.{IsFindingsOf}
use Rattle.qcow2_check_tests.proofs.readers.read_past.Given as goal

-- the reader reads the same image
abbrev pub invariant-loop : goal.invariant-loop
invariant-loop g l = OnImage (g.S.Storage.state l.image) (λ bytes. IsFindingsOf bytes l.findings)

-- and so does the one past the end
abbrev pub invariant-loop-2 : goal.invariant-loop-2
invariant-loop-2 g l = OnImage (g.S.Storage.state l.image) (λ bytes. IsFindingsOf bytes l.past)
