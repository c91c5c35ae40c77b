use Rattle.qcow2_base.specs.Storage.{OnImage}
use Rattle.qcow2_layout.specs.Layout.{IsLayoutOf}
use Rattle.qcow2_check_tests.proofs.layout.calls.read_runs.Given as goal

-- the reader reads the same image
abbrev pub invariant-loop : goal.invariant-loop
invariant-loop g l = OnImage (g.S.Storage.state l.image) (λ bytes. IsLayoutOf bytes l.layout)
