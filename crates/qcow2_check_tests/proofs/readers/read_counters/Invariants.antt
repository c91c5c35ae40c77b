use Rattle.qcow2_base.specs.Storage.{OnImage}
use Rattle.qcow2_check.specs.Counters.{IsKeptBlockOf}
use Rattle.qcow2_check_tests.proofs.readers.read_counters.Given as goal

-- the reader reads the same image
abbrev pub invariant-loop-cluster : goal.invariant-loop-cluster
invariant-loop-cluster g l = OnImage (g.S.Storage.state l.image) (λ bytes. IsKeptBlockOf l.counters.header bytes l.counters.block)
