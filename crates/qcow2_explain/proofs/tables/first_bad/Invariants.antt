use Rattle.qcow2_base.specs.Storage.{ReadsFor}
use Rattle.qcow2_explain.proofs.tables.first_bad.Given as goal

-- no byte of the image has changed, and no call has failed
abbrev pub invariant-loop-index : goal.invariant-loop-index
invariant-loop-index g l = ReadsFor ⊥ (g.S.Storage.state l.fn.image) (g.S.Storage.state l.image)
