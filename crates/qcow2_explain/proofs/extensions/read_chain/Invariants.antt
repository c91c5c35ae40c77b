use Rattle.qcow2_base.specs.Storage.{ReadsFor}
use Rattle.qcow2_explain.proofs.extensions.read_chain.Given as goal

-- no byte of the image has changed, and no call has failed
abbrev pub invariant-loop : goal.invariant-loop
invariant-loop g l = ReadsFor ⊥ (g.S.Storage.state l.fn.image) (g.S.Storage.state l.image)
