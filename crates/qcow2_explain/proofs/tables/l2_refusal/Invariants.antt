use Rattle.qcow2_base.specs.Storage.{ReadsFor}
use Rattle.qcow2_explain.proofs.tables.l2_refusal.Given as goal

-- no byte of the image has changed, and no call has failed
abbrev pub invariant-loop-l1_index : goal.invariant-loop-l1_index
invariant-loop-l1_index g l = ReadsFor ⊥ (g.S.Storage.state l.fn.image) (g.S.Storage.state l.image)
