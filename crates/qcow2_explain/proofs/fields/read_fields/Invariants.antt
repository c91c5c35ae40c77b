use Rattle.qcow2_base.specs.Storage.{ReadsFor}
use Rattle.qcow2_explain.proofs.fields.read_fields.Given as goal

-- no byte of the image has changed, and no call has failed
abbrev pub invariant-loop-field : goal.invariant-loop-field
invariant-loop-field g l = ReadsFor ⊥ (g.S.Storage.state l.fn.image) (g.S.Storage.state l.image)
