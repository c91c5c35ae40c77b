use Rattle.qcow2_edits.proofs.EditsLemmas.{IsPartWay}
use Rattle.qcow2_edits.proofs.edits.make_edits.Given as goal

abbrev pub invariant-loop-edit : goal.invariant-loop-edit
invariant-loop-edit l = IsPartWay l.edits l.edit-index l.initial.table l.table l.outcome
