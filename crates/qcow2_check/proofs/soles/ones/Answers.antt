use Rattle.std.proofs.Common.{rules}
use Rattle.qcow2_check.proofs.SolesLemmas.{bit_more}
use Rattle.qcow2_check.proofs.soles.ones.Goals as goal
use Rattle.qcow2_check.proofs.soles.ones.Goals.{then-get-eq1, else-get-eq1}

pub loop-k-preserved : goal.loop-k-preserved
loop-k-preserved c = elim c.if-get-eq1.branch [
  | then-get-eq1 w ↦ bit_more c.args.block.now.numbers c.args.first c.loop-k.word c.if-get-eq1.word c.loop-k.k (search rules) w.word-is (search rules) c.loop-k.invariant
  | else-get-eq1 w ↦ rw w.word-is c.loop-k.invariant
]
