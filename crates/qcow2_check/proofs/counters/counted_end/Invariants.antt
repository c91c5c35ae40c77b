use Rattle.qcow2_check.proofs.CountersLemmas.{EndsBlocks}
use Rattle.qcow2_check.proofs.counters.counted_end.Given as goal

abbrev pub invariant-loop-index : goal.invariant-loop-index
invariant-loop-index l = EndsBlocks l.header l.reftable.numbers l.index l.end
