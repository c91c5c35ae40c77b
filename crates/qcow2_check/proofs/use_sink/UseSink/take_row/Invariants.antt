use Rattle.qcow2_check.specs.Walk.{row_list}
use Rattle.qcow2_check.proofs.use_sink.UseSink.take_row.Given as goal

-- the clusters before this one are taken
abbrev pub invariant-loop-k : goal.invariant-loop-k
invariant-loop-k g l = g.Self.UseSink.takes (row_list l.first.0 l.guest l.k) l.initial.self l.self
