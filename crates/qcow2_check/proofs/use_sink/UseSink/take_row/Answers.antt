use Rattle.std.proofs.Common.{[], ◌∷◌}
use Rattle.qcow2_check.proofs.SinkLemmas.{row_append}
use Rattle.qcow2_check.specs.Walk.{row_list}
use Rattle.qcow2_check.proofs.use_sink.UseSink.take_row.Goals as goal

pub loop-k-init : goal.loop-k-init
loop-k-init g c = g.met.Self.UseSink.takes_none c.args.self.now

pub loop-k-preserved : goal.loop-k-preserved
loop-k-preserved g c =
    let both = g.met.Self.UseSink.takes_both (row_list c.args.first.0 c.args.guest c.loop-k.k) (c.new.result ∷ []) c.args.self.now c.loop-k.self c.take.new.self
    c.loop-k.invariant c.in_ok-take.ensures.taken in
    rw (row_append c.args.first.0 c.args.guest c.loop-k.k) (rw c.new.ensures at both)
