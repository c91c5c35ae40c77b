use Rattle.std.proofs.Common.{rules}
use Rattle.std.proofs.Math.Nat.{zero-add}
use Rattle.qcow2_check.proofs.SinkLemmas.{takes_next}
use Rattle.qcow2_check.specs.Walk.{block_list}
use Rattle.qcow2_check.proofs.walk.walk_blocks.Goals as goal

pub loop-index-preserved : goal.loop-index-preserved
loop-index-preserved g c =
    let table = c.args.reftable.now in
    takes_next g.U.UseSink.takes g.met.U.UseSink.takes_both (block_list table.geometry.cluster_bits) 0 table.numbers c.loop-index.index
    c.args.sink.now c.loop-index.sink c.take_block.new.sink (search rules) c.loop-index.invariant
    (rw (zero-add c.loop-index.index) c.in_ok-take_block.ensures.taken)
