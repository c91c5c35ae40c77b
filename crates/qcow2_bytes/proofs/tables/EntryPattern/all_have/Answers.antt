use Rattle.std.proofs.Common.{◌<◌, arith}
use Rattle.qcow2_bytes.proofs.TablesLemmas.{tests_more, value_more}
use Rattle.qcow2_bytes.proofs.tables.EntryPattern.all_have.Goals as goal

pub loop-next-preserved : goal.loop-next-preserved
loop-next-preserved c =
    let pattern = c.args.self.now in
    let before = c.loop-next.invariant in
    let below : c.args.index < c.loop-next.next = omega (arith, c.requires.order, c.loop-next.auto.next) in (
      value_more pattern.value pattern.step c.args.index c.loop-next.next c.loop-next.expected below before.0,
      rw c.number_at.ensures (tests_more pattern c.args.bytes.now c.args.index c.args.first c.loop-next.next c.loop-next.expected c.loop-next.all below c.loop-next.auto.next before.0 before.1),
    )
