use Rattle.std.proofs.lemmas.Bool.Decides.{nat_tests}
use Rattle.std.proofs.Common.{arith}
use Rattle.qcow2_metadata.proofs.RefblockLemmas.{counter_holds, set-valid}
use Rattle.qcow2_metadata.proofs.refblock.RefBlock.set.Goals as goal

pub set-requires-clause-fits : goal.set-requires-clause-fits
set-requires-clause-fits c = grind (arith, nat_tests, counter_holds)

pub invariant_of-self : goal.invariant_of-self
invariant_of-self c =
    let block = c.self.inside in (
      c.set.ensures.order _ c.self.invariant.0,
      set-valid block.cluster_bits block.refcount_order block.placement.cluster block.counters c.set.new.self c.args.index
          c.args.counter c.self.invariant.1 c.set.ensures.numbers (rw (← c.self.view_is) at c.requires.counter),
    )
