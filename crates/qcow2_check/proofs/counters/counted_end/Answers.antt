use Rattle.std.proofs.Common.{◌≡◌, ◌+◌, ◌-◌, ◌*◌, ◌/◌, ◌%◌, ◌^◌, ◌<◌, ◌∙◌, IsSome, None, arith, slice_index}
use Rattle.std.proofs.Math.Nat.{mod-eq_of_lt}
use Rattle.std.proofs.lemmas.Bool.Decides.{nat_tests}
use Rattle.qcow2_check.specs.Counters.{counters_each}
use Rattle.qcow2_check.specs.NamedTables.{named_block}
use Rattle.qcow2_check.proofs.CountersLemmas.{end_fits, ends_after, ends_before}
use Rattle.qcow2_check.proofs.counters.counted_end.Goals as goal
use Rattle.qcow2_check.proofs.counters.counted_end.Goals.{then-is_some, else-is_some}

pub loop-index-preserved : goal.loop-index-preserved
loop-index-preserved c =
    let header = c.args.header.now in
    let reftable = c.args.reftable.now.numbers in
    let index = c.loop-index.index in
    elim c.if-is_some.branch [
      | then-is_some w ↦
          let below : index < 2 ^ 56 / counters_each header = grind (arith, nat_tests, c.rb_bits.ensures.value, c.min-index-end.ensures, c.loop-index-test.true) in
          let named : IsSome (named_block header.v2.cluster_bits (slice_index reftable index)) = grind (arith, nat_tests, c.requires, c.named_block.ensures, c.is_some.ensures, w.if-is_some.true) in
          let fits : (index + 1) * counters_each header % 2 ^ 64 ≡ (index + 1) * counters_each header = mod-eq_of_lt (omega (arith, end_fits (header.v2.cluster_bits + 3 - header.base.refcount_order) index below)) in
          ends_after header reftable index c.if-is_some.end below named (w.end-is ∙ rw w.rb_bits-then-is_some.ensures.value fits)
      | else-is_some w ↦
          let none : named_block header.v2.cluster_bits (slice_index reftable index) ≡ None = grind (arith, nat_tests, c.requires, c.named_block.ensures, c.is_some.ensures, w.if-is_some.false) in
          rw w.end-is (ends_before header reftable index c.loop-index.end c.loop-index.invariant none)
    ]
