use Rattle.std.proofs.Common.{◌≡◌, ◌*◌, ◌-◌, ◌^◌, ◌≤◌, arith}
use Rattle.qcow2_image.proofs.ExtentsLemmas.{no_table_after, no_table_before, reaches_next, shift_fits, table_at_end}
use Rattle.qcow2_image.proofs.extents.gap_end.Goals as goal

pub returns-in-Some-clause-some : goal.returns-in-Some-clause-some
returns-in-Some-clause-some c = grind (arith, reaches_next, shift_fits)

pub returns-in-Some-clause-none : goal.returns-in-Some-clause-none
returns-in-Some-clause-none c =
    let bits = c.cluster_bits-cluster_bits.ensures in
    let cb = c.args.l1_table.now.geometry.cluster_bits in
    let told = rw (c.l1_index-index.ensures, bits.value) at c.in-Some.ensures.2 in
    let shift = shift_fits c.cluster_bits-cluster_bits.result bits.range.1 in
    let end : c.min.result ≤ c.in-Some.next * 2 ^ (2 * c.cluster_bits-cluster_bits.result - 3) = omega (arith, rw shift at c.saturating_mul.ensures, c.min.ensures) in
    no_table_before cb c.args.l1_table.now.numbers c.args.from c.in-Some.next c.min.result (rw bits.value at bits.range.0) c.requires.none
    (rw bits.value at end) told

pub returns-in-Some-clause-ends : goal.returns-in-Some-clause-ends
returns-in-Some-clause-ends c = λ before.
    let bits = c.cluster_bits-cluster_bits.ensures in
    let cb = c.args.l1_table.now.geometry.cluster_bits in
    let shift = shift_fits c.cluster_bits-cluster_bits.result bits.range.1 in
    let end : c.min.result ≡ c.in-Some.next * 2 ^ (2 * c.cluster_bits-cluster_bits.result - 3) = omega (arith, rw shift at c.saturating_mul.ensures, c.min.ensures, before, c.ranges.size) in
    table_at_end cb c.args.l1_table.now.numbers c.in-Some.next c.min.result (rw bits.value at bits.range.0) (rw bits.value at end) c.in-Some.ensures.1

pub returns-in-None-clause-none : goal.returns-in-None-clause-none
returns-in-None-clause-none c =
    let bits = c.cluster_bits-cluster_bits.ensures in
    no_table_after c.args.l1_table.now.geometry.cluster_bits c.args.l1_table.now.numbers c.args.from c.args.size c.requires.none
    (rw (c.l1_index-index.ensures, bits.value) at c.in-None.ensures)
