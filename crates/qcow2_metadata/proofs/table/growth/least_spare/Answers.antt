use Rattle.std.proofs.Common.{◌≡◌, ◌+◌, ◌<◌, ◌≤◌, arith}
use Rattle.std.specs.Int.{div_ceil}
use Rattle.qcow2_base.specs.Format.{most_reftable_entries}
use Rattle.qcow2_metadata.proofs.GrowthLemmas.{least_spare-is, needed-least, possible_spare-found, possible_spare-none}
use Rattle.qcow2_metadata.specs.Table.Growth.{clusters_with, entries_with, growth_of, least_spare}
use Rattle.qcow2_metadata.proofs.table.growth.least_spare.Goals as goal

pub returns-then-entries-gt-MAX_ENTRIES-clause-spare : goal.returns-then-entries-gt-MAX_ENTRIES-clause-spare
returns-then-entries-gt-MAX_ENTRIES-clause-spare c =
    let growth = growth_of c.args.header.now c.args.len c.args.index in
    let many : most_reftable_entries < entries_with growth c.loop-len.spare = rw (c.entries_with-entries.ensures, c.l2_entries-cluster_entries.ensures.value) at c.if-entries-gt-MAX_ENTRIES.true in
    possible_spare-none growth c.loop-len.spare c.loop-len.invariant.roomy c.loop-len.invariant.least many

pub returns-then-needed-spare-clause-spare : goal.returns-then-needed-spare-clause-spare
returns-then-needed-spare-clause-spare c =
    let growth = growth_of c.args.header.now c.args.len c.args.index in
    let spare = c.loop-len.spare in
    let clusters = c.l2_entries-cluster_entries.ensures.value in
    let few : entries_with growth spare ≤ most_reftable_entries = rw (c.entries_with-entries.ensures, clusters) at c.if-entries-gt-MAX_ENTRIES.false in
    let needed : div_ceil (clusters_with growth spare + spare) growth.block_counters ≤ spare = rw (c.div_ceil-needed.ensures, c.entries_with-entries.ensures, clusters, c.rb_entries-block_counters.ensures.value) at c.if-needed-spare.true in
    possible_spare-found growth spare c.loop-len.invariant.roomy c.loop-len.invariant.least needed few

pub loop-len-preserved : goal.loop-len-preserved
loop-len-preserved c =
    let growth = growth_of c.args.header.now c.args.len c.args.index in
    let spare = c.loop-len.spare in
    let before = c.loop-len.invariant in
    let more = needed-least growth spare (least_spare growth) before.roomy before.least (least_spare-is growth before.roomy).enough in
    let needed : c.div_ceil-needed.result ≡ div_ceil (clusters_with growth spare + spare) growth.block_counters = rw (c.entries_with-entries.ensures, c.l2_entries-cluster_entries.ensures.value, c.rb_entries-block_counters.ensures.value) at c.div_ceil-needed.ensures in
    record {
      some = omega arith;
      turns = omega arith;
      least = omega (arith, needed, more);
      len = before.len;
      roomy = before.roomy;
    }

pub loop-len-smaller : goal.loop-len-smaller
loop-len-smaller c = omega (arith, (loop-len-preserved c).least, c.if-needed-spare.false)
