use Rattle.std.proofs.Common.{arith, rules}
use Rattle.qcow2_metadata.proofs.OneEntryLemmas.{WritesEntry-of, group-fits, part-few}
use Rattle.qcow2_metadata.proofs.table.Table.write_entry.Goals as goal
use Rattle.std.proofs.lemmas.Bool.Decides.{nat_tests}

pub write_entries-requires-clause-count : goal.write_entries-requires-clause-count
write_entries-requires-clause-count g c =
    (part-few c.cluster_bits-cluster_bits.result c.entries_at_once-count.result c.cluster_bits-cluster_bits.ensures.range.1 c.entries_at_once-count.ensures.part).1

pub write_entries-requires-clause-fits : goal.write_entries-requires-clause-fits
write_entries-requires-clause-fits g c = grind (arith, nat_tests, group-fits, part-few)

pub returns-clause-written : goal.returns-clause-written
returns-clause-written g c =
    let bits = c.cluster_bits-cluster_bits.ensures in
    let count = c.entries_at_once-count.ensures in
    WritesEntry-of g.Self.Table.kind c.args.index (g.Self.Table.state c.args.self.now) c.in-Some.cluster c.write_entries.result _ _ (search rules) (search rules)
    (rw bits.value at bits.range.1) (rw (count.count, bits.value) at count.part) (rw (c.in_ok-offset.ensures.offset, count.count, bits.value) at c.write_entries.ensures)
