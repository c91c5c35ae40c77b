use Rattle.std.proofs.Common.{arith, rules}
use Rattle.std.proofs.lemmas.Result.{err_from_is_err_and}
use Rattle.qcow2_metadata.specs.Entries.L2Mapping.{meaning}
use Rattle.qcow2_session.specs.Commands.Entries.{label_text}
use Rattle.qcow2_session.proofs.ListingLemmas.{table_lines-failed, table_lines-told}
use Rattle.qcow2_session.proofs.commands.entries.print_entries.Goals as goal

pub returns-in_err-print_entry : goal.returns-in_err-print_entry
returns-in_err-print_entry g c =
    let exit = err_from_is_err_and c.from_residual-in_err-print_entry.result c.from_residual-in_err-print_entry.ensures.1 in
    let table = c.args.table.now in
    let line = rw (c.from_l1_l2_indices-guest_cluster.ensures.value, c.cluster_bits-cluster_bits.ensures.value) at c.in_err-print_entry.ensures in
    rw (exit.1, exit.2) (table_lines-failed _ _ _ _ (label_text c.args.label table.geometry.cluster_bits) table.geometry c.args.l1_index table.numbers c.loop-l2_index.l2_index (meaning c.in_ok-mapping.mapping)
    (search rules) c.requires.entries (grind arith) c.loop-l2_index.invariant.printed line)

pub loop-l2_index-preserved : goal.loop-l2_index-preserved
loop-l2_index-preserved g c =
    let table = c.args.table.now in
    let cluster = rw c.cluster_bits-cluster_bits.ensures.value at c.from_l1_l2_indices-guest_cluster.ensures.value in
    let line = rw (cluster, c.cluster_bits-cluster_bits.ensures.value) at c.in_ok-print_entry.ensures.text in
    let done = table_lines-told _ _ _ (label_text c.args.label table.geometry.cluster_bits) table c.args.l1_index c.loop-l2_index.l2_index c.entries_told-l2_index.result (meaning c.in_ok-mapping.mapping)
    (search rules) c.requires.entries (rw cluster at c.in_ok-mapping.ensures.mapping) (rw cluster at c.entries_told-l2_index.ensures) c.loop-l2_index.invariant.printed line in
    record { within = done.0; printed = done.1 }
