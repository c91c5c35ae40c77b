use Rattle.std.proofs.Common.{◌∙◌, ap, inr, sym, List, ℕ, Err, Ok}
use Rattle.std.proofs.lemmas.Result.{err_from_is_err_and}
use Rattle.qcow2_edits.specs.Edits.{cluster_numbers}
use Rattle.qcow2_edits.specs.Settled.{first_counted}
use Rattle.qcow2_bytes.proofs.SettledRefcountsLemmas.{IsReadFrom, settled-answer, settled-copy}
use Rattle.qcow2_bytes.proofs.refcounts.settled.settle_refcounts.Goals as goal

pub returns-in_err-settle-clause-exact : goal.returns-in_err-settle-clause-exact
returns-in_err-settle-clause-exact c =
    let found = c.in_ok-cluster_bits.ensures in
    let exit = err_from_is_err_and c.from_residual-in_err-settle.result c.from_residual-in_err-settle.ensures.1 in
    rw (exit.1, exit.2) (inr (settled-answer c.args.bytes.now c.in_ok-cluster_bits.cluster_bits c.args.refcount_order c.args.block_index
    c.args.freed.now c.args.gained.now c.in_ok-header.header c.in_ok-block.block c.in_ok-freed_clusters.field-0.items
    c.in_ok-gained_clusters.field-0.items (Err c.in_err-settle.field-0.0)
    (record {
      found = found.exact;
      bits = found.bits;
      orders = found.order;
      size = found.size;
      header_is = c.in_ok-header.ensures.record;
      geometry = c.in_ok-block.ensures.geometry;
      numbers = c.in_ok-block.ensures.numbers;
    })
    c.in_ok-freed_clusters.ensures c.in_ok-gained_clusters.ensures c.in_err-settle.ensures.exact))

pub returns-clause-exact : goal.returns-clause-exact
returns-clause-exact c =
    let found = c.in_ok-cluster_bits.ensures in
    let cb = c.in_ok-cluster_bits.cluster_bits in
    let block = c.in_ok-block.block in
    let items = c.in_ok-freed_clusters.field-0.items in
    let hosts = c.in_ok-gained_clusters.field-0.items in
    let read : IsReadFrom c.args.bytes.now cb c.args.refcount_order c.in_ok-header.header block = record {
      found = found.exact;
      bits = found.bits;
      orders = found.order;
      size = found.size;
      header_is = c.in_ok-header.ensures.record;
      geometry = c.in_ok-block.ensures.geometry;
      numbers = c.in_ok-block.ensures.numbers;
    } in
    settled-answer c.args.bytes.now cb c.args.refcount_order c.args.block_index c.args.freed.now c.args.gained.now c.in_ok-header.header block items hosts
    (Ok c.settle.new.block) read c.in_ok-freed_clusters.ensures c.in_ok-gained_clusters.ensures c.in_ok-settle.ensures.exact
    ∙ ap (λ (ns : List ℕ). Ok ns) (sym (settled-copy c.args.bytes.now c.copy_to_bytes.new.bytes cb c.args.refcount_order
    (first_counted block c.args.block_index) c.in_ok-header.header block c.settle.new.block items (cluster_numbers hosts) read
    c.in_ok-settle.ensures.exact c.copy_to_bytes.ensures.len c.copy_to_bytes.ensures.numbers))
