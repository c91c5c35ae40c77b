use Rattle.std.proofs.Common.{◌+◌, refl, rules}
use Rattle.qcow2_apply.proofs.ChangesLemmas.{part-added, within-block}
use Rattle.qcow2_apply.proofs.changes.Changes.add_part.Goals as goal

pub returns-clause-added : goal.returns-clause-added
returns-clause-added c =
    let first = c.args.first in
    let count = c.min-count.result in
    let before = c.take_outcome-outcome.result in
    part-added c.rt_rb_indices-index.result.0 first (first + count) (record { first = record { 0 = first }; count = record { 0 = count } })
    before (record before { freed = c.push_clusters.new.list }) c.args.self.now c.take_outcome-outcome.new.self c.put_outcome.new.self
    (search rules) (search rules) refl (search rules) refl refl
    (within-block c.args.self.now.rb_bits first count c.rt_rb_indices-index.result.0 c.rt_rb_indices-index.result.1 (search rules) (search rules) (search rules))
