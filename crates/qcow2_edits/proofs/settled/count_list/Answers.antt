use Rattle.std.proofs.Common.{◌+◌, subst, take, rules}
use Rattle.qcow2_edits.specs.Settled.{ChangesBlock, SomeLeavesRange, change_in, times_counted}
use Rattle.qcow2_edits.proofs.SettledLemmas.{changes-twice, list-short, times-more, times-within}
use Rattle.qcow2_edits.proofs.settled.count_list.Goals as goal
use Rattle.qcow2_metadata.specs.Table.L2Guards.{one_if}
use Rattle.qcow2_metadata.specs.Entries.{is_among}
use Rattle.qcow2_metadata.specs.declared.entries.ClustersToFreeEntry.{ClustersToFreeEntry}

pub returns-in-Err-clause-out_of_range : goal.returns-in-Err-clause-out_of_range
returns-in-Err-clause-out_of_range g c =
    let clusters = g.C.Counted.clusters in
    let list = c.args.list.now in
    let item = c.index-list-at.result in
    list-short (change_in c.args.direction) (times_counted clusters (take c.loop-at.at list) c.args.first) (λ i. one_if (is_among (clusters item) (c.args.first + i))) (times_counted clusters list c.args.first) c.args.block.now c.loop-at.block
    c.loop-at.invariant.counters (λ i. times-within clusters list c.loop-at.at item c.args.first i c.loop-at-test.true c.index-list-at.is)
    (subst (λ (some : ClustersToFreeEntry). SomeLeavesRange (change_in c.args.direction) (λ i. one_if (is_among some (c.args.first + i))) c.loop-at.block) c.clusters.ensures c.in-Err.ensures.out_of_range)

pub loop-at-preserved : goal.loop-at-preserved
loop-at-preserved g c =
    let clusters = g.C.Counted.clusters in
    let list = c.args.list.now in
    let at = c.loop-at.at in
    let item = c.index-list-at.result in
    changes-twice (change_in c.args.direction) (times_counted clusters (take at list) c.args.first) (λ i. one_if (is_among (clusters item) (c.args.first + i)))
    (times_counted clusters (take (at + 1) list) c.args.first) c.args.block.now c.loop-at.block c.count_clusters.new.block
    (λ i below. times-more clusters list at item c.args.first i c.loop-at-test.true c.index-list-at.is) c.loop-at.invariant
    (subst (λ (some : ClustersToFreeEntry). ChangesBlock (change_in c.args.direction) (λ i. one_if (is_among some (c.args.first + i))) c.loop-at.block c.count_clusters.new.block) c.clusters.ensures (search rules))
