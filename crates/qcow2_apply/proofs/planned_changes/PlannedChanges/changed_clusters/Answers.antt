use Rattle.std.proofs.Common.{◌≡◌, IsTrue, rules}
use Rattle.qcow2_apply.proofs.PlannedChangesLemmas.{all-can}
use Rattle.qcow2_apply.specs.ChangedClusters.{listed_blocks}
use Rattle.qcow2_apply.proofs.planned_changes.PlannedChanges.changed_clusters.Goals as goal

pub returns-clause-counts : goal.returns-clause-counts
returns-clause-counts g c = (
  search rules,
  λ told.
      let known : IsTrue (g.S.Storage.state c.list_changed.new.image).tells = search rules in
      let same : (g.S.Storage.state c.list_changed.new.image).byte_at ≡ (g.S.Storage.state c.args.image.now).byte_at = search rules in
      all-can c.args.tables.now c.args.self.now.gains c.args.self.now.losses (listed_blocks c.args.tables.now) (g.S.Storage.state c.args.image.now).byte_at
      (c.in_ok-clusters.ensures.counts told) (search rules),
)
