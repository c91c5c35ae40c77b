use Rattle.std.proofs.Common.{◌-◌, refl, rules}
use Rattle.qcow2_check.proofs.TallyLemmas.{group_counts}
use Rattle.qcow2_check.proofs.tally.Tally.add_group.Goals as goal

pub returns-then-first-self-clause-counted : goal.returns-then-first-self-clause-counted
returns-then-first-self-clause-counted c = λ added.
    rw (← c.self.view_is) (group_counts _ _ c.args.first (c.args.first - c.self.inside.first) (search rules) refl refl (c.add_group.ensures.counted added))
