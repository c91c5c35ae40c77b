use Rattle.std.proofs.Common.{◌-◌, refl, rules}
use Rattle.qcow2_layout.proofs.WindowLemmas.{group_places}
use Rattle.qcow2_layout.proofs.window.Window.put_row.Goals as goal

pub returns-then-first-self-clause-placed : goal.returns-then-first-self-clause-placed
returns-then-first-self-clause-placed c = λ placed.
    rw (← c.self.view_is) (group_places _ _ c.args.first (c.args.first - c.self.inside.first) c.args.guest (search rules) refl c.requires refl (c.put_group.ensures.placed placed))
