use Rattle.qcow2_layout.proofs.WindowLemmas.{places_all}
use Rattle.qcow2_layout.proofs.windows.Windows.place.Goals as goal

pub returns-clause-placed : goal.returns-clause-placed
returns-clause-placed g c = λ told.
    places_all c.args.tables.now (g.S.Storage.state c.args.image.now).byte_at
    c.in_ok-unused.unused c.in_ok-window.window c.in_ok-unused.ensures.begun.3 (c.in_ok-window.ensures.placed told)
