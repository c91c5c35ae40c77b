use Rattle.std.proofs.Common.{subst, rules}
use Rattle.qcow2_apply.proofs.TablesLemmas.{edits-made}
use Rattle.qcow2_apply.specs.Tables.{AreMade}
use Rattle.qcow2_apply.proofs.tables.load_outcome.Goals as goal

pub load_edited-requires-clause-fit : goal.load_edited-requires-clause-fit
load_edited-requires-clause-fit g c = subst (λ list. AreMade c.args.header.now list) (search rules)
    (edits-made c.args.header.now c.args.index c.args.edits.now c.requires.fit)
