use Rattle.std.proofs.Common.{◌∙◌}
use Rattle.std.proofs.lemmas.Option.{unwrap_or-slice_get}
use Rattle.qcow2_metadata.proofs.table.entry_table.EntryTableTable.get.Goals as goal

pub returns-in-None-clause-number : goal.returns-in-None-clause-number
returns-in-None-clause-number g c =
    let past = unwrap_or-slice_get c.args.self.now.numbers c.args.index 0 in
    c.entry-in-None.ensures ∙ c.cleared.ensures.number ∙ rw (← c.in-None.ensures.number) at past
