use Rattle.qcow2_metadata.proofs.TableLemmas.{lawful_if_found}
use Rattle.qcow2_metadata.proofs.table.entry_table.EntryTableTable.get_ref.Goals as goal

pub returns-clause-lawful : goal.returns-clause-lawful
returns-clause-lawful g c =
    let table = c.self.inside in
    rw (← c.self.view_is)
    (lawful_if_found g.E.TableEntry.plain (g.E.TableEntry.fault_of table.cluster_bits) table.entries.items c.args.index c.get.result c.self.invariant.entries.valid (rw c.deref.ensures.value at c.get.ensures.lookup))
