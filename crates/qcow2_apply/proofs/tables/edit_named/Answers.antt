use Rattle.std.proofs.Common.{◌≡◌, Err, Ok, ap, IfErr, subst, ◌∙◌, rules}
use Rattle.std.proofs.lemmas.Result.{err_from_is_err_and}
use Rattle.qcow2_base.specs.declared.fault.Fault.TheVariants.{Storage}
use Rattle.qcow2_check.proofs.NamedTablesLemmas.{l2_table_fits}
use Rattle.qcow2_metadata.specs.Header.{geometry_of}
use Rattle.qcow2_metadata.specs.Placed.{IsLoaded}
use Rattle.qcow2_metadata.specs.Table.{l2_layout, loaded_l2_table}
use Rattle.qcow2_apply.proofs.MadeEditsLemmas.{edits-table, left-held, left-written, reread-fault, where-told, written-alone}
use Rattle.qcow2_apply.proofs.TablesLemmas.{storage-fault, write-fails}
use Rattle.qcow2_apply.specs.GuestEdits.{edits_in}
use Rattle.qcow2_apply.proofs.tables.edit_named.Goals as goal

pub returns-in_err-reload-clause-fault : goal.returns-in_err-reload-clause-fault
returns-in_err-reload-clause-fault g c =
    let exit = err_from_is_err_and c.from_residual.result c.from_residual.ensures.1 in
    rw (exit.1, exit.2) (reread-fault c.args.table.now.geometry (geometry_of c.args.header.now) c.args.cluster (g.S.Storage.state c.args.image.now) c.in_err-reload.field-0.0
    c.requires.table.geometry c.requires.place.1 c.in_err-reload.ensures.reads.faults c.in_err-reload.ensures.memory c.in_err-reload.ensures.reads.exact)

pub returns-in_err-reload-clause-table : goal.returns-in_err-reload-clause-table
returns-in_err-reload-clause-table g c = record {
  geometry = c.in_err-reload.ensures.left.geometry ∙ c.requires.table.geometry;
  count = c.in_err-reload.ensures.left.count ∙ c.requires.table.count;
}

pub returns-clause-edited : goal.returns-clause-edited
returns-clause-edited g c =
    let header = c.args.header.now in
    let list = edits_in header.v2.cluster_bits c.args.index c.args.edits.now in
    let old = g.S.Storage.state c.args.image.now in
    let read = g.S.Storage.state c.reload.new.image in
    let new = g.S.Storage.state c.write_if_modified.new.image in
    let is = c.requires.table.geometry in
    let placed = l2_table_fits (geometry_of header) c.args.cluster c.requires.place.1 in
    let load = subst (λ of. IsLoaded (l2_layout of) of c.args.cluster old c.reload.new.self) is c.in_ok-reload.ensures.loaded in
    let held = left-held header list c.args.cluster old c.reload.new.self c.make_edits.new.table placed load c.make_edits.ensures in
    where-told c.write_if_modified.result _ _ (λ told. edits-table header list c.args.cluster c.reload.new.self c.make_edits.new.table c.write_if_modified.result old read new told
    (search rules) (search rules) load (subst (λ of. loaded_l2_table of c.args.cluster old.byte_at ≡ Ok c.reload.new.self.numbers) is (c.in_ok-reload.ensures.reads.exact told))
    c.make_edits.ensures held (λ idle. ap (λ image. (g.S.Storage.state image).byte_at) (c.write_if_modified.ensures.idle idle).2) c.write_if_modified.ensures.written)

pub returns-clause-fault : goal.returns-clause-fault
returns-clause-fault g c =
    let header = c.args.header.now in
    let list = edits_in header.v2.cluster_bits c.args.index c.args.edits.now in
    let old = g.S.Storage.state c.args.image.now in
    let placed = l2_table_fits (geometry_of header) c.args.cluster c.requires.place.1 in
    let load = subst (λ of. IsLoaded (l2_layout of) of c.args.cluster old c.reload.new.self) c.requires.table.geometry c.in_ok-reload.ensures.loaded in
    let held = left-held header list c.args.cluster old c.reload.new.self c.make_edits.new.table placed load c.make_edits.ensures in
    let failed : IfErr c.write_if_modified.result (λ fault. fault ≡ Storage) = write-fails header c.args.cluster c.make_edits.new.table c.write_if_modified.result
    (g.S.Storage.state c.reload.new.image) (g.S.Storage.state c.write_if_modified.new.image) held (λ idle. (c.write_if_modified.ensures.idle idle).0)
    c.write_if_modified.ensures.written in
    storage-fault old (λ fault bytes. loaded_l2_table (geometry_of header) c.args.cluster bytes ≡ Err fault) c.write_if_modified.result failed

pub returns-clause-storage : goal.returns-clause-storage
returns-clause-storage g c =
    let header = c.args.header.now in
    let list = edits_in header.v2.cluster_bits c.args.index c.args.edits.now in
    let old = g.S.Storage.state c.args.image.now in
    let placed = l2_table_fits (geometry_of header) c.args.cluster c.requires.place.1 in
    let load = subst (λ of. IsLoaded (l2_layout of) of c.args.cluster old c.reload.new.self) c.requires.table.geometry c.in_ok-reload.ensures.loaded in
    let held = left-held header list c.args.cluster old c.reload.new.self c.make_edits.new.table placed load c.make_edits.ensures in
    written-alone header c.args.cluster c.make_edits.new.table (tt {0}) c.write_if_modified.result old (g.S.Storage.state c.reload.new.image)
    (g.S.Storage.state c.write_if_modified.new.image) c.in_ok-reload.ensures.reads.storage held
    (λ idle. ((c.write_if_modified.ensures.idle idle).0, ap (λ image. g.S.Storage.state image) (c.write_if_modified.ensures.idle idle).2)) c.write_if_modified.ensures.written

pub returns-clause-table : goal.returns-clause-table
returns-clause-table g c = left-written c.args.header.now (edits_in c.args.header.now.v2.cluster_bits c.args.index c.args.edits.now) c.reload.new.self c.make_edits.new.table
    c.write_if_modified.new.self (search rules) (search rules) c.make_edits.ensures c.write_if_modified.ensures.flag.same
