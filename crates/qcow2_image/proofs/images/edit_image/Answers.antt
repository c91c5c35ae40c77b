use Rattle.std.proofs.Common.{◌≡◌, arith, rules}
use Rattle.qcow2_metadata.specs.Header.{geometry_of}
use Rattle.std.proofs.lemmas.Result.{err_from_is_err_and}
use Rattle.qcow2_image.proofs.ImagesLemmas.{refused-edits, references-kept}
use Rattle.qcow2_image.proofs.images.edit_image.Goals as goal

pub returns-in_err-outcome-clause-faults : goal.returns-in_err-outcome-clause-faults
returns-in_err-outcome-clause-faults g c =
    let exit = err_from_is_err_and c.from_residual-in_err-outcome.result c.from_residual-in_err-outcome.ensures.1 in
    rw (exit.1, exit.2) (grind (arith, refused-edits c.args.header.now c.in_ok-table.table c.args.edits.now c.in_err-outcome.field-0.0))

pub returns-in_err-write_table_back-clause-changes : goal.returns-in_err-write_table_back-clause-changes
returns-in_err-write_table_back-clause-changes g c =
    let exit = err_from_is_err_and c.from_residual-in_err-write_table_back.result c.from_residual-in_err-write_table_back.ensures.1 in
    rw (exit.1, exit.2) (grind (arith))

pub returns-clause-changes : goal.returns-clause-changes
returns-clause-changes g c = grind (arith)

pub returns-clause-references : goal.returns-clause-references
returns-clause-references g c = λ told.
    let header = c.args.header.now in
    let same : c.edit_table.new.table.geometry ≡ geometry_of header = search rules in
    let loads = c.in_ok-write_table_back.ensures.loads (rw c.load_l2_table.ensures.reads.storage.device.tells told) in
    let stays = c.in_ok-write_table_back.ensures.storage.others (rw c.load_l2_table.ensures.reads.storage.device.tells told) in
    references-kept header c.args.cluster c.in_ok-outcome.outcome c.in_ok-table.table c.edit_table.new.table
    (g.S.Storage.state c.args.image.now).byte_at (g.S.Storage.state c.write_table_back.new.image).byte_at
    (search rules) same (c.in_ok-table.ensures.loaded.numbers told) (rw same at loads)
    (rw (c.load_l2_table.ensures.reads.storage.bytes, same) at stays) c.in_ok-outcome.ensures.balance
