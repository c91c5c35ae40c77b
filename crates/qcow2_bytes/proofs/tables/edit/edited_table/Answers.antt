use Rattle.std.proofs.Common.{◌∙◌, Ok}
use Rattle.qcow2_edits.specs.Edits.{edits_left}
use Rattle.qcow2_metadata.specs.Header.{geometry}
use Rattle.qcow2_bytes.proofs.EditLemmas.{run-loaded}
use Rattle.qcow2_bytes.proofs.tables.edit.edited_table.Goals as goal

pub returns-clause-exact : goal.returns-clause-exact
returns-clause-exact c =
    run-loaded (geometry c.args.cluster_bits c.args.external) c.args.edits.now c.args.bytes.now c.in_ok-table.table c.as_slice.result.now
    (Ok (edits_left c.edit_table.new.table c.in_ok-outcome.outcome)) c.in_ok-table.ensures.geometry c.in_ok-table.ensures.numbers
    (c.as_slice.ensures.value ∙ c.in_ok-edits.ensures) c.in_ok-outcome.ensures.exact
