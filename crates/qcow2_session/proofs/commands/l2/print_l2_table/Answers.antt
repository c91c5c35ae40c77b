use Rattle.std.proofs.Common.{rules}
use Rattle.std.proofs.lemmas.Result.{err_from_is_err_and}
use Rattle.qcow2_metadata.specs.Header.{geometry_of}
use Rattle.qcow2_metadata.specs.Table.{loaded_l2_table}
use Rattle.qcow2_session.proofs.PrintingLemmas.{Prints-refused}
use Rattle.qcow2_session.specs.Commands.Entries.{table_lines}
use Rattle.qcow2_session.specs.declared.commands.entries.Label.TheVariants.{Index}
use Rattle.qcow2_session.proofs.commands.l2.print_l2_table.Goals as goal

pub returns-in_err-table-clause-prints : goal.returns-in_err-table-clause-prints
returns-in_err-table-clause-prints g c =
    let left = err_from_is_err_and c.from_residual.result c.from_residual.ensures.1 in
    let bits = geometry_of c.args.header.now in
    rw left.1 (Prints-refused _ (loaded_l2_table bits c.args.cluster) (table_lines Index bits 0) _ _ _ _ _
    (λ told. search rules) (λ storage. search rules))
