use Rattle.std.proofs.Common.{flat_map, rules}
use Rattle.std.proofs.lemmas.Grind.{flat_map-append}
use Rattle.std.proofs.lemmas.Result.{err_from_is_err_and}
use Rattle.std.specs.Io.KnownBytes.{Appends}
use Rattle.qcow2_session.proofs.PrintingLemmas.{prints_no-more, then_prints}
use Rattle.qcow2_session.specs.Commands.Printing.{PrintsText}
use Rattle.qcow2_session.specs.Commands.Tables.{table_line}
use Rattle.qcow2_session.proofs.commands.tables.print_rows.Goals as goal

pub returns-in_err-print_lines : goal.returns-in_err-print_lines
returns-in_err-print_lines g c =
    let rows = c.args.rows.now in
    let exit = err_from_is_err_and c.from_residual.result c.from_residual.ensures.1 in
    let failed : PrintsText c.print_lines.result (g.O.Write.contents c.args.out.now) (g.O.Write.contents c.print_lines.new.out) (flat_map table_line rows.mapping) = search rules in
    rw (flat_map-append table_line rows.mapping rows.counting, exit.1, exit.2) (prints_no-more _ _ _ _ (flat_map table_line rows.counting) (rw c.in_err-print_lines.was at failed))

pub returns : goal.returns
returns g c =
    let rows = c.args.rows.now in
    let first : Appends (g.O.Write.contents c.args.out.now) (g.O.Write.contents c.print_lines.new.out) (flat_map table_line rows.mapping) = search rules in
    let last : PrintsText c.print_lines-2.result (g.O.Write.contents c.print_lines.new.out) (g.O.Write.contents c.print_lines-2.new.out) (flat_map table_line rows.counting) = search rules in
    rw (flat_map-append table_line rows.mapping rows.counting) (then_prints _ _ _ _ _ _ first last)
