use Rattle.qcow2_session.proofs.OutputLemmas.{gets_more}
use Rattle.qcow2_session.proofs.commands.check.json.print_file_name.Goals as goal

pub returns-clause-text : goal.returns-clause-text
returns-clause-text g c =
    let contents = g.O.Write.contents in
    let start = c.args.out.now in
    let name = gets_more contents start c.print.new.self c.print_escaped.new.out _ _ c.print.ensures.text c.print_escaped.ensures.goes_on c.print_escaped.ensures.text in
    gets_more contents start c.print_escaped.new.out c.print-2.new.self _ _ name c.print-2.ensures.goes_on c.print-2.ensures.text
