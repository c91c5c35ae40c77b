use Rattle.qcow2_session.proofs.OutputLemmas.{gets_more}
use Rattle.qcow2_session.proofs.commands.info.print_text.Goals as goal

pub returns-clause-text : goal.returns-clause-text
returns-clause-text g c =
    let count = rw (c.as_bytes.ensures, c.prepend-2.ensures, c.prepend_decimal.ensures.text, c.prepend.ensures, c.new-line.ensures) at c.print.ensures.text in
    let text = rw c.as_bytes-2.ensures.value at c.print-2.ensures.text in
    gets_more g.O.Write.contents c.args.out.now c.print-2.new.self c.print-3.new.self _ _
    (gets_more g.O.Write.contents c.args.out.now c.print.new.self c.print-2.new.self _ _ count c.print-2.ensures.goes_on text)
    c.print-3.ensures.goes_on c.print-3.ensures.text
