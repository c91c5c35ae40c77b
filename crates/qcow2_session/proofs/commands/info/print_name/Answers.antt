use Rattle.qcow2_session.proofs.OutputLemmas.{gets_more}
use Rattle.qcow2_session.proofs.commands.info.print_name.Goals as goal

pub returns-in-Some-clause-text : goal.returns-in-Some-clause-text
returns-in-Some-clause-text g c = rw c.in-Some.is
    (gets_more g.O.Write.contents c.args.out.now c.print.new.self c.print_text.new.out _ _ (rw c.as_bytes.ensures.value at c.print.ensures.text)
    c.print_text.ensures.goes_on (rw c.as_str.ensures.value at c.print_text.ensures.text))

pub returns-in-None-clause-text : goal.returns-in-None-clause-text
returns-in-None-clause-text g c = rw c.in-None.is
    (gets_more g.O.Write.contents c.args.out.now c.print.new.self c.print-in-None.new.self _ _ (rw c.as_bytes.ensures.value at c.print.ensures.text)
    c.print-in-None.ensures.goes_on c.print-in-None.ensures.text)
