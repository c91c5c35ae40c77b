use Rattle.qcow2_session.proofs.ProgramLemmas.{fine-flushed, text-flushed}
use Rattle.qcow2_session.proofs.commands.program.print_text.Goals as goal

pub returns-clause-text : goal.returns-clause-text
returns-clause-text g c =
    text-flushed c.print-printed.result c.fine.result c.after_flush.result c.flush.result _ (g.O.Write.contents c.print-printed.new.out) _ _
    c.print-printed.ensures c.flush.ensures.bytes c.fine.ensures.answer c.after_flush.ensures.own c.after_flush.ensures.flush

pub returns-clause-verdict : goal.returns-clause-verdict
returns-clause-verdict g c = fine-flushed c.fine.result _ c.flush.result c.fine.ensures.verdict c.after_flush.ensures.own c.after_flush.ensures.flush
