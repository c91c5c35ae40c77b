use Rattle.qcow2_session.proofs.commands.report.report_fault.Goals as goal

pub returns-clause-line : goal.returns-clause-line
returns-clause-line g c =
    rw (c.as_bytes.ensures, c.prepend-2.ensures, c.prepend_decimal.ensures.text, c.prepend.ensures, c.new-line.ensures, c.from.ensures, c.number.ensures)
    at c.write_line.ensures
