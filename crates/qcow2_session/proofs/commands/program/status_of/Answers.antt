use Rattle.qcow2_session.proofs.ProgramLemmas.{never-two, reports-fault, reports-verdict}
use Rattle.std.proofs.Common.{◌∙◌, sym}
use Rattle.qcow2_session.proofs.commands.program.status_of.Goals as goal

pub returns-in-Ok-clause-right_words : goal.returns-in-Ok-clause-right_words
returns-in-Ok-clause-right_words g c = λ two. never-two c.in-Ok.verdict (sym c.status.ensures ∙ two)

pub returns-in-Ok-clause-reports : goal.returns-in-Ok-clause-reports
returns-in-Ok-clause-reports g c = reports-verdict c.in-Ok.verdict _ g.E.Write.contents _ c.status.ensures

pub returns-in-Err-clause-reports : goal.returns-in-Err-clause-reports
returns-in-Err-clause-reports g c = reports-fault c.in-Err.fault _ g.E.Write.contents _ _ c.report_fault.ensures.status c.report_fault.ensures.line
