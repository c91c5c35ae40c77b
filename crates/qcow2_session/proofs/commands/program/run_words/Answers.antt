use Rattle.std.proofs.Common.{inl, inr, refl}
use Rattle.qcow2_session.proofs.commands.program.run_words.Goals as goal

pub returns-in-Ok-clause-runs : goal.returns-in-Ok-clause-runs
returns-in-Ok-clause-runs g c = inl (rw c.in-Ok.ensures.parsed at c.run_request.ensures.runs)

pub returns-in-Err-clause-runs : goal.returns-in-Err-clause-runs
returns-in-Err-clause-runs g c =
    let line = rw c.from.ensures at c.report_fault.ensures.line in
    inr (c.in-Err.ensures.memory refl, (c.report_fault.ensures.status, line), (refl, refl))
