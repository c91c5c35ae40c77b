use Rattle.std.proofs.Common.{◌∙◌, inl, inr, refl, subst, List, ℕ}
use Rattle.std.proofs.lemmas.Result.{err_from_is_err_and}
use Rattle.qcow2_session.proofs.ProgramLemmas.{fine-flushed, kept, text-flushed}
use Rattle.qcow2_session.specs.Commands.Printing.{PrintsText}
use Rattle.qcow2_session.proofs.commands.program.answer.Goals as goal

pub returns-in_err-answer : goal.returns-in_err-answer
returns-in_err-answer g c =
    let exit = err_from_is_err_and c.from_residual.result c.from_residual.ensures.1 in
    rw exit.1 (record { text = inr (refl, kept (g.O.Write.contents c.args.out.now)); verdict = tt })

pub returns-clause-text : goal.returns-clause-text
returns-clause-text g c =
    let is = c.in_ok-answer.ensures in
    let prints = text-flushed c.print-printed.result c.fine.result c.after_flush.result c.flush.result _ (g.O.Write.contents c.print-printed.new.writer) _ _
    c.print-printed.ensures c.flush.ensures.bytes c.fine.ensures.answer c.after_flush.ensures.own c.after_flush.ensures.flush in
    inl (
      is.0,
      subst (λ (bytes : List ℕ). PrintsText c.after_flush.result (g.O.Write.contents c.args.out.now) (g.O.Write.contents c.flush.new.self) bytes)
          (c.as_bytes.ensures.value ∙ c.as_str.ensures.value ∙ is.1) prints,
    )

pub returns-clause-verdict : goal.returns-clause-verdict
returns-clause-verdict g c = fine-flushed c.fine.result _ c.flush.result c.fine.ensures.verdict c.after_flush.ensures.own c.after_flush.ensures.flush
