use Rattle.std.proofs.Common.{inl, inr, refl}
use Rattle.qcow2_session.proofs.commands.program.run_request.Goals as goal

pub returns-in-Text-clause-runs : goal.returns-in-Text-clause-runs
returns-in-Text-clause-runs g c =
    rw c.in-Text.is (inl (c.print_text.result, (c.print_text.ensures.text, c.print_text.ensures.verdict, refl), c.status_of.ensures.ends))

pub returns-in-Question-clause-runs : goal.returns-in-Question-clause-runs
returns-in-Question-clause-runs g c =
    rw c.in-Question.is (inl (c.answer.result, (c.answer.ensures.text, c.answer.ensures.verdict, refl), c.status_of-in-Question.ensures.ends))

pub returns-in-Command-clause-runs : goal.returns-in-Command-clause-runs
returns-in-Command-clause-runs g c =
    rw c.in-Command.is (inl (
      c.run_on_file.result,
      record {
        runs = c.run_on_file.ensures.runs;
        others = c.run_on_file.ensures.others;
        place = c.run_on_file.ensures.place;
        verdict = c.run_on_file.ensures.verdict;
      },
      c.status_of-in-Command.ensures.ends,
    ))

pub returns-in-Nothing-clause-runs : goal.returns-in-Nothing-clause-runs
returns-in-Nothing-clause-runs g c = rw c.in-Nothing.is (inr (refl, c.refuse_words.ensures.status, (refl, refl)))
