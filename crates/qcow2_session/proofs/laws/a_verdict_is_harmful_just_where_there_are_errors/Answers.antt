use Rattle.std.proofs.Common.{length}
use Rattle.qcow2_check.proofs.FindingsListLemmas.{past-unused, unused-past}
use Rattle.qcow2_check.specs.Findings.{past_findings}
use Rattle.qcow2_session.proofs.HarmLemmas.{no-errors-of-verdict, unharmed-of-verdict, verdict-of-no-errors, within-of-verdict}
use Rattle.qcow2_session.proofs.laws.a_verdict_is_harmful_just_where_there_are_errors.Goals as goal

pub returns : goal.returns
returns c = λ file tables image.
    let past = length (past_findings file tables image) in (
      λ safe. (
        no-errors-of-verdict past tables image safe,
        unused-past file tables image (within-of-verdict past tables image safe),
        unharmed-of-verdict past tables image safe,
      ),
      λ none. verdict-of-no-errors past tables image none.0 none.2 (past-unused file tables image none.1),
    )
