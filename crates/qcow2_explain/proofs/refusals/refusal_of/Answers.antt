use Rattle.std.proofs.lemmas.Result.{err_from_is_err_and}
use Rattle.qcow2_explain.proofs.ReadsLemmas.{reads-fault, reads-passed_on}
use Rattle.qcow2_explain.proofs.refusals.refusal_of.Goals as goal

pub returns-in_err-header_refusal-in-Err : goal.returns-in_err-header_refusal-in-Err
returns-in_err-header_refusal-in-Err g c =
    let exit = err_from_is_err_and c.from_residual.result c.from_residual.ensures.1 in
    let later = c.in_err-header_refusal-in-Err in
    record {
      storage = rw (exit.1, exit.2) (reads-fault later.field-0.0 _ _
          (reads-passed_on c.in-Err.fault _ _ _ c.in-Err.ensures.storage later.ensures.storage later.ensures.passed_on));
    }
