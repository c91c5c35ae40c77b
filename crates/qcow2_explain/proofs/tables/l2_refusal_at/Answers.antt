use Rattle.std.proofs.Common.{rules}
use Rattle.std.proofs.lemmas.Result.{err_from_is_err_and}
use Rattle.qcow2_explain.proofs.ReadsLemmas.{reads-fault, reads-refused, reads-then}
use Rattle.qcow2_explain.proofs.tables.l2_refusal_at.Goals as goal

pub returns-in_err-bad : goal.returns-in_err-bad
returns-in_err-bad g c =
    let exit = err_from_is_err_and c.from_residual.result c.from_residual.ensures.1 in
    record {
      storage = rw (exit.1, exit.2) (reads-then _ _ _
          (reads-refused c.in-Err.fault _ _ (search rules) c.in-Err.ensures.reads.storage)
          (reads-fault c.in_err-bad.field-0.0 _ _ c.in_err-bad.ensures.storage));
    }
