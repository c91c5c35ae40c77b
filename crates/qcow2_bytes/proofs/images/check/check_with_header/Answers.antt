use Rattle.std.proofs.lemmas.Result.{err_from_is_err_and}
use Rattle.qcow2_bytes.proofs.CheckLemmas.{refused-check}
use Rattle.qcow2_bytes.proofs.images.check.check_with_header.Goals as goal

pub returns-in_err-reader-clause-faults : goal.returns-in_err-reader-clause-faults
returns-in_err-reader-clause-faults g c =
    let exit = err_from_is_err_and c.from_residual.result c.from_residual.ensures.1 in
    rw (exit.1, exit.2) (refused-check c.args.header.now c.in_err-reader.field-0.0 c.in_err-reader.ensures.reads.faults)
