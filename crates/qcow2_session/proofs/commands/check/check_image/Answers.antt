use Rattle.std.proofs.Common.{◌≡◌, refl}
use Rattle.std.proofs.lemmas.Result.{err_from_is_err_and}
use Rattle.qcow2_check.specs.FileEnd.{file_clusters}
use Rattle.qcow2_check.specs.Findings.{tables_of}
use Rattle.qcow2_session.proofs.CheckLemmas.{report-found, report-refused}
use Rattle.qcow2_session.proofs.commands.check.check_image.Goals as goal

pub returns-in_err-findings-clause-prints : goal.returns-in_err-findings-clause-prints
returns-in_err-findings-clause-prints g c =
    let exit = err_from_is_err_and c.from_residual.result c.from_residual.ensures.1 in
    rw (exit.1, exit.2) (report-refused c.in_err-findings.field-0.0 c.args.header.now _ g.O.Write.contents (g.S.Storage.state c.args.image.now) (g.S.Storage.state c.new.new.image) c.args.out.now
    c.in_err-findings.ensures.reads.exact)

pub returns-clause-prints : goal.returns-clause-prints
returns-clause-prints g c =
    let reads = c.in_ok-findings.ensures.reads in
    let state = g.S.Storage.state c.args.image.now in
    let mid = g.S.Storage.state c.new.new.image in
    let end : file_clusters mid.len c.in_ok-findings.findings.header ≡ file_clusters state.len c.args.header.now =
    rw (reads.storage.len, c.in_ok-findings.ensures.begun.0) refl in
    report-found c.print_report.result c.args.header.now state.len (file_clusters mid.len c.in_ok-findings.findings.header) (tables_of c.in_ok-findings.findings) g.O.Write.contents (g.S.Storage.state c.args.image.now)
    (g.S.Storage.state c.new.new.image) (g.S.Storage.state c.print_report.new.image) c.args.out.now c.print_report.new.out
    reads.storage.device.tells reads.storage.bytes reads.exact end c.print_report.ensures.prints c.print_report.ensures.verdict
