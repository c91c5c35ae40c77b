use Rattle.std.proofs.Common.{◌∙◌, ap, arith, rules}
use Rattle.std.proofs.lemmas.Result.{err_from_is_err_and}
use Rattle.qcow2_check.specs.Findings.{tables_of}
use Rattle.qcow2_check.specs.FileEnd.{file_clusters}
use Rattle.qcow2_check.specs.Totals.{totals_within}
use Rattle.qcow2_summary.specs.ImageEnd.{image_end}
use Rattle.qcow2_session.proofs.AccountLemmas.{account-is}
use Rattle.qcow2_session.proofs.commands.check.account.take_account.Goals as goal

pub returns-in_err-entries-clause-exact : goal.returns-in_err-entries-clause-exact
returns-in_err-entries-clause-exact g c =
    let exit = err_from_is_err_and c.from_residual-in_err-entries.result c.from_residual-in_err-entries.ensures.1 in
    let checked = c.in_ok-findings.ensures.reads in
    let counted = c.in_ok-totals.ensures.storage in
    rw (exit.1, exit.2) (λ told.
    let tables = checked.exact told in
    let refused = rw (counted.bytes ∙ checked.storage.bytes) at (c.in_err-entries.ensures.exact (counted.device.tells ∙ checked.storage.device.tells ∙ told)) in
    grind (arith, tables, refused))

pub returns-clause-exact : goal.returns-clause-exact
returns-clause-exact g c = λ told.
    let checked = c.in_ok-findings.ensures.reads in
    let counted = c.in_ok-totals.ensures.storage in
    let tables = checked.exact told in
    let found = c.in_ok-totals.ensures.found (checked.storage.device.tells ∙ told) in
    let counted_tables = tables_of c.in_ok-findings.findings in
    let state = g.S.Storage.state c.args.image.now in
    let totals = found.0 ∙ ap (λ len. totals_within (file_clusters len c.args.header.now) counted_tables (g.S.Storage.state c.new.new.image).byte_at) checked.storage.len
    ∙ ap (λ bytes. totals_within (file_clusters state.len c.args.header.now) counted_tables bytes) checked.storage.bytes in
    let end = found.1 ∙ ap (λ bytes. image_end counted_tables bytes) checked.storage.bytes in
    let entries = rw (counted.bytes ∙ checked.storage.bytes) at (c.in_ok-entries.ensures.exact (counted.device.tells ∙ checked.storage.device.tells ∙ told)) in
    account-is c.args.header.now state.len state.byte_at counted_tables _ tables totals (search rules) end (search rules) (search rules) (search rules) entries
