use Rattle.std.proofs.Common.{◌∙◌, ap, inl, inr, refl, arith}
use Rattle.qcow2_base.specs.Storage.File.{file_state}
use Rattle.qcow2_session.proofs.RunningOnFilesLemmas.{ran-between, same-reads, stopped-before, unmoved, unread}
use Rattle.qcow2_session.proofs.commands.running.run_in_file.Goals as goal

pub returns-in-Err-compare_with_end-clause-runs : goal.returns-in-Err-compare_with_end-clause-runs
returns-in-Err-compare_with_end-clause-runs g c =
    stopped-before c.args.command.now c.in-Ok.header _ g.O.Write.contents _ _ _ _ c.in-Ok.ensures
    (inr c.in-Err-compare_with_end.ensures.compares) (same-reads _ _ _ c.in-Err-compare_with_end.ensures.reads)

pub returns-then-not-reads_all_tables-clause-runs : goal.returns-then-not-reads_all_tables-clause-runs
returns-then-not-reads_all_tables-clause-runs g c =
    ran-between c.args.command.now c.in-Ok.header _ g.O.Write.contents _ _ _ _ _ _ _
    c.in-Ok.ensures c.in_default.ensures.compares (unmoved _ _ _ c.in_default.ensures.reads) refl c.run_and_flush-ran.ensures.ends

pub returns-in-Ok-new-clause-runs : goal.returns-in-Ok-new-clause-runs
returns-in-Ok-new-clause-runs g c =
    let state = file_state g.F.ImageFile.content in
    ran-between c.args.command.now c.in-Ok.header _ g.O.Write.contents _ _ _ _ _ _ _
    c.in-Ok.ensures c.in_default.ensures.compares (ap state c.in-Ok-new.ensures ∙ unmoved _ _ _ c.in_default.ensures.reads)
    (ap state c.into_inner.ensures) c.run_and_flush-ran-in-Ok-new.ensures.ends

pub returns-in-Err-new-clause-runs : goal.returns-in-Err-new-clause-runs
returns-in-Err-new-clause-runs g c =
    rw (ap (file_state g.F.ImageFile.content) c.in-Err-new.ensures, unmoved _ _ _ c.in_default.ensures.reads)
    (stopped-before c.args.command.now c.in-Ok.header _ g.O.Write.contents _ _ _ _ c.in-Ok.ensures
    (inl (refl, rw c.reads_all_tables.ensures at c.if-not-reads_all_tables.false)) (unread _ _ (λ is. grind (arith, is))))
