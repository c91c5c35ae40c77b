use Rattle.std.proofs.Common.{◌≡◌, IsTrue, inl, rules}
use Rattle.std.proofs.lemmas.Result.{err_from_is_err_and}
use Rattle.qcow2_repair.proofs.FlagWindowsLemmas.{flags-unchanged}
use Rattle.qcow2_repair.proofs.repair.repair_written.Goals as goal

pub returns-in_err-sync-clause-repairs : goal.returns-in_err-sync-clause-repairs
returns-in_err-sync-clause-repairs g c = λ told.
    let exit = err_from_is_err_and c.from_residual.result c.from_residual.ensures.1 in
    rw exit.1 (inl (flags-unchanged _ _ (g.S.Storage.state c.args.image.now).byte_at (g.S.Storage.state c.sync.new.self).byte_at (search rules)))

pub returns-clause-repairs : goal.returns-clause-repairs
returns-clause-repairs g c = λ told.
    let bytes : (g.S.Storage.state c.sync.new.self).byte_at ≡ (g.S.Storage.state c.args.image.now).byte_at = search rules in
    let known : IsTrue (g.S.Storage.state c.sync.new.self).tells = search rules in
    rw bytes at (c.repair_tables.ensures.repairs known)
