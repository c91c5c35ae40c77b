use Rattle.std.proofs.Common.{arith}
use Rattle.std.proofs.lemmas.Bool.Decides.{nat_tests}
use Rattle.std.proofs.lemmas.Result.{err_from_is_err_and}
use Rattle.std.specs.Prelude.{◌≡◌, true}
use Rattle.qcow2_metadata.specs.Header.Open.{is_rewritten}
use Rattle.qcow2_metadata.proofs.WritableLemmas.{becomes-err, becomes-ok}
use Rattle.qcow2_metadata.proofs.header.Header.into_writable.Goals as goal

pub returns-in_err-write-clause-writable : goal.returns-in_err-write-clause-writable
returns-in_err-write-clause-writable g c =
    let exit = err_from_is_err_and c.from_residual.result c.from_residual.ensures.1 in
    let cleared = c.clear_autoclear_features.ensures.cleared in
    let rewritten : is_rewritten true c.args.self ≡ true = grind (arith, nat_tests) in
    let storage = rw cleared at c.in_err-write.ensures.storage in
    let exact = rw cleared at c.in_err-write.ensures.exact in
    rw (exit.1, exit.2) (becomes-err c.args.self c.in_err-write.field-0.0 _ _ rewritten exact storage)

pub returns-clause-writable : goal.returns-clause-writable
returns-clause-writable g c =
    let cleared = c.clear_autoclear_features.ensures.cleared in
    let rewritten : is_rewritten true c.args.self ≡ true = grind (arith, nat_tests) in
    let storable = rw cleared at c.clear_autoclear_features.ensures.valid.storable in
    let exact = rw cleared at c.in_ok-write.ensures.exact in
    let storage = rw cleared at c.in_ok-write.ensures.storage in
    becomes-ok c.args.self c.write.new.self _ _ rewritten storable exact c.in_ok-write.ensures.written storage
