use Rattle.std.proofs.Common.{rules, inl, inr, arith}
use Rattle.std.proofs.lemmas.Result.{err_from_is_err_and}
use Rattle.qcow2_metadata.proofs.OpenLemmas.{answers-first, opened-faults, opened_fault}
use Rattle.qcow2_metadata.proofs.WritableLemmas.{writable-short}
use Rattle.qcow2_metadata.proofs.header.Header.load_accepting.Goals as goal
use Rattle.std.proofs.lemmas.Bool.Decides.{nat_tests}

pub returns-in_err-header : goal.returns-in_err-header
returns-in_err-header g c =
    let image = (g.S.Storage.state c.args.image.now).byte_at in
    let exit = err_from_is_err_and c.from_residual.result c.from_residual.ensures.1 in
    let read = c.in_err-header.ensures.reads in
    let fault = c.in_err-header.field-0.0 in
    rw (exit.1, exit.2) (record {
      exact = λ told. opened_fault c.args.accepted c.args.writable image fault (read.exact told);
      faults = elim read.faults [
        | inl grammar ↦ inl (inl grammar)
        | inr outside ↦ inr outside
      ];
      short = tt;
      storage = search rules;
    })

pub returns : goal.returns
returns g c = grind (arith, nat_tests, answers-first, opened-faults, writable-short)
