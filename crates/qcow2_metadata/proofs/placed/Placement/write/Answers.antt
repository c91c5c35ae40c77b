use Rattle.std.proofs.lemmas.Bool.Decides.{nat_tests}
use Rattle.std.proofs.Common.{rules, arith}
use Rattle.std.proofs.lemmas.Result.{err_from_is_err_and}
use Rattle.qcow2_metadata.proofs.placed.Placement.write.Goals as goal

pub returns-in_err-offset-clause-flag : goal.returns-in_err-offset-clause-flag
returns-in_err-offset-clause-flag g c = grind (arith, nat_tests, err_from_is_err_and)

pub returns-in_err-offset-clause-written : goal.returns-in_err-offset-clause-written
returns-in_err-offset-clause-written g c = grind (arith, nat_tests, err_from_is_err_and)

pub returns-in-Ok-clause-written : goal.returns-in-Ok-clause-written
returns-in-Ok-clause-written g c = record {
  refused = search rules;
  faults = search rules;
  torn = search rules;
  storage = search rules;
  written = λ told.
      let back = c.offset_at.ensures.reads_back in
      let stand = c.in-Ok.ensures.written told in
      let small = g.met.S.Storage.byte_fits c.args.image.now in
      search rules;
}
