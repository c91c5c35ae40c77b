use Rattle.std.proofs.Common.{arith, refl}
use Rattle.std.proofs.lemmas.Bool.Decides.{nat_tests}
use Rattle.std.proofs.lemmas.Result.{err_from_is_err_and}
use Rattle.qcow2_metadata.proofs.L2TableLemmas.{refused-by_end}
use Rattle.qcow2_metadata.proofs.table.l2_table.EntryTable+AtomicL2Entry.reload.Goals as goal

pub returns-in_err-offset-clause-left : goal.returns-in_err-offset-clause-left
returns-in_err-offset-clause-left g c = record {
  geometry = refl;
  count = refl;
  refused = λ _. refl;
  failed = grind (arith, nat_tests, err_from_is_err_and, refused-by_end);
}
