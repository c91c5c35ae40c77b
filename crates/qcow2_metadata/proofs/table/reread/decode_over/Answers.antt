use Rattle.std.proofs.Common.{rules, arith}
use Rattle.std.proofs.lemmas.Result.{err_from_is_err_and}
use Rattle.std.proofs.lemmas.Bool.Decides.{nat_tests}
use Rattle.qcow2_metadata.proofs.TablePiecesLemmas.{chunk_numbers-all}
use Rattle.qcow2_metadata.proofs.table.reread.decode_over.Goals as goal

pub returns-in_err-check-clause-refused : goal.returns-in_err-check-clause-refused
returns-in_err-check-clause-refused g c = grind (arith, nat_tests, err_from_is_err_and, chunk_numbers-all)

pub returns-clause-numbers : goal.returns-clause-numbers
returns-clause-numbers g c = rw (← (chunk_numbers-all c.args.bytes.now _ c.as_chunks.ensures.front)) (search rules)
