use Rattle.std.proofs.Common.{arith}
use Rattle.std.proofs.lemmas.Grind.{common_steps}
use Rattle.qcow2_session.proofs.ChangingLemmas.{change-printed, loads-part, of-any, part-follows}
use Rattle.qcow2_session.proofs.commands.count.count_references.Goals as goal

pub returns-in_err-replies-clause-counts : goal.returns-in_err-replies-clause-counts
returns-in_err-replies-clause-counts g c = grind (arith, common_steps)

pub returns-clause-counts : goal.returns-clause-counts
returns-clause-counts g c = grind (arith, change-printed, loads-part, of-any, part-follows)
