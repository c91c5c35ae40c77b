use Rattle.std.proofs.Common.{rules}
use Rattle.qcow2_metadata.proofs.HeaderLemmas.{differs_at, is_first_name, is_other_name, same_with_first, same_with_no_name}
use Rattle.qcow2_metadata.proofs.header.names.same_names.Goals as goal

pub loop-extension-preserved : goal.loop-extension-preserved
loop-extension-preserved c = search (rules, same_with_first, same_with_no_name, is_first_name)

pub returns-then-ne : goal.returns-then-ne
returns-then-ne c = search (rules, is_other_name, differs_at)
