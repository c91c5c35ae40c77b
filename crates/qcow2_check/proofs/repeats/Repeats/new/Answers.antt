use Rattle.std.proofs.Common.{refl}
use Rattle.qcow2_check.proofs.RepeatsLemmas.{all_once}
use Rattle.qcow2_check.proofs.repeats.Repeats.new.Goals as goal

pub returns-then-are_ascending-clause-counts : goal.returns-then-are_ascending-clause-counts
returns-then-are_ascending-clause-counts g c =
    all_once (g.T.NamesOffsets.names c.args.table.now) c.new.result.items c.new.ensures.items (c.if-are_ascending.ensures refl)
