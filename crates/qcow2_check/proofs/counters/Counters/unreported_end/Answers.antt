use Rattle.std.proofs.Common.{rules}
use Rattle.qcow2_check.proofs.CountersLemmas.{again_reports}
use Rattle.qcow2_check.proofs.counters.Counters.unreported_end.Goals as goal

pub returns-then-is_counted_again-clause-none : goal.returns-then-is_counted_again-clause-none
returns-then-is_counted_again-clause-none c = λ image.
    again_reports c.args.self.now image c.args.from.0 c.min-then-is_counted_again.result (search rules) (search rules)
