use Rattle.std.proofs.Common.{◌≡◌, ◌%◌, rules}
use Rattle.qcow2_check.proofs.CountersLemmas.{kept_zeros}
use Rattle.qcow2_check.specs.Counters.{counters_each}
use Rattle.qcow2_check.proofs.counters.Counters.cached_zeros.Goals as goal

pub returns-clause-zero : goal.returns-clause-zero
returns-clause-zero c = λ image kept.
    let reader = c.args.self.now in
    let index : c.rb_index-index.result ≡ c.args.from.0 % counters_each reader.header = search rules in
    let zeros = rw index at c.zero_counters.ensures.zero in
    kept_zeros reader image c.in-Some.block.now c.args.from.0 c.zero_counters.result (search rules) (search rules) (search rules) zeros kept
