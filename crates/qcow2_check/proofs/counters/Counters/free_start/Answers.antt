use Rattle.std.proofs.Common.{◌≡◌, ◌%◌, rules}
use Rattle.qcow2_check.proofs.CountersLemmas.{kept_zeros_before}
use Rattle.qcow2_check.specs.Counters.{counters_each}
use Rattle.qcow2_check.proofs.counters.Counters.free_start.Goals as goal

pub returns-clause-free : goal.returns-clause-free
returns-clause-free c = λ image kept.
    let reader = c.args.self.now in
    let index : c.rb_index-index.result ≡ c.args.end.0 % counters_each reader.header = search rules in
    let within = rw index at c.zeros_before.ensures.within in
    let zeros = rw index at c.zeros_before.ensures.zero in
    kept_zeros_before reader image c.in-Some.block.now c.args.end.0 c.zeros_before.result (search rules) (search rules) within zeros kept
