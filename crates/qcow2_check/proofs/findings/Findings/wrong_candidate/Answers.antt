use Rattle.std.proofs.Common.{◌%◌, ◌≡◌, ap, rules, arith}
use Rattle.qcow2_check.proofs.FindingsLemmas.{right_before, right_in_kept}
use Rattle.qcow2_check.specs.Counters.{counters_each}
use Rattle.qcow2_check.specs.Findings.{FindingsState}
use Rattle.qcow2_check.proofs.findings.Findings.wrong_candidate.Goals as goal

pub returns-then-not-is_dense-clause-right : goal.returns-then-not-is_dense-clause-right
returns-then-not-is_dense-clause-right c = λ image reads.
    let position : c.self.inside.position ≡ c.args.self.now.position = ap (λ (reader : FindingsState). reader.position) c.self.view_is in
    let none = rw position at c.next_used-next.ensures.none in
    let header : c.self.inside.counters.header ≡ c.args.self.now.header = search rules in
    let reftable : c.self.inside.counters.reftable ≡ c.args.self.now.counters.reftable = search rules in
    let free = rw (position, header, reftable) at c.free_end.ensures.free in
    right_before c.args.self.now c.unwrap-tally.result.now image c.args.self.now.position c.free_end.result (search rules) reads (search rules) (search rules)
    (λ k after before. none k after (omega (arith, before, c.free_end.ensures.within))) (free image (search rules))

pub returns-in_default-clause-right : goal.returns-in_default-clause-right
returns-in_default-clause-right c = λ image reads.
    let position : c.self.inside.position ≡ c.args.self.now.position = ap (λ (reader : FindingsState). reader.position) c.self.view_is in
    let header : c.self.inside.counters.header ≡ c.args.self.now.header = search rules in
    let reftable : c.self.inside.counters.reftable ≡ c.args.self.now.counters.reftable = search rules in
    let none = rw position at c.next_used.ensures.none in
    let free = rw (position, header, reftable) at c.free_end-free.ensures.free in
    right_before c.args.self.now c.unwrap-tally.result.now image c.args.self.now.position c.next_used.result (search rules) reads (search rules) (search rules)
    none (λ k after before. free image (search rules) k after (omega (arith, before, c.next_used.ensures.within)))

pub returns-in-Some-clause-right : goal.returns-in-Some-clause-right
returns-in-Some-clause-right c = λ image reads.
    let position : c.self.inside.position ≡ c.args.self.now.position = ap (λ (reader : FindingsState). reader.position) c.self.view_is in
    let index : c.rb_index-index.result ≡ c.args.self.now.position % counters_each c.args.self.now.header = search rules in
    let right = rw index at c.right_clusters.ensures.right in
    let right_here = rw position at right in
    rw position (right_in_kept c.args.self.now c.unwrap-tally.result.now c.in-Some.block.now image c.args.self.now.position c.right_clusters.result
    (search rules) (search rules) (search rules) reads (search rules) (search rules) (search rules)
    right_here)
