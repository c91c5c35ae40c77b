use Rattle.std.proofs.Common.{◌≡◌, ap, rules, sym, ◌∙◌}
use Rattle.qcow2_check.proofs.FindingsLemmas.{unused_before}
use Rattle.qcow2_check.specs.Findings.{FindingsState}
use Rattle.qcow2_check.proofs.findings.Findings.candidate.Goals as goal

pub returns-in-Used-clause-none : goal.returns-in-Used-clause-none
returns-in-Used-clause-none c = λ image reads.
    let position : c.self.inside.position ≡ c.args.self.now.position = ap (λ (reader : FindingsState). reader.position) c.self.view_is in
    let sought = sym (ap (λ (reader : FindingsState). reader.sought) c.self.view_is) ∙ c.in-Used.is in
    rw sought (unused_before c.args.self.now c.unwrap-tally.result.now image c.args.self.now.position c.next_used.result
    (search rules) reads (search rules) (search rules) (rw position at c.next_used.ensures.none))
