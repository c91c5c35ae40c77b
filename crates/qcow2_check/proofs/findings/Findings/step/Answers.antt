use Rattle.qcow2_check.proofs.FindingsLemmas.{passes_same}
use Rattle.std.proofs.Common.{rules}
use Rattle.qcow2_check.proofs.findings.Findings.step.Goals as goal

pub returns-clause-finding : goal.returns-clause-finding
returns-clause-finding g c =
    passes_same (g.S.Storage.state c.args.image.now) (g.S.Storage.state c.keep_window.new.image) c.args.self.now c.keep_window.new.self
    c.pass_counted.result c.pass_counted.new.self.position (search rules) c.in_ok-keep_window.ensures.reader c.in_ok-keep_window.ensures.position
    c.pass_counted.ensures.finding
