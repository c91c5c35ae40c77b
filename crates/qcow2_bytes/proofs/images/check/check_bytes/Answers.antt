use Rattle.qcow2_bytes.proofs.CheckLemmas.{checked-after}
use Rattle.qcow2_bytes.proofs.images.check.check_bytes.Goals as goal

pub returns-clause-checks : goal.returns-clause-checks
returns-clause-checks g c =
    checked-after c.in_ok-header.header c.args.findings.now c.check_with_header.new.findings c.check_with_header.result _ _
    (λ told. c.in_ok-header.ensures.exact told) c.in_ok-header.ensures.storage c.check_with_header.ensures.checks
