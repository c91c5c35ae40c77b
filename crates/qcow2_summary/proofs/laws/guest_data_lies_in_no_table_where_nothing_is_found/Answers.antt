use Rattle.std.proofs.Common.{◌≡◌, false, arith}
use Rattle.qcow2_summary.proofs.ApartLemmas.{guest-alone, right-apart}
use Rattle.qcow2_check.specs.Findings.{finding_at, is_shared}
use Rattle.qcow2_check.specs.Uses.{image_uses}
use Rattle.qcow2_summary.proofs.laws.guest_data_lies_in_no_table_where_nothing_is_found.Goals as goal

pub returns : goal.returns
returns w = λ tables image right c below.
    let uses = image_uses tables image in
    let apart : is_shared uses c ≡ false = right-apart (finding_at tables image c) (right c (omega arith) below) in
    guest-alone uses c apart
