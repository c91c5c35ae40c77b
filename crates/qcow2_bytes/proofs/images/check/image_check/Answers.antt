use Rattle.std.proofs.Common.{refl}
use Rattle.qcow2_base.specs.Storage.{image_of}
use Rattle.qcow2_bytes.specs.Images.Check.{tables_at}
use Rattle.qcow2_bytes.proofs.CheckLemmas.{kept-refusal}
use Rattle.qcow2_bytes.proofs.HeaderLemmas.{image-begin}
use Rattle.qcow2_bytes.proofs.images.check.image_check.Goals as goal

pub returns-in-Ok-clause-checks : goal.returns-in-Ok-clause-checks
returns-in-Ok-clause-checks c = rw (c.new-image.ensures.bytes, image-begin c.args.bytes.now) at (c.in-Ok.ensures.checks refl)

pub returns-in-Err-clause-checks : goal.returns-in-Err-clause-checks
returns-in-Err-clause-checks c =
    let put = rw (c.new-image.ensures.bytes, image-begin c.args.bytes.now) at (c.in-Err.ensures.checks refl) in
    kept-refusal (tables_at (image_of c.args.bytes.now)) (image_of c.args.bytes.now) c.args.findings.now c.check_bytes.new.findings c.in-Err.fault
    c.without_storage_fault.result c.without_storage_fault.ensures put
