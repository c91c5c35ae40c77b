use Rattle.std.proofs.Common.{refl}
use Rattle.qcow2_base.specs.Storage.{image_of}
use Rattle.qcow2_bytes.specs.Images.{fields_at}
use Rattle.qcow2_bytes.proofs.HeaderLemmas.{image-begin, kept-fault}
use Rattle.qcow2_bytes.proofs.images.image_lookup.Goals as goal

pub returns-in-Ok-clause-exact : goal.returns-in-Ok-clause-exact
returns-in-Ok-clause-exact c = rw (c.new-image.ensures.bytes, image-begin c.args.bytes.now) at (c.in-Ok.ensures.exact refl)

pub returns-in-Err-clause-exact : goal.returns-in-Err-clause-exact
returns-in-Err-clause-exact c =
    let exact = rw (c.new-image.ensures.bytes, image-begin c.args.bytes.now) at (c.in-Err.ensures.exact refl) in
    kept-fault (fields_at c.args.guest_offset (image_of c.args.bytes.now)) c.in-Err.fault c.without_storage_fault.result exact
    c.without_storage_fault.ensures
