use Rattle.std.proofs.Common.{refl}
use Rattle.qcow2_base.specs.Storage.{image_of}
use Rattle.qcow2_bytes.specs.Header.{any_header_of}
use Rattle.qcow2_bytes.proofs.HeaderLemmas.{image-begin, kept-fault}
use Rattle.qcow2_bytes.proofs.header.load_header.Goals as goal

pub returns-in-Ok-clause-exact : goal.returns-in-Ok-clause-exact
returns-in-Ok-clause-exact c = rw (c.new-image.ensures.bytes, image-begin c.args.bytes.now) at (c.in-Ok.ensures.exact refl)

pub returns-in-Err-clause-exact : goal.returns-in-Err-clause-exact
returns-in-Err-clause-exact c =
    let exact = rw (c.new-image.ensures.bytes, image-begin c.args.bytes.now) at (c.in-Err.ensures.exact refl) in
    kept-fault (any_header_of (image_of c.args.bytes.now)) c.in-Err.fault c.without_storage_fault.result exact c.without_storage_fault.ensures
