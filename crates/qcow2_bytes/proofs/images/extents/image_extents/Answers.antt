use Rattle.std.proofs.Common.{refl}
use Rattle.qcow2_base.specs.Storage.{image_of}
use Rattle.qcow2_bytes.specs.Images.Extents.{guest_disk}
use Rattle.qcow2_bytes.proofs.ExtentsLemmas.{kept-cut}
use Rattle.qcow2_bytes.proofs.HeaderLemmas.{image-begin}
use Rattle.qcow2_bytes.proofs.images.extents.image_extents.Goals as goal

pub returns-in-Ok-clause-put : goal.returns-in-Ok-clause-put
returns-in-Ok-clause-put c = rw (c.new-image.ensures.bytes, image-begin c.args.bytes.now) at (c.in-Ok.ensures.put refl)

pub returns-in-Err-clause-put : goal.returns-in-Err-clause-put
returns-in-Err-clause-put c =
    let put = rw (c.new-image.ensures.bytes, image-begin c.args.bytes.now) at (c.in-Err.ensures.put refl) in
    kept-cut (guest_disk (image_of c.args.bytes.now)) c.args.from_offset c.args.extents.now c.put_extents.new.extents c.in-Err.cut
    c.without_storage_fault.result c.without_storage_fault.ensures put
