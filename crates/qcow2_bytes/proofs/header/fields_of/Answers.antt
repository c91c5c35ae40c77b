use Rattle.std.proofs.Common.{ap, add-zero}
use Rattle.qcow2_base.specs.Storage.{image_of}
use Rattle.qcow2_bytes.proofs.HeaderLemmas.{fields-say, same_base, same_v2}
use Rattle.qcow2_bytes.proofs.header.fields_of.Goals as goal

pub returns : goal.returns
returns c = λ header is size.
    let image = image_of c.args.bytes.now in
    let v2 = same_v2 image c.read_be-v2.result header (simp add-zero at c.read_be-v2.ensures) is in
    let base = same_base image c.read_be-v2.result.version c.read_base-base.result header (ap (λ h. h.version) v2) c.read_base-base.ensures is in
    fields-say image header c.args.cluster_size c.read_be-v2.result c.read_base-base.result c.backing_name.result
    c.extension_name.result c.extension_name-2.result v2 base size is c.backing_name.ensures
    (c.extension_name.ensures header.extensions) (c.extension_name-2.ensures header.extensions)
