use Rattle.std.proofs.Common.{◌∙◌, refl}
use Rattle.qcow2_bytes.proofs.HeaderLemmas.{image-begin}
use Rattle.qcow2_bytes.proofs.SettledRefcountsLemmas.{first_block}
use Rattle.qcow2_bytes.proofs.refcounts.settled.load_block.Goals as goal

pub returns-in-Ok-clause-numbers : goal.returns-in-Ok-clause-numbers
returns-in-Ok-clause-numbers c =
    let header = c.args.header.now in
    c.in-Ok.ensures.loaded.numbers refl
    ∙ first_block header.base.refcount_order header.v2.cluster_bits _ _ c.args.bytes.now (c.new-image.ensures.bytes ∙ image-begin c.args.bytes.now)
