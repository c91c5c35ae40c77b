use Rattle.std.proofs.Common.{arith}
use Rattle.std.proofs.lemmas.Bool.Decides.{nat_tests}
use Rattle.qcow2_summary.proofs.ImageEndLemmas.{image-end-shifted}
use Rattle.qcow2_summary.proofs.image_end.end_of_image.Goals as goal

pub returns-clause-end : goal.returns-clause-end
returns-clause-end g c = λ tables header reftable told found.
    let counters = c.args.counters.now in
    image-end-shifted tables counters.header counters.reftable (g.S.Storage.state c.args.image.now).byte_at c.most_clusters.result c.in_ok-counted_end.counted_end
    c.args.found_end c.max.result c.cluster_bits.result header reftable (grind (arith, c.most_clusters.ensures, c.header-header.ensures))
    (c.in_ok-counted_end.ensures.reads.exact told) found (grind (arith, nat_tests, c.max.ensures)) (grind (arith, c.cluster_bits.ensures, c.header-header.ensures))
