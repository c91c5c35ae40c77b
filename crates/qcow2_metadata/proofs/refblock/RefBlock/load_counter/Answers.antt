use Rattle.std.proofs.Common.{◌≡◌, ◌<◌, ◌∙◌, sym, Ok, refl, rules}
use Rattle.qcow2_metadata.proofs.OneCounterLemmas.{narrow_fits, reads_counter, wide_fits}
use Rattle.qcow2_metadata.specs.Refblock.{block_entries}
use Rattle.qcow2_metadata.proofs.refblock.RefBlock.load_counter.Goals as goal

pub read_wide-requires : goal.read_wide-requires
read_wide-requires g c =
    let header = c.args.header.now in
    let order : header.base.refcount_order ≡ 4 = sym c.refcount_order-order.ensures.value ∙ c.in-4.is in
    let below : c.args.index < block_entries header.v2.cluster_bits 4 = rw order at c.requires.index in
    record {
      len = refl;
      fits = wide_fits header.v2.cluster_bits c.cluster_bits-bits.result 4 2 c.args.index c.in_ok-offset.offset.0 _ (search rules) c.cluster_bits-bits.ensures.value
          (search rules) refl below c.in_ok-offset.ensures.fits;
    }

pub read_wide-requires-in-5 : goal.read_wide-requires-in-5
read_wide-requires-in-5 g c =
    let header = c.args.header.now in
    let order : header.base.refcount_order ≡ 5 = sym c.refcount_order-order.ensures.value ∙ c.in-5.is in
    let below : c.args.index < block_entries header.v2.cluster_bits 5 = rw order at c.requires.index in
    record {
      len = refl;
      fits = wide_fits header.v2.cluster_bits c.cluster_bits-bits.result 5 4 c.args.index c.in_ok-offset.offset.0 _ (search rules) c.cluster_bits-bits.ensures.value
          (search rules) refl below c.in_ok-offset.ensures.fits;
    }

pub read_wide-requires-in-6 : goal.read_wide-requires-in-6
read_wide-requires-in-6 g c =
    let header = c.args.header.now in
    let order : header.base.refcount_order ≡ 6 = sym c.refcount_order-order.ensures.value ∙ c.in-6.is in
    let below : c.args.index < block_entries header.v2.cluster_bits 6 = rw order at c.requires.index in
    record {
      len = refl;
      fits = wide_fits header.v2.cluster_bits c.cluster_bits-bits.result 6 8 c.args.index c.in_ok-offset.offset.0 _ (search rules) c.cluster_bits-bits.ensures.value
          (search rules) refl below c.in_ok-offset.ensures.fits;
    }

pub read_narrow-requires-clause-fits : goal.read_narrow-requires-clause-fits
read_narrow-requires-clause-fits g c =
    let header = c.args.header.now in
    let below = rw (sym c.refcount_order-order.ensures.value) at c.requires.index in
    narrow_fits header.v2.cluster_bits c.cluster_bits-bits.result c.refcount_order-order.result c.args.index c.in_ok-offset.offset.0 _ (search rules) c.cluster_bits-bits.ensures.value
    (search rules) below c.in_ok-offset.ensures.fits

pub returns-in_ok-read_wide-in-4-clause-reads : goal.returns-in_ok-read_wide-in-4-clause-reads
returns-in_ok-read_wide-in-4-clause-reads g c =
    let order = sym c.refcount_order-order.ensures.value ∙ c.in-4.is in
    reads_counter c.args.header.now c.args.cluster c.args.index c.in_ok-offset.offset.0 4 (Ok c.from.result) _ _ (search rules) (search rules) (sym order) c.requires.index
    (record { exact = λ told. search rules; faults = tt; storage = search rules })

pub returns-in_ok-read_wide-in-5-clause-reads : goal.returns-in_ok-read_wide-in-5-clause-reads
returns-in_ok-read_wide-in-5-clause-reads g c =
    let order = sym c.refcount_order-order.ensures.value ∙ c.in-5.is in
    reads_counter c.args.header.now c.args.cluster c.args.index c.in_ok-offset.offset.0 5 (Ok c.from-in-5.result) _ _ (search rules) (search rules) (sym order) c.requires.index
    (record { exact = λ told. search rules; faults = tt; storage = search rules })

pub returns-in-6-clause-reads : goal.returns-in-6-clause-reads
returns-in-6-clause-reads g c =
    let order = sym c.refcount_order-order.ensures.value ∙ c.in-6.is in
    reads_counter c.args.header.now c.args.cluster c.args.index c.in_ok-offset.offset.0 6 c.read_wide-in-6.result _ _ (search rules) (search rules) (sym order) c.requires.index
    c.read_wide-in-6.ensures.reads

pub returns-in_default-clause-reads : goal.returns-in_default-clause-reads
returns-in_default-clause-reads g c =
    reads_counter c.args.header.now c.args.cluster c.args.index c.in_ok-offset.offset.0 c.refcount_order-order.result c.read_narrow.result _ _ (search rules) (search rules)
    c.refcount_order-order.ensures.value c.requires.index c.read_narrow.ensures.reads
