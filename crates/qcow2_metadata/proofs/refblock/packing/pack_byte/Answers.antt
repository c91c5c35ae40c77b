use Rattle.std.proofs.Common.{◌<◌, length, pow_pos, arith}
use Rattle.qcow2_metadata.specs.Refblock.Packing.{width}
use Rattle.qcow2_metadata.proofs.PackingLemmas.{digit_more, from_digits-more, place_fits, shifted_one}
use Rattle.qcow2_metadata.proofs.refblock.packing.pack_byte.Goals as goal

pub overflow_shl-byte : goal.overflow_shl-byte
overflow_shl-byte g c =
    let fits = place_fits g.row.ORDER g.row.PER c.loop-index.index (omega arith) c.requires.per c.loop-index-test.true in
    rw (shifted_one g.row.ORDER c.requires.order) (omega (arith, fits, pow_pos g.row.ORDER))

pub overflow_cast-byte : goal.overflow_cast-byte
overflow_cast-byte g c = let below = overflow_shl-byte g c in omega arith

pub overflow_add-byte : goal.overflow_add-byte
overflow_add-byte g c =
    let more = digit_more g.row.ORDER g.row.PER c.loop-index.index c.loop-index.byte c.args.counters.now (omega arith) c.requires.per c.requires.count c.requires.small c.loop-index-test.true c.loop-index.invariant.small in
    rw (shifted_one g.row.ORDER c.requires.order, more.whole) (omega (arith, more.fits))

pub loop-index-preserved : goal.loop-index-preserved
loop-index-preserved g c =
    let w = width g.row.ORDER in
    let index = c.loop-index.index in
    let counters = c.args.counters.now in
    let within : index < length counters = omega arith in
    let more = digit_more g.row.ORDER g.row.PER index c.loop-index.byte counters (omega arith) c.requires.per c.requires.count c.requires.small c.loop-index-test.true c.loop-index.invariant.small in
    rw (shifted_one g.row.ORDER c.requires.order, more.whole) (record {
      byte = omega (arith, from_digits-more w index counters within);
      small = more.below;
    })
