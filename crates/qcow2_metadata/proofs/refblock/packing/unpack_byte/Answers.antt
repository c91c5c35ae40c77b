use Rattle.std.proofs.Common.{ℕ, ◌*◌, ◌∙◌, length-set, pow_mono, pow_pos, arith}
use Rattle.std.proofs.lemmas.List.Edits.{fill_by_more}
use Rattle.qcow2_base.specs.Bits.{field}
use Rattle.qcow2_metadata.specs.Refblock.Packing.{width}
use Rattle.qcow2_metadata.proofs.PackingLemmas.{counters_of_byte, place_fits, shifted_one, values_fit}
use Rattle.qcow2_metadata.proofs.refblock.packing.unpack_byte.Goals as goal
use Rattle.std.proofs.lemmas.Bool.Decides.{nat_tests}

pub overflow_shr-counters : goal.overflow_shr-counters
overflow_shr-counters g c =
    let fits = place_fits g.row.ORDER g.row.PER c.loop-index.index (omega arith) c.requires.per c.loop-index-test.true in
    rw (shifted_one g.row.ORDER c.requires.order) (omega (arith, fits, pow_pos g.row.ORDER))

pub overflow_cast-counters : goal.overflow_cast-counters
overflow_cast-counters g c = let below = overflow_shr-counters g c in omega arith

pub overflow_shl-counters : goal.overflow_shl-counters
overflow_shl-counters g c = grind (arith, nat_tests, pow_mono, shifted_one)

pub nonzero_rem-counters : goal.nonzero_rem-counters
nonzero_rem-counters g c = rw (shifted_one g.row.ORDER c.requires.order, values_fit g.row.ORDER c.requires.order) (pow_pos (width g.row.ORDER))

pub loop-index-preserved : goal.loop-index-preserved
loop-index-preserved g c =
    let digit = λ (i : ℕ). field c.args.byte (width g.row.ORDER * i) (width g.row.ORDER) in
    record {
      len = length-set c.loop-index.counters c.loop-index.index _ ∙ c.loop-index.invariant.len;
      read = rw (shifted_one g.row.ORDER c.requires.order, values_fit g.row.ORDER c.requires.order)
          (fill_by_more digit c.loop-index.counters c.loop-index.index 0 (omega arith) c.loop-index.invariant.read);
    }

pub returns : goal.returns
returns g c = grind (arith, nat_tests, counters_of_byte)
