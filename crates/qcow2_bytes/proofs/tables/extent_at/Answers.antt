use Rattle.std.proofs.Common.{◌≤◌, ◌+◌, ◌-◌, ◌*◌, ◌/◌, ◌^◌, arith, length}
use Rattle.std.proofs.lemmas.Bool.Decides.{nat_tests}
use Rattle.qcow2_base.specs.Storage.{image_of}
use Rattle.qcow2_base.proofs.StorageLemmas.{be_fits}
use Rattle.qcow2_bytes.proofs.TablesLemmas.{guest_place, joined_entries, values_fit}
use Rattle.qcow2_bytes.proofs.tables.extent_at.Goals as goal

pub end-end-requires-clause-fits : goal.end-end-requires-clause-fits
end-end-requires-clause-fits c =
    let within : length c.args.bytes.now ≤ 2 ^ c.args.cluster_bits = grind (arith, nat_tests, c.requires.part) in
    values_fit c.args.cluster_bits c.of.result.value c.of.result.step (length c.args.bytes.now) c.requires.bits.1 within c.of.ensures.fits

pub returns : goal.returns
returns c =
    let cb = c.args.cluster_bits in
    let bytes = c.args.bytes.now in
    let offset = c.args.first_guest_offset in
    let index = c.args.index in
    let fields = c.mapping_of-mapping.ensures (offset / 2 ^ cb + index) (guest_place cb bytes offset index c.requires.bits.1 c.requires.part (omega (arith, c.requires.within))) in (
      c.end-end.result - index,
      joined_entries cb c.args.external offset bytes index c.end-end.result c.of.result c.mapping_of-mapping.result c.requires.bits c.requires.part c.requires.valid
          (λ i. be_fits (image_of bytes) (8 * i) 8 (λ o. (c.type_inv.bytes o).fits)) (rw c.number_at-entry.ensures at c.of.ensures.exact) c.end-end.ensures (rw c.number_at-entry.ensures at fields),
    )
