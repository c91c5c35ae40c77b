use Rattle.std.proofs.Common.{◌≡◌, ◌+◌, ◌*◌, ◌/◌, ◌<◌, length, map, slice_index, sym, ◌∙◌, ap, add-zero, arith}
use Rattle.std.proofs.lemmas.List.{get_or-map}
use Rattle.qcow2_metadata.proofs.PackingLemmas.{counter_within, wide_bytes-more}
use Rattle.qcow2_metadata.proofs.refblock.packing.pack_wide.Goals as goal
use Rattle.std.proofs.lemmas.Bool.Decides.{nat_tests}

pub bounds-list-first : goal.bounds-list-first
bounds-list-first g c = grind (arith, nat_tests, counter_within)

pub overflow_add-first : goal.overflow_add-first
overflow_add-first g c = let below = bounds-list-first g c in omega arith

pub offset_bounds-list-first : goal.offset_bounds-list-first
offset_bounds-list-first g c = let below = bounds-list-first g c in omega arith

pub loop-index-preserved : goal.loop-index-preserved
loop-index-preserved g c =
    let counter = g.T.WideCounter in
    let laws = g.met.T.WideCounter in
    let size = g.T.OnDiskStruct.ON_DISK_SIZE in
    let index = c.loop-index.index in
    let counters = map counter.number c.args.list.now in
    let x = c.index-list-first.result in
    let room : index < length c.args.buffer.now / size = rw c.ON_DISK_SIZE.ensures at c.loop-index-test.true in
    let within = counter_within counter.order size c.args.first index (length c.args.buffer.now) (length c.args.list.now) laws.size room c.requires.within in
    let stored = rw (laws.layout_is x, c.ON_DISK_SIZE-in-loop-index.ensures) at c.write_be.ensures in
    let item : slice_index counters (c.args.first + index) ≡ counter.number x =
    get_or-map counter.number c.args.list.now (c.args.first + index) x 0 within ∙ ap counter.number (sym c.index-list-first.is) in
    record {
      len = omega arith;
      packed = wide_bytes-more counter.order size c.args.first index counters c.loop-index.buffer c.write_be.new.bytes counter.wide.0 laws.size
          (λ i. (c.type_inv.buffer i).fits) c.loop-index.invariant.packed (rw (add-zero (size * index)) at stored.placed.0 ∙ sym item)
          (λ i gap. stored.gaps i (rw (add-zero (size * index)) (gap, tt)));
    }
