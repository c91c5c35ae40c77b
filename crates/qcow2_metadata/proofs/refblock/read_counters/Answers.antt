use Rattle.std.proofs.Common.{◌≡◌, ◌+◌, ◌-◌, ◌*◌, ◌/◌, ◌%◌, ◌^◌, ◌<◌, ◌≤◌, ◌∙◌, length, min, take, ap, sym, arith, pow_pos, rules}
use Rattle.std.proofs.Math.Nat.{div-le_of_le-mul, mul-div_cancel_left}
use Rattle.std.proofs.lemmas.List.{take_all}
use Rattle.qcow2_base.specs.Storage.{Holds, image_of}
use Rattle.qcow2_metadata.proofs.PackingLemmas.{counters_at-length, counters_at-small}
use Rattle.qcow2_metadata.proofs.RefblockLemmas.{block_bytes, count-more, counters-more, piece_in_eights, piece-within, take-with_numbers_from, whole_counters, with_numbers_from-length, with_numbers_from-small}
use Rattle.qcow2_metadata.specs.Refblock.{block_entries}
use Rattle.qcow2_metadata.specs.Refblock.Packing.{counters_at, width}
use Rattle.qcow2_metadata.specs.Refblock.Counters.{kept_counters}
use Rattle.qcow2_metadata.proofs.refblock.read_counters.Goals as goal

pub unpack-requires-clause-within : goal.unpack-requires-clause-within
unpack-requires-clause-within g c =
    let cb = c.args.header.now.v2.cluster_bits in
    let order = c.refcount_order-order.result in
    let first = 4096 * c.loop-piece.piece in
    let list = kept_counters c.loop-piece.counters in
    let buffer = c.read_range.new.buffer in
    let entries : length list ≡ block_entries cb order = rw c.refcount_order-order.ensures.value (c.loop-piece.invariant.count ∙ c.requires.valid.numbers.count) in
    let some : first < c.cluster_size-size.result = omega arith in
    let len : length buffer ≡ min (c.cluster_size-size.result - first) 4096 = search rules in
    piece-within cb order (length list) c.loop-piece.piece (length buffer) c.requires.valid.numbers.bits c.refcount_order-order.ensures.range entries
    (rw c.cluster_size-size.ensures.value at some) (rw c.cluster_size-size.ensures.value at len)

pub unpack-requires-clause-whole : goal.unpack-requires-clause-whole
unpack-requires-clause-whole g c =
    let buffer = c.read_range.new.buffer in
    let len : length buffer ≡ min (c.cluster_size-size.result - 4096 * c.loop-piece.piece) 4096 = search rules in
    piece_in_eights c.args.header.now.v2.cluster_bits c.loop-piece.piece (length buffer) c.requires.valid.numbers.bits (rw c.cluster_size-size.ensures.value at len)

pub loop-piece-preserved : goal.loop-piece-preserved
loop-piece-preserved g c =
    let order = c.refcount_order-order.result in
    let orders = c.refcount_order-order.ensures.range in
    let image = (g.S.Storage.state c.args.image.now).byte_at in
    let offset = c.args.offset.0 in
    let size = c.cluster_size-size.result in
    let first = 4096 * c.loop-piece.piece in
    let before = c.loop-piece.invariant in
    let list = kept_counters c.loop-piece.counters in
    let new = kept_counters c.unpack.new.self in
    let buffer = c.read_range.new.buffer in
    let done = 8 * first / width order in
    let m = 8 * length buffer / width order in
    let read = counters_at order (image_of buffer) 0 m in
    let some : first < size = omega arith in
    let len : length buffer ≡ min (size - first) 4096 = search rules in
    let cb = c.args.header.now.v2.cluster_bits in
    let size_is = c.cluster_size-size.ensures.value in
    let eights : length buffer % 8 ≡ 0 = piece_in_eights cb c.loop-piece.piece (length buffer) c.requires.valid.numbers.bits (rw size_is at len) in
    let entries : length list ≡ block_entries cb order = rw c.refcount_order-order.ensures.value (before.count ∙ c.requires.valid.numbers.count) in
    let in_block = piece-within cb order (length list) c.loop-piece.piece (length buffer) c.requires.valid.numbers.bits orders entries (rw size_is at some) (rw size_is at len) in
    let whole : width order * done ≡ 8 * first = whole_counters order first orders (omega arith) in
    let more : 8 * (first + length buffer) / width order ≡ done + m = count-more order first (length buffer) orders (omega arith) eights in
    let count : length read ≡ m = counters_at-length order (image_of buffer) 0 m in
    let within : done + length read ≤ length list = omega (arith, div-le_of_le-mul (width order) in_block, more, count) in
    let here : min first size ≡ first = omega (arith, some) in
    let next : min (4096 * (c.loop-piece.piece + 1)) size ≡ first + length buffer = omega (arith, len, some) in
    let so_far = rw here at before.told in
    record {
      kind = c.unpack.ensures.kind;
      count = ap length c.unpack.ensures.numbers ∙ with_numbers_from-length list done read within ∙ before.count;
      small = rw c.unpack.ensures.numbers (with_numbers_from-small order list done read before.small (counters_at-small order (image_of buffer) 0 m orders (search rules)));
      told = λ told.
          let held : Holds image (offset + first) buffer = rw before.bytes at (c.in_ok-read_range.ensures.held (before.device.tells ∙ told)) in
          rw (next, more, c.unpack.ensures.numbers) (take-with_numbers_from list done read (done + m) (ap (λ n. done + n) (sym count)) within
          ∙ counters-more order done first image offset (take done list) buffer orders eights held whole (so_far told));
      bytes = search rules;
      end = search rules;
      failures = search rules;
      device = search rules;
    }

pub returns-clause-numbers : goal.returns-clause-numbers
returns-clause-numbers g c = λ told.
    let order = c.refcount_order-order.result in
    let cb = c.args.header.now.v2.cluster_bits in
    let orders = c.refcount_order-order.ensures.range in
    let n = block_entries cb order in
    let list = kept_counters c.loop-piece.counters in
    let entries : length list ≡ n = rw c.refcount_order-order.ensures.value (c.loop-piece.invariant.count ∙ c.requires.valid.numbers.count) in
    let all : min (4096 * c.loop-piece.piece) c.cluster_size-size.result ≡ 2 ^ cb = omega (arith, c.cluster_size-size.ensures.value) in
    let count : 8 * 2 ^ cb / width order ≡ n = rw (← block_bytes cb order c.requires.valid.numbers.bits orders) (mul-div_cancel_left n (pow_pos order)) in
    let so_far = rw (all, count) at (c.loop-piece.invariant.told told) in
    rw (← c.refcount_order-order.ensures.value) (sym (take_all n list (omega (arith, entries))) ∙ so_far)
