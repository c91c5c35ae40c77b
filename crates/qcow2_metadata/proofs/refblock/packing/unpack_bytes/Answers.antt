use Rattle.std.proofs.Common.{◌≡◌, [], ◌∷◌, ◌+◌, ◌-◌, ◌*◌, ◌++◌, ◌∙◌, ◌≤◌, rules, ap, arith, length, refl, take, slice_index}
use Rattle.std.proofs.Math.Nat.{mul-le-mul_left}
use Rattle.std.proofs.lemmas.Slice.{take-put_mid}
use Rattle.qcow2_base.specs.Storage.{image_of}
use Rattle.qcow2_metadata.specs.Refblock.Packing.{counters_at}
use Rattle.qcow2_metadata.proofs.PackingLemmas.{narrow_counters_more}
use Rattle.qcow2_metadata.proofs.refblock.packing.unpack_bytes.Goals.{then-bytes-index, else-bytes-index}
use Rattle.qcow2_metadata.proofs.refblock.packing.unpack_bytes.Goals as goal

pub loop-index-preserved : goal.loop-index-preserved
loop-index-preserved g c =
    let index = c.loop-index.index in
    let first = g.row.PER * index in
    let list = c.loop-index.list in
    let merged = c.if-bytes-index in
    let same : merged.last ≡ slice_index c.args.bytes.now index = elim merged.branch [
      | then-bytes-index w ↦ search rules
      | else-bytes-index w ↦ search rules
    ] in
    let kept : merged.counters ≡ counters_at g.row.ORDER (image_of (merged.last ∷ [])) 0 g.row.PER = elim merged.branch [
      | then-bytes-index w ↦ search rules
      | else-bytes-index w ↦ search rules
    ] in
    let within : g.row.PER * (index + 1) ≤ length list = omega (arith, mul-le-mul_left {m = index + 1} {n = length c.args.bytes.now} g.row.PER (omega arith), c.requires.count, c.loop-index.invariant.len) in
    record {
      len = search rules;
      read = take-put_mid first (first + g.row.PER - first) list c.copy_from_slice.new.self (g.row.PER * (index + 1)) (omega (arith, within)) (search rules)
          ∙ ap (λ xs. take first list ++ xs) (c.copy_from_slice.ensures.after ∙ rw same at kept)
          ∙ narrow_counters_more g.row.ORDER g.row.PER index (slice_index c.args.bytes.now index) c.args.bytes.now (take first list) (omega arith) c.requires.per refl c.loop-index.invariant.read;
      kept = kept;
    }
