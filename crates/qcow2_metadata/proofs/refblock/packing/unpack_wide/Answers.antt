use Rattle.std.proofs.Common.{[], ◌∷◌, ◌∙◌, map, take, ap, rules, add-zero, length-set}
use Rattle.std.proofs.lemmas.List.{map-append, take_more_set}
use Rattle.qcow2_base.specs.Storage.{image_of}
use Rattle.qcow2_metadata.proofs.PackingLemmas.{wide_counters_more}
use Rattle.qcow2_metadata.proofs.refblock.packing.unpack_wide.Goals as goal

pub loop-index-preserved : goal.loop-index-preserved
loop-index-preserved g c =
    let counter = g.T.WideCounter in
    let laws = g.met.T.WideCounter in
    let index = c.loop-index.index in
    let list = c.loop-index.list in
    let x = c.read_be.result in
    let held = rw (laws.layout_is x, c.ON_DISK_SIZE.ensures) at c.read_be.ensures in
    record {
      len = length-set list index x ∙ c.loop-index.invariant.len;
      read = ap (map counter.number) (take_more_set list index x (search rules)) ∙ map-append counter.number (take index list) (x ∷ [])
          ∙ wide_counters_more counter.order g.T.OnDiskStruct.ON_DISK_SIZE index (image_of c.args.bytes.now) (counter.number x) (map counter.number (take index list)) counter.wide.0 laws.size (rw (add-zero _) at held.0) c.loop-index.invariant.read;
    }
