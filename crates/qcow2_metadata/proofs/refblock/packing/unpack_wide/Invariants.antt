use Rattle.std.proofs.Common.{◌≡◌, length, map, take}
use Rattle.qcow2_base.specs.Storage.{image_of}
use Rattle.qcow2_metadata.specs.Refblock.Packing.{counters_at}
use Rattle.qcow2_metadata.proofs.refblock.packing.unpack_wide.Given as goal

-- the counters so far are in the list
abbrev pub invariant-loop-index : goal.invariant-loop-index
invariant-loop-index g l = record {
  len : length l.list ≡ length l.initial.list;
  read : map g.T.WideCounter.number (take l.index l.list) ≡ counters_at g.T.WideCounter.order (image_of l.bytes) 0 l.index;
}
