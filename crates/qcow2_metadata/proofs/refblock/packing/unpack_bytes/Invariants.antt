use Rattle.std.proofs.Common.{◌≡◌, [], ◌∷◌, ◌*◌, length, take}
use Rattle.qcow2_base.specs.Storage.{image_of}
use Rattle.qcow2_metadata.specs.Refblock.Packing.{counters_at}
use Rattle.qcow2_metadata.proofs.refblock.packing.unpack_bytes.Given as goal

-- the counters of the bytes so far are in the list, and those of the last byte are kept
abbrev pub invariant-loop-index : goal.invariant-loop-index
invariant-loop-index g l = record {
  len : length l.list ≡ length l.initial.list;
  read : take (g.row.PER * l.index) l.list ≡ counters_at g.row.ORDER (image_of l.bytes) 0 (g.row.PER * l.index);
  kept : l.counters ≡ counters_at g.row.ORDER (image_of (l.last ∷ [])) 0 g.row.PER;
}
