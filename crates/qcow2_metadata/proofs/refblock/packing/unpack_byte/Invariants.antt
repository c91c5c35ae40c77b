use Rattle.std.proofs.Common.{◌≡◌, ℕ, ◌*◌, ◌<◌, length, slice_index}
use Rattle.qcow2_base.specs.Bits.{field}
use Rattle.qcow2_metadata.specs.Refblock.Packing.{width}
use Rattle.qcow2_metadata.proofs.refblock.packing.unpack_byte.Given as goal

-- the counters so far are in the array
abbrev pub invariant-loop-index : goal.invariant-loop-index
invariant-loop-index g l = record {
  len : length l.counters ≡ g.row.PER;
  read : (i : ℕ) → i < l.index → slice_index l.counters i ≡ field l.byte (width g.row.ORDER * i) (width g.row.ORDER);
}
