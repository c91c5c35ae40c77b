use Rattle.std.proofs.Common.{◌≡◌, ℕ, ◌+◌, ◌<◌, length, slice_index}
use Rattle.qcow2_metadata.specs.Refblock.Packing.{counter_bytes}
use Rattle.qcow2_metadata.proofs.refblock.packing.pack_bytes.Given as goal

-- the bytes so far are in the buffer
abbrev pub invariant-loop-index : goal.invariant-loop-index
invariant-loop-index g l = record {
  len : length l.buffer ≡ length l.initial.buffer;
  packed : (i : ℕ) → i < l.index → slice_index l.buffer i ≡ counter_bytes g.row.ORDER l.list (l.first + i);
}
