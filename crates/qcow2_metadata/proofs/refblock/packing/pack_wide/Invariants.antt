use Rattle.std.proofs.Common.{◌≡◌, ℕ, ◌+◌, ◌*◌, ◌<◌, length, map, slice_index}
use Rattle.qcow2_metadata.specs.Refblock.Packing.{counter_bytes}
use Rattle.qcow2_metadata.proofs.refblock.packing.pack_wide.Given as goal

-- the bytes of the counters so far are in the buffer
abbrev pub invariant-loop-index : goal.invariant-loop-index
invariant-loop-index g l = record {
  len : length l.buffer ≡ length l.initial.buffer;
  packed : (i : ℕ) → i < g.T.OnDiskStruct.ON_DISK_SIZE * l.index → slice_index l.buffer i
      ≡ counter_bytes g.T.WideCounter.order (map g.T.WideCounter.number l.list) (g.T.OnDiskStruct.ON_DISK_SIZE * l.first + i);
}
