use Rattle.std.proofs.Common.{◌≡◌, ℕ, ◌+◌, ◌<◌, length, slice_index}
use Rattle.qcow2_base.specs.Storage.{image_of}
use Rattle.qcow2_metadata.specs.Refblock.Packing.{counter_at}
use Rattle.qcow2_bytes.proofs.refcounts.fill_counters.Given as goal

-- the counters so far are in their places
abbrev pub invariant-loop-index : goal.invariant-loop-index
invariant-loop-index l = record {
  len : length l.counters ≡ length l.initial.counters;
  read : (i : ℕ) → i < l.index → slice_index l.counters i ≡ counter_at l.order (image_of l.bytes) 0 (l.first + i);
}
