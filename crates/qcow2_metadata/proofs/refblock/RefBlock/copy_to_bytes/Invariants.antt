use Rattle.std.proofs.Common.{◌≡◌, ℕ, ◌*◌, ◌<◌, length, slice_index}
use Rattle.qcow2_metadata.specs.Refblock.{block_layout}
use Rattle.qcow2_metadata.proofs.refblock.RefBlock.copy_to_bytes.Given as goal

-- the bytes of the pieces before this one are in their places
abbrev pub invariant-loop-piece : goal.invariant-loop-piece
invariant-loop-piece l = record {
  len : length l.bytes ≡ length l.initial.bytes;
  packed : (i : ℕ) → i < length l.bytes → i < 4096 * l.piece → slice_index l.bytes i ≡ (block_layout l.self.geometry).bytes_of l.self.numbers i;
}
