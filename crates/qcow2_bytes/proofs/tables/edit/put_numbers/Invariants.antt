use Rattle.std.proofs.Common.{◌≡◌, ℕ, ◌*◌, ◌<◌, length, slice_index}
use Rattle.qcow2_base.specs.Storage.{be, image_of}
use Rattle.qcow2_bytes.proofs.tables.edit.put_numbers.Given as goal

-- the numbers of the entries before this one are in the bytes
abbrev pub invariant-loop-index : goal.invariant-loop-index
invariant-loop-index l = record {
  len : length l.bytes ≡ length l.initial.bytes;
  written : (i : ℕ) → i < l.index → be (image_of l.bytes) (8 * i) 8 ≡ slice_index l.table.numbers i;
}
