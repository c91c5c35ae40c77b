use Rattle.std.proofs.Common.{◌≡◌, ℕ, ◌+◌, ◌-◌, ◌*◌, ◌/◌, ◌%◌, ◌^◌, ◌<◌, ◌≤◌, List, length, slice_index, refl, sym, ◌∙◌, ap, zero-add, mul_comm, le-leb, pow_mono, pow_pos, Result, Ok, Err, IfErr, inl, inr, ◌⊎◌, None, arith}
use Rattle.std.proofs.lemmas.Bool.{lt-leb}
use Rattle.std.proofs.lemmas.List.FromFn.{get_or-map-range_with_len}
use Rattle.std.proofs.lemmas.Nat.{div_below}
use Rattle.qcow2_base.specs.Bits.{field}
use Rattle.qcow2_base.specs.Storage.{Holds, Image, StorageState, be, image_of}
use Rattle.qcow2_base.specs.Types.{IsClusterBits}
use Rattle.qcow2_base.specs.declared.fault.Fault.{Fault}
use Rattle.qcow2_base.specs.declared.types.HostCluster.{HostCluster}
use Rattle.qcow2_base.proofs.StorageLemmas.{be_of_same}
use Rattle.qcow2_metadata.proofs.PackingLemmas.{narrow_cases, narrow_count}
use Rattle.qcow2_metadata.proofs.RefblockLemmas.{block_bytes}
use Rattle.qcow2_metadata.specs.Header.{HeaderRecord}
use Rattle.qcow2_metadata.specs.Placed.{place_fault}
use Rattle.qcow2_metadata.specs.Refblock.{IsBlockFault, block_entries, block_geometry_of, block_layout, loaded_block}
use Rattle.qcow2_metadata.specs.Results.{IsFromOutside, Reads, result_map}
use Rattle.qcow2_metadata.specs.Refblock.Packing.{bytes_each, counter_at, per_byte, width}

-- as the code computes them: how many narrow counters a byte has, and how many bits each of them
computed_count : (order : ℕ) → order ≤ 3 → 1 * 2 ^ (3 - order) % 2 ^ 64 ≡ per_byte order
computed_count = narrow_cases (λ order. 1 * 2 ^ (3 - order) % 2 ^ 64 ≡ per_byte order) refl refl refl refl

computed_width : (order : ℕ) → order ≤ 3 → 1 * 2 ^ order % 2 ^ 32 ≡ width order
computed_width = narrow_cases (λ order. 1 * 2 ^ order % 2 ^ 32 ≡ width order) refl refl refl refl

-- the bits of a narrow counter lie within its byte
pub narrow_first : (order i : ℕ) → order ≤ 3 → i % (1 * 2 ^ (3 - order) % 2 ^ 64) * (1 * 2 ^ order % 2 ^ 32) < 64
narrow_first order i low =
    narrow_cases (λ order. i % (1 * 2 ^ (3 - order) % 2 ^ 64) * (1 * 2 ^ order % 2 ^ 32) < 64) (omega arith) (omega arith) (omega arith) (omega arith) order low

pub narrow_width : (order : ℕ) → order ≤ 3 → 1 * 2 ^ order % 2 ^ 32 < 64
narrow_width order low = narrow_cases (λ order. 1 * 2 ^ order % 2 ^ 32 < 64) (omega arith) (omega arith) (omega arith) (omega arith) order low

-- a narrow counter is read of its byte
pub narrow_read : (order i byte value : ℕ) (image : Image) (offset : ℕ) → order ≤ 3
    → byte ≡ image (offset + i / (1 * 2 ^ (3 - order) % 2 ^ 64))
    → value ≡ field byte (i % (1 * 2 ^ (3 - order) % 2 ^ 64) * (1 * 2 ^ order % 2 ^ 32)) (1 * 2 ^ order % 2 ^ 32)
    → counter_at order image offset i ≡ value
narrow_read order i byte value image offset low at is =
    let here = rw (computed_count order low) at at in
    let bits = rw (computed_count order low, computed_width order low, mul_comm (i % per_byte order) (width order)) at is in
    rw (le-leb order 3 low, ← here) (sym bits)

-- a wide one of its bytes
pub wide_read : (order size i value : ℕ) (image : Image) (offset place : ℕ) (buffer : List ℕ) → 4 ≤ order → size ≡ bytes_each order
    → length buffer ≡ size → place ≡ offset + size * i → Holds image place buffer → be (image_of buffer) 0 size ≡ value
    → counter_at order image offset i ≡ value
wide_read order size i value image offset place buffer wide each len at held number =
    let same : be image (offset + size * i) size ≡ be (image_of buffer) 0 size =
    be_of_same image (image_of buffer) size (offset + size * i) 0
    (λ k small. rw (zero-add k, ← at) (sym (held.each k (omega (arith, small, len))))) in
    rw (lt-leb order 3 wide, ← each) (same ∙ number)

-- a counter of a block lies within its cluster
pub narrow_within : (cb order i : ℕ) → IsClusterBits cb → order ≤ 3 → i < block_entries cb order → i / per_byte order < 2 ^ cb
narrow_within cb order i bits low below =
    let orders : order ≤ 6 = omega (arith, low) in
    let count = narrow_count order low (block_entries cb order) (2 ^ cb) (block_bytes cb order bits orders) in
    div_below i (per_byte order) (2 ^ cb) (pow_pos (3 - order)) (omega (arith, below, count))

pub wide_within : (cb order size i : ℕ) → IsClusterBits cb → order ≤ 6 → 8 * size ≡ width order → i < block_entries cb order
    → size * i + size ≤ 2 ^ cb
wide_within cb order size i bits high each below =
    let whole = rw (← each) at (block_bytes cb order bits high) in
    grind (arith, whole)

-- so it ends where the cluster may end
computed_size : (cb bits : ℕ) → IsClusterBits cb → bits ≡ cb → 1 * 2 ^ bits % 2 ^ 64 ≡ 2 ^ cb
computed_size cb bits range is =
    let power : 2 ^ cb ≤ 2 ^ 21 = pow_mono range.1 in
    rw is (omega (arith, power))

pub narrow_fits : (cb bits order index offset most : ℕ) → IsClusterBits cb → bits ≡ cb → order ≤ 3 → index < block_entries cb order
    → offset + 1 * 2 ^ bits % 2 ^ 64 ≤ most → offset + index / per_byte order < most
narrow_fits cb bits order index offset most range is low below end =
    omega (arith, narrow_within cb order index range low below, computed_size cb bits range is, end)

pub wide_fits : (cb bits order size index offset most : ℕ) → IsClusterBits cb → bits ≡ cb → order ≤ 6 → 8 * size ≡ width order
    → index < block_entries cb order → offset + 1 * 2 ^ bits % 2 ^ 64 ≤ most → offset + size * index + size ≤ most
wide_fits cb bits order size index offset most range is high each below end =
    omega (arith, wide_within cb order size index range high each below, computed_size cb bits range is, end)

-- what is read of a block's counter is what it has in the whole block
pub counter_of_loaded : (header : HeaderRecord) (cluster : HostCluster) (index offset : ℕ) (image : Image)
    → place_fault (block_layout (block_geometry_of header)) cluster ≡ None → offset ≡ cluster.0 * 2 ^ header.v2.cluster_bits
    → index < block_entries header.v2.cluster_bits header.base.refcount_order
    → result_map (λ (counters : List ℕ). slice_index counters index) (loaded_block header cluster image)
    ≡ Ok (counter_at header.base.refcount_order image offset index)
counter_of_loaded header cluster index offset image placed at below =
    rw (placed, at) (ap Ok (get_or-map-range_with_len (counter_at header.base.refcount_order image (cluster.0 * 2 ^ header.v2.cluster_bits)) 0
    (block_entries header.v2.cluster_bits header.base.refcount_order) index index 0 below (omega arith)))

outside_only : (answer : Result ℕ Fault) (Refuses : Fault → Type 0) → IfErr answer (λ fault. ⊥ ⊎ IsFromOutside fault)
    → IfErr answer (λ fault. Refuses fault ⊎ IsFromOutside fault)
outside_only (Ok value) Refuses none = tt
outside_only (Err fault) Refuses (inl never) = elim never [ ]
outside_only (Err fault) Refuses (inr outside) = inr outside

pub reads_counter : (header : HeaderRecord) (cluster : HostCluster) (index offset order : ℕ) (answer : Result ℕ Fault) (old new : StorageState)
    → place_fault (block_layout (block_geometry_of header)) cluster ≡ None → offset ≡ cluster.0 * 2 ^ header.v2.cluster_bits
    → order ≡ header.base.refcount_order → index < block_entries header.v2.cluster_bits header.base.refcount_order
    → Reads (λ counter. counter) answer (λ bytes. Ok (counter_at order bytes offset index)) (λ _. ⊥) old new
    → Reads (λ counter. counter) answer (λ bytes. result_map (λ counters. slice_index counters index) (loaded_block header cluster bytes))
    (IsBlockFault header cluster) old new
reads_counter header cluster index offset order answer old new placed at is below reads = record {
  exact = λ told. rw (counter_of_loaded header cluster index offset old.byte_at placed at below, ← is) (reads.exact told);
  faults = outside_only answer (IsBlockFault header cluster) reads.faults;
  storage = reads.storage;
}
