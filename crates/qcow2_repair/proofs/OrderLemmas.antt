use Rattle.std.proofs.Common.{◌≡◌, ℕ, false, ◌+◌, ◌*◌, ◌/◌, ◌^◌, ◌<◌, ◌≤◌, flat_map, ◌++◌, slice_index, Some, None, add-zero, ap, sym, ◌∙◌, arith}
use Rattle.std.proofs.lemmas.Grind.{div_ceil_times}
use Rattle.std.proofs.lemmas.Nat.{div-mul-add, pow_pos}
use Rattle.std.proofs.Math.Nat.{div-lt_iff_lt-mul, mul-div_cancel}
use Rattle.std.specs.Int.{div_ceil}
use Rattle.qcow2_base.specs.Format.{max_file_length}
use Rattle.qcow2_base.specs.Storage.{Image}
use Rattle.qcow2_base.specs.declared.types.HostCluster.{HostCluster}
use Rattle.qcow2_metadata.proofs.EntriesLemmas.{div_rises}
use Rattle.qcow2_metadata.proofs.TableLemmas.{table_numbers_same}
use Rattle.qcow2_metadata.specs.Header.{geometry_of}
use Rattle.qcow2_metadata.specs.Placed.{offset_of}
use Rattle.qcow2_summary.proofs.ApartLemmas.{kind-append, l1-used}
use Rattle.qcow2_check.proofs.FindingsLemmas.{excludes, uses_by_kind}
use Rattle.qcow2_check.specs.Counters.{blocks_fault, counters_each}
use Rattle.qcow2_check.specs.Findings.{is_shared, uses_of_kind}
use Rattle.qcow2_check.specs.NamedTables.{l1_cluster, l1_layout, named_block}
use Rattle.qcow2_check.specs.Uses.{ImageTables, block_uses, header_uses, image_uses, l1_entry_uses}
use Rattle.qcow2_check.specs.declared.tally.TallyKind.TheVariants.{Fixed}
use Rattle.qcow2_repair.proofs.CountersLemmas.{below-end, place_of_named}
use Rattle.qcow2_repair.proofs.RepairLemmas.{blocks-used}
use Rattle.qcow2_repair.specs.Repair.{IsRepairable}
use Rattle.qcow2_repair.specs.Counters.{IsOutsideBlocks}
use Rattle.qcow2_repair.specs.Flags.{l1_in}

-- an image has the fixed uses of its header, and those of its refcount table
pub fixed-both : (tables : ImageTables) (image : Image) (c : ℕ)
    → uses_of_kind Fixed (header_uses tables.header) c + uses_of_kind Fixed (flat_map (block_uses tables.header.v2.cluster_bits) tables.reftable) c
    ≤ uses_of_kind Fixed (image_uses tables image) c
fixed-both tables image c =
    let first = header_uses tables.header in
    let blocks = flat_map (block_uses tables.header.v2.cluster_bits) tables.reftable in
    let last = flat_map (l1_entry_uses (geometry_of tables.header) image) tables.l1 in
    omega (arith, kind-append Fixed first (blocks ++ last) c, kind-append Fixed blocks last c)

-- a block that a refcount table entry names lies below the greatest end
pub named-block-below : (tables : ImageTables) (i : ℕ) (block : HostCluster) → blocks_fault tables.header tables.reftable ≡ None
    → named_block tables.header.v2.cluster_bits (slice_index tables.reftable i) ≡ Some block → block.0 < max_file_length
named-block-below tables i block placed names =
    let first : i ≡ i * counters_each tables.header / counters_each tables.header = sym (mul-div_cancel i (pow_pos _)) in
    below-end tables block (place_of_named tables.header tables.reftable i (i * counters_each tables.header) block placed first names)

-- the L1 table lies in no refcount block, where no uses exclude each other
pub l1-outside-blocks : (tables : ImageTables) (image : Image) (o : ℕ) → IsRepairable tables image
    → offset_of (l1_layout tables.header) (l1_cluster tables.header) ≤ o
    → o < offset_of (l1_layout tables.header) (l1_cluster tables.header) + (l1_layout tables.header).byte_count → IsOutsideBlocks tables o
l1-outside-blocks tables image o is from before i block names here =
    let header = tables.header in
    let uses = image_uses tables image in
    let w = 2 ^ header.v2.cluster_bits in
    let first = (l1_cluster header).0 in
    let count = div_ceil (8 * header.v2.l1_size) w in
    let fits : 8 * header.v2.l1_size ≤ count * w = (div_ceil_times (8 * header.v2.l1_size) w (pow_pos _)).0 in
    let low : first ≤ o / w = rw (ap (λ n. n / w) (sym (add-zero (first * w))) ∙ div-mul-add first w 0 (pow_pos _)) at (div_rises (first * w) o w (pow_pos _) from) in
    let high : o / w < first + count = (div-lt_iff_lt-mul (pow_pos _)).1 (omega (arith, before, fits)) in
    let below = named-block-below tables i block is.placed names in
    let apart : is_shared uses block.0 ≡ false = is.apart block.0 below in
    let one = l1-used header block.0 (rw here at low) (rw here at high) in
    let other = blocks-used header.v2.cluster_bits tables.reftable i block names in
    omega (arith, one, other, fixed-both tables image block.0, (excludes uses block.0 apart).0 (omega (arith, one, fixed-both tables image block.0)), uses_by_kind uses block.0)

-- so it stays while counters change
pub l1-stays : (tables : ImageTables) (old new : Image) → IsRepairable tables old → ((o : ℕ) → IsOutsideBlocks tables o → new o ≡ old o) → l1_in tables.header new ≡ l1_in tables.header old
l1-stays tables old new is others = table_numbers_same new old _ _ tables.header.v2.l1_size
    (λ k below. others _ (l1-outside-blocks tables old _ is (omega arith) (omega (arith, below))))
