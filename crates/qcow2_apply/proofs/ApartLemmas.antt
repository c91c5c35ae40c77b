use Rattle.std.proofs.Common.{◌≡◌, ◌⊎◌, ℕ, zero, suc, false, ◌+◌, ◌*◌, ◌^◌, ◌<◌, ◌≤◌, List, [], ◌∷◌, ◌++◌, flat_map, slice_index, None, Some, option_map, option_to_list, ap, subst, inl, inr, ◌∙◌, arith}
use Rattle.std.proofs.lemmas.Bool.{cases_eq, cases_lt}
use Rattle.std.proofs.lemmas.Bool.Decides.{nat_tests}
use Rattle.std.proofs.lemmas.Nat.{mul-le, pow_pos}
use Rattle.qcow2_base.specs.Format.{max_file_length}
use Rattle.qcow2_base.specs.Storage.{Image}
use Rattle.qcow2_base.specs.declared.types.HostCluster.{HostCluster}
use Rattle.qcow2_metadata.specs.Header.{geometry_of}
use Rattle.qcow2_summary.proofs.ApartLemmas.{first-used, kind-append, named-below, named-used}
use Rattle.qcow2_summary.proofs.ReportedLemmas.{AreUnshared, once-used, right-unshared, twice-used}
use Rattle.qcow2_check.proofs.FindingsLemmas.{excludes, kind-cons, uses_by_kind}
use Rattle.qcow2_check.specs.Counters.{blocks_fault}
use Rattle.qcow2_check.specs.Findings.{AreRight, is_shared, uses_of_kind}
use Rattle.qcow2_check.specs.NamedTables.{named_block}
use Rattle.qcow2_check.specs.Tally.{used_clusters}
use Rattle.qcow2_check.specs.Uses.{ImageTables, block_uses, header_uses, image_uses, l1_entry_uses}
use Rattle.qcow2_check.specs.declared.tally.TallyKind.TheVariants.{Fixed, L2Table}
use Rattle.qcow2_apply.proofs.CounterTablesLemmas.{place-at}
use Rattle.qcow2_apply.specs.Apply.{AreAllApart, l2_tables_of, refblocks_of}
use Rattle.qcow2_apply.specs.Passes.{ArePlacesApart}
use Rattle.qcow2_apply.specs.PlannedTables.{counter_tables}

-- then a cluster has one use at most that is of its header or of a block, and none beside an L2 table's
pub fixed-once : (tables : ImageTables) (image : Image) (c : ℕ) → AreUnshared tables image → c < max_file_length
    → uses_of_kind Fixed (header_uses tables.header) c + uses_of_kind Fixed (flat_map (block_uses tables.header.v2.cluster_bits) tables.reftable) c
    + uses_of_kind L2Table (image_uses tables image) c ≤ 1
    ⊎ (uses_of_kind Fixed (header_uses tables.header) c + uses_of_kind Fixed (flat_map (block_uses tables.header.v2.cluster_bits) tables.reftable) c ≡ 0)
fixed-once tables image c unshared below =
    let uses = image_uses tables image in
    let blocks = flat_map (block_uses tables.header.v2.cluster_bits) tables.reftable in
    let last = flat_map (l1_entry_uses (geometry_of tables.header) image) tables.l1 in
    grind (arith, nat_tests, excludes uses c (unshared c below), uses_by_kind uses c, kind-append Fixed (header_uses tables.header) (blocks ++ last) c, kind-append Fixed blocks last c)

-- a block that can lie where it is named is below the greatest length
block-below : (tables : ImageTables) (i : ℕ) (block : HostCluster) → blocks_fault tables.header tables.reftable ≡ None
    → (refblocks_of tables).place i ≡ Some block → block.0 < max_file_length
block-below tables i block placed names =
    let size = 2 ^ tables.header.v2.cluster_bits in
    let place = place-at (counter_tables tables) i block placed names in
    let some : 1 ≤ size = pow_pos tables.header.v2.cluster_bits in
    let product : block.0 * 1 ≤ block.0 * size = mul-le block.0 1 block.0 size (omega arith) some in
    let end : block.0 * size + size ≤ max_file_length = grind (arith, nat_tests, place) in
    omega (arith, product, end, some)

-- and no cluster of the header, the L1 table or the refcount table is a block's
pub block-unshared : (tables : ImageTables) (image : Image) (i : ℕ) (block : HostCluster) → AreUnshared tables image
    → blocks_fault tables.header tables.reftable ≡ None → (refblocks_of tables).place i ≡ Some block
    → uses_of_kind Fixed (header_uses tables.header) block.0 ≡ 0
block-unshared tables image i block unshared placed names = omega (
  arith,
  once-used tables.header.v2.cluster_bits tables.reftable i block names,
  fixed-once tables image block.0 unshared (block-below tables i block placed names),
)

-- nor is one an L2 table's
pub table-unshared : (tables : ImageTables) (image : Image) (i : ℕ) (table : HostCluster) → AreUnshared tables image
    → (l2_tables_of tables).place i ≡ Some table → uses_of_kind Fixed (header_uses tables.header) table.0 ≡ 0
table-unshared tables image i table unshared names =
    omega (arith, named-used tables image i table names, fixed-once tables image table.0 unshared (named-below _ _ table names))

-- so tables and blocks are apart
pub apart-unshared : (tables : ImageTables) (image : Image) → AreUnshared tables image → blocks_fault tables.header tables.reftable ≡ None
    → ArePlacesApart (l2_tables_of tables) → AreAllApart tables
apart-unshared tables image unshared placed apart =
    let cb = tables.header.v2.cluster_bits in record {
      tables_apart = apart;
      blocks_apart = λ i j block first second. elim (cases_eq i j) [
        | inl same ↦ same
        | inr differs ↦
            let once = fixed-once tables image block.0 unshared (block-below tables i block placed first) in
            absurd (elim (cases_lt i j) [
              | inl less ↦ let twice = twice-used cb tables.reftable i j block less first second in omega (arith, once, twice)
              | inr more ↦ let twice = twice-used cb tables.reftable j i block (omega (arith, more, differs)) second first in omega (arith, once, twice)
            ])
      ];
      tables_after = λ i table names. elim (cases_lt 0 table.0) [
        | inl after ↦ after
        | inr first ↦
            let zero_is : 0 ≡ table.0 = omega (arith, first) in
            let header = subst (λ c. 0 < uses_of_kind Fixed (header_uses tables.header) c) zero_is (first-used tables.header) in
            absurd (omega (arith, header, named-used tables image i table names, fixed-once tables image table.0 unshared (named-below _ _ table names)))
      ];
      blocks_after = λ i block names. elim (cases_lt 0 block.0) [
        | inl after ↦ after
        | inr first ↦
            let zero_is : 0 ≡ block.0 = omega (arith, first) in
            let header = subst (λ c. 0 < uses_of_kind Fixed (header_uses tables.header) c) zero_is (first-used tables.header) in
            absurd (omega (
              arith,
              header,
              once-used cb tables.reftable i block names,
              fixed-once tables image block.0 unshared (block-below tables i block placed names),
            ))
      ];
      both_apart = λ i j cluster table block. omega (
        arith,
        once-used cb tables.reftable j cluster block,
        named-used tables image i cluster table,
        fixed-once tables image cluster.0 unshared (block-below tables j cluster placed block),
      );
    }

pub all-apart : (tables : ImageTables) (image : Image) → AreRight tables image 0 max_file_length → blocks_fault tables.header tables.reftable ≡ None
    → ArePlacesApart (l2_tables_of tables) → AreAllApart tables
all-apart tables image right = apart-unshared tables image (right-unshared tables image right)
