use Rattle.std.proofs.lemmas.Bool.Decides.{nat_tests}
use Rattle.std.proofs.Common.{◌≡◌, ◌⊎◌, ℕ, ◌+◌, ◌-◌, ◌*◌, ◌/◌, ◌^◌, ◌<◌, ◌≤◌, Some, None, Result, Ok, ap, sym, ◌∙◌, arith}
use Rattle.std.proofs.Math.Nat.{pow-le-pow_right}
use Rattle.std.proofs.lemmas.Nat.{mul-le, pow-add, shr_below}
use Rattle.qcow2_base.specs.declared.fault.Fault.{Fault}
use Rattle.std.specs.Result.{IfErr}
use Rattle.qcow2_base.specs.declared.types.HostCluster.{HostCluster}
use Rattle.qcow2_base.specs.declared.types.HostOffset.{HostOffset}
use Rattle.qcow2_metadata.specs.Entries.{offset_field, offset_unless_zero}
use Rattle.qcow2_base.specs.Format.{most_l1_entries, most_reftable_entries}
use Rattle.qcow2_metadata.specs.Header.{Geometry, HeaderRecord}
use Rattle.qcow2_metadata.specs.Results.{IsFromOutside}
use Rattle.qcow2_metadata.specs.Table.{IsContentFault, IsTableFault, TableState, l2_entries, l2_layout}
use Rattle.qcow2_metadata.specs.Placed.{RefusesPlace, place_fault}
use Rattle.qcow2_check.specs.NamedTables.{IsInImage, l1_cluster, l1_layout, reftable_cluster, reftable_layout}

-- a cluster with an offset below 2 ^ 56 ends by there
pub cluster_ends : (offset cb : ℕ) → cb ≤ 21 → offset < 2 ^ 56 → offset / 2 ^ cb * 2 ^ cb + 2 ^ cb ≤ 2 ^ 56
cluster_ends offset cb high below =
    let whole : (56 - cb) + cb ≡ 56 = omega arith in
    let total : 2 ^ 56 ≡ 2 ^ (56 - cb) * 2 ^ cb = sym (ap (λ x. 2 ^ x) whole) ∙ pow-add 2 (56 - cb) cb in
    let row : offset / 2 ^ cb < 2 ^ (56 - cb) = shr_below offset (56 - cb) cb (rw whole below) in
    let room : (offset / 2 ^ cb + 1) * 2 ^ cb ≤ 2 ^ (56 - cb) * 2 ^ cb = mul-le _ _ _ _ (omega arith) (omega arith) in
    omega (arith, total, room)

-- and so does the one that an L1 entry's offset lies in
pub l2_cluster_ends : (v cb cluster : ℕ) (offset : HostOffset) → cb ≤ 21 →
    offset_unless_zero (offset_field v) ≡ Some offset → cluster ≡ offset.0 / 2 ^ cb → cluster * 2 ^ cb + 2 ^ cb ≤ 2 ^ 56
l2_cluster_ends v cb cluster offset high says is = grind (arith, nat_tests, cluster_ends)

-- an L2 table that begins with a cluster of the image can lie there
pub l2_table_fits : (g : Geometry) (cluster : HostCluster) → IsInImage g.cluster_bits cluster → place_fault (l2_layout g) cluster ≡ None
l2_table_fits g cluster within = grind (arith, nat_tests, pow-le-pow_right, pow-add)

-- and is refused for what is read there alone
pub content_fault : {T : Type 0} (g : Geometry) (cluster : HostCluster) (answer : Result T Fault) →
    IsInImage g.cluster_bits cluster → IfErr answer (λ fault. IsTableFault (l2_layout g) cluster fault ⊎ IsFromOutside fault) → IfErr answer IsContentFault
content_fault g cluster answer within faults = grind (arith, l2_table_fits g cluster within, faults)

-- an L1 table that could be loaded has no more entries than one may have
pub few_entries : (header : HeaderRecord) (table : TableState) (answer : Result TableState Fault) → answer ≡ Ok table
    → RefusesPlace (l1_layout header) (l1_cluster header) answer → header.v2.l1_size ≤ most_l1_entries
few_entries header table answer is refuses = grind (arith, nat_tests, is, refuses)

-- and a refcount table likewise
pub few_blocks : (header : HeaderRecord) (table : TableState) (answer : Result TableState Fault) → answer ≡ Ok table
    → RefusesPlace (reftable_layout header) (reftable_cluster header) answer
    → header.v2.refcount_table_clusters * l2_entries header.v2.cluster_bits ≤ most_reftable_entries
few_blocks header table answer is refuses = grind (arith, nat_tests, is, refuses)
