-- Which L2 tables leave all guest clusters to the backing file?
use Rattle.std.specs.Prelude.{◌≡◌, ◌⊎◌, ◌<◌, ℕ, Bool, IsTrue, ◌*◌, ◌^◌, List, length, slice_index, IsOkAnd}
use Rattle.std.specs.BTreeSet.{contains}
use Rattle.std.specs.Ordering.{nat_cmp}
use Rattle.qcow2_base.specs.Storage.{Image}
use Rattle.qcow2_base.specs.declared.types.HostCluster.{HostCluster}
use Rattle.qcow2_metadata.specs.Entries.L2Mapping.{backing, mapping}
use Rattle.qcow2_metadata.specs.Header.{Geometry}
use Rattle.qcow2_metadata.specs.Table.{loaded_l2_table}
use Rattle.qcow2_image.specs.declared.blank_tables.BlankTables.{BlankTables}

-- the numbers of a table leave all guest clusters to the backing file, whichever they are for
abbrev pub IsBlank : Geometry → List ℕ → Type 0
IsBlank g numbers = (guest_cluster i : ℕ) → i < length numbers →
    mapping g guest_cluster (slice_index numbers i) ≡ backing (guest_cluster * 2 ^ g.cluster_bits)

-- whether a cluster is noted
abbrev pub is_noted : BlankTables → ℕ → Bool
is_noted tables cluster = contains nat_cmp tables.clusters cluster

-- no other cluster than this one is noted, and only if its table is blank
abbrev pub AddsBlank : Bool → ℕ → BlankTables → BlankTables → Type 0
AddsBlank blank cluster old new = (c : ℕ) → IsTrue (is_noted new c) → IsTrue (is_noted old c) ⊎ (IsTrue blank × (c ≡ cluster))

-- the L2 table at each noted cluster of an image can be loaded, and leaves all guest clusters to the backing file
abbrev pub AreBlankIn : Geometry → Image → BlankTables → Type 0
AreBlankIn g image tables = (cluster : HostCluster) → IsTrue (is_noted tables cluster.0) →
    IsOkAnd (loaded_l2_table g cluster image) (IsBlank g)
