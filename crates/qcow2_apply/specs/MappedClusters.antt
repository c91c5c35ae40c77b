-- How often do edits of a disk map each host cluster?
use Rattle.std.specs.Prelude.{◌≡◌, ℕ, zero, suc, Bool, true, false, ◌==◌, ◌+◌, List, Option, Some, None}
use Rattle.std.specs.BTreeMap.{get}
use Rattle.std.specs.List.{sum_by}
use Rattle.std.specs.Ordering.{nat_cmp}
use Rattle.qcow2_metadata.specs.Table.L2Guards.{one_if}
use Rattle.qcow2_apply.specs.declared.guest_edits.GuestEdit.{GuestEdit}
use Rattle.qcow2_apply.specs.declared.guest_edits.GuestEdit.TheVariants.{Discard, Map, Zero}
use Rattle.qcow2_apply.specs.declared.mapped_clusters.MappedClusters.{MappedClusters}

-- how often an edit maps host cluster c
abbrev pub mappings_by : ℕ → GuestEdit → ℕ
mappings_by c (Map offset host_cluster) = one_if (host_cluster.0 == c)
mappings_by c (Zero offset length keep_allocation) = 0
mappings_by c (Discard offset length) = 0

-- how often edits do
abbrev pub times_mapped : List GuestEdit → ℕ → ℕ
times_mapped edits c = sum_by (mappings_by c) edits

-- what is kept of a cluster that is mapped so often: whether that is once
abbrev pub mark_of_times : ℕ → Option Bool
mark_of_times zero = None
mark_of_times (suc zero) = Some true
mark_of_times (suc (suc more)) = Some false

-- what is kept of cluster c
abbrev pub mapping_mark : MappedClusters → ℕ → Option Bool
mapping_mark mapped c = get nat_cmp mapped.are_sole c

-- the clusters are those that edits map
abbrev pub HoldsMappings : List GuestEdit → MappedClusters → Type 0
HoldsMappings edits mapped = (c : ℕ) → mapping_mark mapped c ≡ mark_of_times (times_mapped edits c)

-- an edit was counted after others
abbrev pub CountsMapping : GuestEdit → MappedClusters → MappedClusters → Type 0
CountsMapping edit old new = (c times : ℕ) → mapping_mark old c ≡ mark_of_times times → mapping_mark new c ≡ mark_of_times (times + mappings_by c edit)
