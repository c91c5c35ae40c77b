-- How many guest clusters do L2 entries map, and how many of these are compressed or lie apart?
use Rattle.std.specs.Prelude.{ℕ, Bool, false, not, ◌||◌, ◌==◌, ◌+◌, List, [], ◌∷◌, flat_map, is_some, option_to_list, Option, Some, None, Result}
use Rattle.std.specs.List.{sum_by}
use Rattle.qcow2_base.specs.Storage.{Image}
use Rattle.qcow2_base.specs.declared.fault.Fault.{Fault}
use Rattle.qcow2_base.specs.declared.types.HostCluster.{HostCluster}
use Rattle.qcow2_metadata.specs.Entries.L2Entry.{is_compressed}
use Rattle.qcow2_metadata.specs.Header.{Geometry, HeaderRecord, geometry_of}
use Rattle.qcow2_metadata.specs.Placed.{numbers_at}
use Rattle.qcow2_metadata.specs.Results.{and_then, result_map}
use Rattle.qcow2_metadata.specs.Table.{l2_layout}
use Rattle.qcow2_metadata.specs.Table.L2Guards.{one_if}
use Rattle.qcow2_check.specs.Flags.{flagged_cluster}
use Rattle.qcow2_check.specs.NamedTables.{loaded_l1_table, named_cluster}
use Rattle.qcow2_check.specs.Uses.{all_load}
use Rattle.qcow2_summary.specs.declared.entry_counts.EntryCounts.{EntryCounts}

-- whether an L2 entry maps its guest cluster: to compressed data, or to a host cluster
abbrev pub is_mapped : Geometry → ℕ → Bool
is_mapped g v = is_compressed v || is_some (flagged_cluster g v)

-- the host clusters that standard entries name, in their order
abbrev pub named_in_order : Geometry → List ℕ → List HostCluster
named_in_order g numbers = flat_map (λ v. option_to_list (flagged_cluster g v)) numbers

-- whether a cluster isn't the one after another, if there is another
abbrev pub is_apart : Option HostCluster → HostCluster → Bool
is_apart None next = false
is_apart (Some cluster) next = not (next.0 == cluster.0 + 1)

-- how many clusters of a list aren't the one after the cluster before them
abbrev pub breaks : List HostCluster → ℕ
breaks [] = 0
breaks (cluster ∷ []) = 0
breaks (cluster ∷ next ∷ clusters) = one_if (is_apart (Some cluster) next) + breaks (next ∷ clusters)

-- the counts of an L2 table's entries. Fragmented are all that are compressed, and standard ones whose cluster isn't the one
-- after that of the standard entry before them
abbrev pub table_counts : Geometry → List ℕ → EntryCounts
table_counts g numbers = record {
  allocated = sum_by (λ v. one_if (is_mapped g v)) numbers;
  compressed = sum_by (λ v. one_if (is_compressed v)) numbers;
  fragmented = breaks (named_in_order g numbers) + sum_by (λ v. one_if (is_compressed v)) numbers;
}

-- nothing is counted
abbrev pub no_entries : EntryCounts
no_entries = record { allocated = 0; compressed = 0; fragmented = 0 }

-- the counts of the L2 table that an L1 entry names, if it names one
abbrev pub l1_entry_counts : Geometry → Image → ℕ → EntryCounts
l1_entry_counts g image v = elim (named_cluster g.cluster_bits v) [
  | None ↦ no_entries
  | Some cluster ↦ table_counts g (numbers_at (l2_layout g) cluster image)
]

-- the counts of all L2 tables that L1 entries name, a table as often as it is named
abbrev pub entry_counts : Geometry → Image → List ℕ → EntryCounts
entry_counts g image l1 = record {
  allocated = sum_by (λ v. (l1_entry_counts g image v).allocated) l1;
  compressed = sum_by (λ v. (l1_entry_counts g image v).compressed) l1;
  fragmented = sum_by (λ v. (l1_entry_counts g image v).fragmented) l1;
}

-- the same, or the fault of the first L2 table that can't be loaded
abbrev pub counted_tables : Geometry → List ℕ → Image → Result EntryCounts Fault
counted_tables g l1 image = result_map (λ _. entry_counts g image l1) (all_load g l1 image)

-- the counts of an image with this header, or the first fault: that of the L1 table, or of an L2 table
abbrev pub counted_entries : HeaderRecord → Image → Result EntryCounts Fault
counted_entries header image =
    and_then (loaded_l1_table header image) (λ l1. counted_tables (geometry_of header) l1 image)
