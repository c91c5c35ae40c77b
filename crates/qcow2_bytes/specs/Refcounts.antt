-- What do the bytes of a refcount block say, and what do they say once its counters followed an edit?
use Rattle.std.specs.Prelude.{ℕ, ◌+◌, ◌-◌, ◌*◌, ◌/◌, ◌^◌, ◌==◌, nat_le, List, [], ◌∷◌, length, map, Option, Result, Ok}
use Rattle.std.specs.List.{find, range_with_len}
use Rattle.std.specs.Option.{ok_or}
use Rattle.qcow2_base.specs.Storage.{image_of}
use Rattle.qcow2_base.specs.declared.fault.Fault.{Fault}
use Rattle.qcow2_base.specs.declared.fault.Fault.TheVariants.{BadStep, RefcountWidth, WrongLength}
use Rattle.qcow2_base.specs.declared.types.HostCluster.{HostCluster}
use Rattle.qcow2_edits.specs.Settled.{block_or_refusal, first_counted}
use Rattle.qcow2_metadata.specs.Placed.{new_placed}
use Rattle.qcow2_metadata.specs.Refblock.{BlockState, block_entries, block_geometry}
use Rattle.qcow2_metadata.specs.Refblock.Packing.{counter_at, counters_at, width}
use Rattle.qcow2_metadata.specs.Results.{after_conditions, and_then, result_map}
use Rattle.qcow2_metadata.specs.declared.entries.ClustersToFreeEntry.{ClustersToFreeEntry}
use Rattle.qcow2_bytes.specs.declared.refcounts.settled.HostClusters.{HostClusters}

-- the cluster bits by which a cluster has this size, if an image can have them
unfoldable pub bits_of_size : ℕ → Option ℕ
bits_of_size size = find (λ cb. 2 ^ cb == size) (range_with_len 9 13)

-- the cluster bits of a block of this size with refcounts of this order, or why there is no such block
abbrev pub block_bits_in : ℕ → ℕ → Result ℕ Fault
block_bits_in size order = after_conditions ((nat_le order 6, RefcountWidth) ∷ []) (λ _. ok_or (bits_of_size size) WrongLength)

-- that many counters of a block from an index on, by its bytes and its refcount order
abbrev pub refcounts_in : List ℕ → ℕ → ℕ → ℕ → Result (List ℕ) Fault
refcounts_in bytes order first count = and_then (block_bits_in (length bytes) order) (λ cb.
    let entries = block_entries cb order in
    after_conditions ((nat_le (first + count) entries, BadStep (entries - first)) ∷ []) (λ _.
    Ok (map (counter_at order (image_of bytes) 0) (range_with_len first count))))

-- all counters that are in the bytes of a block
abbrev pub refcounts_of : List ℕ → ℕ → List ℕ
refcounts_of bytes order = counters_at order (image_of bytes) 0 (8 * length bytes / width order)

-- these clusters as an edit hands them back
abbrev pub clusters_to_free : HostClusters → ClustersToFreeEntry
clusters_to_free clusters = record { first = record { 0 = clusters.first }; count = record { 0 = clusters.count } }

-- the cluster with this number
abbrev pub cluster_of : ℕ → HostCluster
cluster_of number = record { 0 = number }

-- the counters of the block with an index in the refcount table, by its bytes, once they counted each reference that clusters
-- gained and then each that they lost; or why they can't
abbrev pub settled_refcounts : List ℕ → ℕ → ℕ → List HostClusters → List ℕ → Result (List ℕ) Fault
settled_refcounts bytes order index freed gained = and_then (block_bits_in (length bytes) order) (λ cb.
    let block = new_placed (refcounts_of bytes order) (block_geometry cb order) in
    result_map (λ (settled : BlockState). settled.numbers)
    (block_or_refusal block (first_counted block index) (map clusters_to_free freed) gained))
