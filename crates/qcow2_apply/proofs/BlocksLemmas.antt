use Rattle.std.proofs.Common.{◌≡◌, ℕ, ◌+◌, ◌*◌, ◌/◌, ◌%◌, ◌^◌, ◌<◌, ◌≤◌, length, None, refl, subst, inl, inr, mod-lt, div-add-mod', arith}
use Rattle.std.proofs.lemmas.Nat.{div-mul-add, pow_pos}
use Rattle.qcow2_base.specs.Storage.{Image}
use Rattle.qcow2_base.specs.Types.{IsClusterBits}
use Rattle.qcow2_base.specs.declared.fault.Fault.{Fault}
use Rattle.qcow2_base.specs.declared.types.HostCluster.{HostCluster}
use Rattle.qcow2_metadata.proofs.PackingLemmas.{counters_at-length, counters_at-same}
use Rattle.qcow2_metadata.proofs.RefblockLemmas.{block_bytes}
use Rattle.qcow2_metadata.specs.Refblock.{block_entries}
use Rattle.qcow2_check.specs.Counters.{counters_each}
use Rattle.qcow2_apply.proofs.CounterTablesLemmas.{block-of, counter-at, counter-here, idle-counters}
use Rattle.qcow2_apply.proofs.PassesLemmas.{AreOfClusters}
use Rattle.qcow2_apply.specs.CounterTables.{BlockFollows, BlockIsStuck, CounterTablesState, Follows, IsByBlocks, NamesBlock, counter_of_cluster, block_numbers}
use Rattle.qcow2_apply.specs.Blocks.{FollowsChanges, IsStuckAt, SomeIsStuck, StopsFollowing, blocks}
use Rattle.qcow2_apply.specs.Changes.{IsOutcomeOf}
use Rattle.qcow2_apply.specs.declared.changes.Changes.{Changes}
use Rattle.qcow2_apply.specs.Passes.{PassBreaksOff, Passes, PassesBefore}

-- the counters of a block are those of its cluster's bytes
pub are-of-clusters : (tables : CounterTablesState) → IsClusterBits tables.header.v2.cluster_bits → tables.header.base.refcount_order ≤ 6
    → AreOfClusters (blocks tables)
are-of-clusters tables bits orders cluster old new same =
    let cb = tables.header.v2.cluster_bits in
    let order = tables.header.base.refcount_order in
    counters_at-same order (block_entries cb order) (2 ^ cb) new old _ _ orders (block_bytes cb order bits orders)
    (λ k below. same _ (div-mul-add cluster.0 (2 ^ cb) k below))

-- where the counters of its block followed changes, that of a cluster did
cluster-follows : (tables : CounterTablesState) (changes : Changes) (block : HostCluster) (old new : Image) (c : ℕ)
    → NamesBlock tables (c / counters_each tables.header) block
    → BlockFollows tables changes (c / counters_each tables.header) (block_numbers tables block old) (block_numbers tables block new)
    → Follows changes c (counter_of_cluster tables old c) (counter_of_cluster tables new c)
cluster-follows tables changes block old new c names follows =
    let n = counters_each tables.header in
    let small : c % n < n = mod-lt c (pow_pos _) in
    let whole : c / n * n + c % n ≡ c = div-add-mod' c n in
    let full : length (block_numbers tables block old) ≡ n = counters_at-length tables.header.base.refcount_order old _ _ in
    let each = follows.each (c % n) (omega (arith, full, small)) in
    rw (counter-here tables block old c names, counter-here tables block new c names) (rw whole at each)

-- a pass over all blocks is one over all counters
pub counters-follow : (tables : CounterTablesState) (changes : Changes) (old new : Image)
    → Passes (blocks tables) (BlockFollows tables changes) old new → FollowsChanges tables changes old new
counters-follow tables changes old new passes = record {
  followed = λ c has. let found = block-of tables c has in
      cluster-follows tables changes found.0 old new c found.1 (passes.changed _ found.0 found.1);
  others = passes.others;
}

pub counters-stop : (tables : CounterTablesState) (changes : Changes) (fault : Fault) (old new : Image)
    → PassBreaksOff (blocks tables) (BlockFollows tables changes) fault old new → StopsFollowing tables changes fault old new
counters-stop tables changes fault old new breaks = (
  breaks.0,
  record {
    counters = λ c has. let found = block-of tables c has in elim (breaks.1.each _ found.0 found.1) [
      | inl same ↦ inl (rw (counter-here tables found.0 old c found.1, counter-here tables found.0 breaks.0 c found.1, same) refl)
      | inr follows ↦ inr (cluster-follows tables changes found.0 old breaks.0 c found.1 follows)
    ];
    others = breaks.1.others;
  },
  breaks.2,
)

-- where some counter of a block can't follow, some counter of the image can't
pub block-stuck : (tables : CounterTablesState) (changes : Changes) (i : ℕ) (block : HostCluster) (image : Image) → NamesBlock tables i block
    → BlockIsStuck tables changes i (block_numbers tables block image) → SomeIsStuck tables changes image
block-stuck tables changes i block image names stuck =
    let full : length (block_numbers tables block image) ≡ counters_each tables.header = counters_at-length tables.header.base.refcount_order image _ _ in
    let counter = counter-at tables i stuck.0 block image names (omega (arith, full, stuck.1)) in
    (i * counters_each tables.header + stuck.0, counter.0, rw counter.1 stuck.2)

-- and so does a block in an image
pub idle-follows : (tables : CounterTablesState) (changes : Changes) (i : ℕ) (block : HostCluster) (image : Image)
    → IsByBlocks tables changes → IsOutcomeOf changes i None → BlockFollows tables changes i (block_numbers tables block image) (block_numbers tables block image)
idle-follows tables changes i block image by none =
    idle-counters tables changes i (block_numbers tables block image) by none (counters_at-length tables.header.base.refcount_order image _ _)

-- a counter that can't follow before others have
pub stuck-before : (tables : CounterTablesState) (changes : Changes) (i : ℕ) (a b : Image)
    → PassesBefore (blocks tables) (BlockFollows tables changes) i a b → IsStuckAt tables changes i b → SomeIsStuck tables changes a
stuck-before tables changes i a b before stuck =
    let same : block_numbers tables stuck.0 b ≡ block_numbers tables stuck.0 a = before.after i stuck.0 (omega arith) stuck.1 in
    block-stuck tables changes i stuck.0 a stuck.1 (subst (λ numbers. BlockIsStuck tables changes i numbers) same stuck.2)
