use Rattle.std.proofs.Common.{◌≡◌, ℕ, ◌+◌, ◌-◌, ◌*◌, ◌/◌, ◌%◌, ◌^◌, ◌<◌, ◌≤◌, List, length, slice_index, Option, IsSome, true, inl, inr, subst, sym, mod-lt, div-add-mod', arith}
use Rattle.std.proofs.lemmas.Bool.Decides.{nat_tests}
use Rattle.std.proofs.lemmas.Bool.{cases_lt}
use Rattle.std.proofs.lemmas.List.{get_or_past}
use Rattle.std.proofs.lemmas.List.Elements.{All-get_or}
use Rattle.std.proofs.lemmas.Nat.{pow_pos}
use Rattle.qcow2_base.specs.Storage.{Image, IsBytes}
use Rattle.qcow2_base.specs.declared.types.HostCluster.{HostCluster}
use Rattle.qcow2_check.proofs.CountersLemmas.{counter-fits}
use Rattle.qcow2_check.specs.Counters.{block_of_cluster, counters_each}
use Rattle.qcow2_metadata.proofs.PackingLemmas.{counters_at-length}
use Rattle.qcow2_metadata.specs.Entries.{is_among}
use Rattle.qcow2_metadata.specs.Header.{HeaderRecord}
use Rattle.qcow2_metadata.specs.Refblock.Packing.{width}
use Rattle.qcow2_metadata.specs.Refblock.{BlockGeometry, BlockState, IsValidBlock, block_geometry_of, greatest_counter}
use Rattle.qcow2_metadata.specs.declared.entries.ClustersToFreeEntry.{ClustersToFreeEntry}
use Rattle.qcow2_apply.proofs.CounterTablesLemmas.{block-of, counter-at, names-below}
use Rattle.qcow2_apply.specs.CounterTables.{BlockFollows, BlockIsStuck, CounterTablesState, NamesBlock, block_numbers}
use Rattle.qcow2_apply.specs.PlannedChanges.{AreSorted, CanCount, CannotCount, HaveCounters, IsUncounted}
use Rattle.qcow2_apply.specs.declared.changes.Changes.{Changes}

-- clusters that end past 2^64 have a last number that 64 bits don't count
pub late-end : (header : HeaderRecord) (reftable : List ℕ) (clusters : ClustersToFreeEntry) → clusters.first.0 < 2 ^ 64
    → 2 ^ 64 ≤ clusters.first.0 + clusters.count.0 → (c : ℕ) × (is_among clusters c ≡ true) × IsUncounted header reftable c
late-end header reftable clusters fits late = (2 ^ 64 - 1, grind (arith, nat_tests, fits, late), inr (omega arith))

-- the clusters of one more block have counters
pub block-counted : (header : HeaderRecord) (reftable : List ℕ) (start last end limit : ℕ) → end ≡ last + 1
    → ((c : ℕ) → start ≤ c → c ≤ last → block_of_cluster header reftable c ≡ block_of_cluster header reftable last)
    → IsSome (block_of_cluster header reftable last) → ((c : ℕ) → end ≤ c → c < limit → IsSome (block_of_cluster header reftable c))
    → (c : ℕ) → start ≤ c → c < limit → IsSome (block_of_cluster header reftable c)
block-counted header reftable start last end limit is same here each c from before = elim (cases_lt last c) [
  | inl more ↦ each c (omega (arith, is, more)) before
  | inr less ↦ subst (λ (block : Option HostCluster). IsSome block) (sym (same c from less)) here
]

-- and all do
pub all-counted : (header : HeaderRecord) (reftable : List ℕ) (clusters : ClustersToFreeEntry) (end limit : ℕ) → limit ≡ clusters.first.0 + clusters.count.0
    → limit < 2 ^ 64 → end ≤ clusters.first.0 → ((c : ℕ) → end ≤ c → c < limit → IsSome (block_of_cluster header reftable c)) → HaveCounters header reftable clusters
all-counted header reftable clusters end limit is fits past each = record {
  each = λ c among. let bounds : (clusters.first.0 ≤ c) × (c < clusters.first.0 + clusters.count.0) = grind (arith, nat_tests, among) in
      each c (omega (arith, bounds.0, past)) (omega (arith, bounds.1, is));
  end = omega (arith, is, fits);
}

-- a counter in memory is never greater than its width allows
pub block-fits : (tables : CounterTablesState) (block : BlockState) (k : ℕ) → block.geometry ≡ block_geometry_of tables.header
    → IsValidBlock block.geometry block.cluster block.numbers → slice_index block.numbers k ≤ greatest_counter tables.header.base.refcount_order
block-fits tables block k same valid = elim (cases_lt k (length block.numbers)) [
  | inl below ↦
      let small = All-get_or (λ v. v < 2 ^ width block.geometry.refcount_order) block.numbers k 0 below valid.numbers.fits in
      subst (λ (g : BlockGeometry). slice_index block.numbers k ≤ greatest_counter g.refcount_order) same (omega (arith, small))
  | inr past ↦ rw (get_or_past block.numbers k 0 past) (omega arith)
]

-- where a counter of a block is stuck at gains, that cluster's can't count
pub gains-stuck : (tables : CounterTablesState) (gains losses : Changes) (i : ℕ) (block : HostCluster) (image : Image) → AreSorted (counters_each tables.header) gains losses
    → NamesBlock tables i block → tables.header.base.refcount_order ≤ 6 → IsBytes image
    → BlockIsStuck tables gains i (block_numbers tables block image) → (c : ℕ) × CannotCount tables gains losses image c
gains-stuck tables gains losses i block image sorted names orders bytes stuck =
    let full : length (block_numbers tables block image) ≡ counters_each tables.header = counters_at-length tables.header.base.refcount_order image _ _ in
    let c = i * counters_each tables.header + stuck.0 in
    let counter = counter-at tables i stuck.0 block image names (omega (arith, full, stuck.1)) in
    let small = counter-fits tables.header tables.reftable image c orders bytes in
    let none = sorted.no_loss c in (
      c,
      (
        counter.0,
        elim stuck.2 [
          | inl much ↦ inl (omega (arith, much, small, counter.1), omega (arith, much, counter.1))
          | inr few ↦ absurd (omega (arith, few, none))
        ],
      ),
    )

-- and where one is stuck at losses after all gained
pub losses-stuck : (tables : CounterTablesState) (gains losses : Changes) (i : ℕ) (block : HostCluster) (image : Image) (mid : List ℕ)
    → AreSorted (counters_each tables.header) gains losses → NamesBlock tables i block → BlockFollows tables gains i (block_numbers tables block image) mid
    → ((k : ℕ) → slice_index mid k ≤ greatest_counter tables.header.base.refcount_order) → BlockIsStuck tables losses i mid
    → (c : ℕ) × CannotCount tables gains losses image c
losses-stuck tables gains losses i block image mid sorted names follows fits stuck =
    let full : length (block_numbers tables block image) ≡ counters_each tables.header = counters_at-length tables.header.base.refcount_order image _ _ in
    let c = i * counters_each tables.header + stuck.0 in
    let counter = counter-at tables i stuck.0 block image names (omega (arith, full, stuck.1, follows.count)) in
    let gained = follows.each stuck.0 (omega (arith, stuck.1, follows.count)) in
    let none = sorted.no_loss c in
    let nothing = sorted.no_gain c in
    let small = fits stuck.0 in (
      c,
      (
        counter.0,
        inr (elim stuck.2 [
          | inl much ↦ absurd (omega (arith, much, small, nothing))
          | inr few ↦ omega (arith, few, counter.1, gained, none, nothing)
        ]),
      ),
    )

-- where all counters of a block followed gains and then losses, none of its clusters' can't count
counts-at : (tables : CounterTablesState) (gains losses : Changes) (i k : ℕ) (block : HostCluster) (image : Image) (mid new : List ℕ)
    → AreSorted (counters_each tables.header) gains losses → NamesBlock tables i block → BlockFollows tables gains i (block_numbers tables block image) mid
    → ((k : ℕ) → slice_index mid k ≤ greatest_counter tables.header.base.refcount_order) → BlockFollows tables losses i mid new
    → k < counters_each tables.header → CannotCount tables gains losses image (i * counters_each tables.header + k) → ⊥
counts-at tables gains losses i k block image mid new sorted names gained fits lost below cannot =
    let full : length (block_numbers tables block image) ≡ counters_each tables.header = counters_at-length tables.header.base.refcount_order image _ _ in
    let counter = (counter-at tables i k block image names below).1 in
    let more = gained.each k (omega (arith, below, full)) in
    let less = lost.each k (omega (arith, below, full, gained.count)) in
    let none = sorted.no_loss (i * counters_each tables.header + k) in
    let nothing = sorted.no_gain (i * counters_each tables.header + k) in
    let small = fits k in
    elim cannot.1 [
      | inl much ↦ omega (arith, much.1, more, counter, small, none)
      | inr few ↦ omega (arith, few, more, less, counter, none, nothing)
    ]

pub all-count : (tables : CounterTablesState) (gains losses : Changes) (i : ℕ) (block : HostCluster) (image : Image) (mid new : List ℕ)
    → AreSorted (counters_each tables.header) gains losses → NamesBlock tables i block → BlockFollows tables gains i (block_numbers tables block image) mid
    → ((k : ℕ) → slice_index mid k ≤ greatest_counter tables.header.base.refcount_order) → BlockFollows tables losses i mid new
    → (c : ℕ) → c / counters_each tables.header ≡ i → CannotCount tables gains losses image c → ⊥
all-count tables gains losses i block image mid new sorted names gained fits lost c here cannot =
    let n = counters_each tables.header in
    let parts : c / n * n + c % n ≡ c = div-add-mod' c n in
    let whole : i * n + c % n ≡ c = rw here at parts in
    counts-at tables gains losses i (c % n) block image mid new sorted names gained fits lost (mod-lt c (pow_pos _))
    (subst (λ x. CannotCount tables gains losses image x) (sym whole) cannot)

-- the counters of one more block can count the changes
pub counts-next : (tables : CounterTablesState) (gains losses : Changes) (from i : ℕ) (image : Image) → CanCount tables gains losses from i image
    → ((c : ℕ) → c / counters_each tables.header ≡ i → CannotCount tables gains losses image c → ⊥) → CanCount tables gains losses from (i + 1) image
counts-next tables gains losses from i image before here c later below = elim (cases_lt (c / counters_each tables.header) i) [
  | inl less ↦ before c later less
  | inr more ↦ here c (omega (arith, more, below))
]

-- and all can, where the blocks of the whole refcount table can
pub all-can : (tables : CounterTablesState) (gains losses : Changes) (i : ℕ) (image : Image) → CanCount tables gains losses 0 i image
    → CanCount tables gains losses i (length tables.reftable) image → (c : ℕ) → CannotCount tables gains losses image c → ⊥
all-can tables gains losses i image before rest c cannot =
    let found = block-of tables c cannot.0 in
    let below = names-below tables (c / counters_each tables.header) found.0 found.1 in
    elim (cases_lt (c / counters_each tables.header) i) [
      | inl less ↦ before c (omega arith) less cannot
      | inr more ↦ rest c more below cannot
    ]
