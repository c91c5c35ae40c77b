use Rattle.std.proofs.Common.{◌≡◌, ◌≢◌, ◌⊎◌, ℕ, ◌+◌, ◌-◌, ◌*◌, ◌/◌, ◌%◌, ◌^◌, ◌<◌, ◌≤◌, List, length, slice_index, slice_set, Option, Some, None, ap, refl, subst, sym, ◌∙◌, inl, inr, mod-lt, div-add-mod', arith}
use Rattle.std.proofs.lemmas.Bool.{cases_eq, cases_lt}
use Rattle.std.proofs.lemmas.Bool.Decides.{nat_tests}
use Rattle.std.proofs.lemmas.Grind.{get_or-set_at}
use Rattle.std.proofs.lemmas.List.{get_or-set_other, length-set}
use Rattle.std.proofs.lemmas.Nat.{div-mul-add, mul-le, pow_pos}
use Rattle.qcow2_base.specs.Format.{max_file_length}
use Rattle.qcow2_base.specs.Storage.{Image, SameOutside}
use Rattle.qcow2_base.specs.declared.fault.Fault.{Fault}
use Rattle.qcow2_base.specs.declared.fault.Fault.TheVariants.{Storage}
use Rattle.qcow2_base.specs.declared.types.HostCluster.{HostCluster}
use Rattle.qcow2_metadata.proofs.PackingLemmas.{counters_at-length, counters_at-same}
use Rattle.qcow2_metadata.proofs.RefblockLemmas.{block_bytes}
use Rattle.qcow2_metadata.specs.Header.{HeaderRecord}
use Rattle.qcow2_metadata.specs.Placed.{place_fault}
use Rattle.qcow2_metadata.specs.Refblock.{block_entries, block_geometry_of, block_layout, greatest_counter}
use Rattle.qcow2_check.proofs.CountersLemmas.{place_of_block, same_block}
use Rattle.qcow2_check.proofs.FindingsLemmas.{cell_counts}
use Rattle.qcow2_check.specs.Counters.{block_of_cluster, blocks_fault, counters_each}
use Rattle.qcow2_check.specs.Findings.{CountsAll}
use Rattle.qcow2_check.specs.NamedTables.{named_block}
use Rattle.qcow2_check.specs.Tally.{TallyState, cell_at}
use Rattle.qcow2_check.specs.Uses.{ImageTables, image_uses}
use Rattle.qcow2_repair.proofs.RepairLemmas.{one-block, uses-stay}
use Rattle.qcow2_summary.proofs.ClustersLemmas.{other-cluster}
use Rattle.qcow2_repair.specs.Repair.{IsRepairable}
use Rattle.qcow2_repair.specs.Counters.{BreaksOff, IsEitherCounter, IsOutsideBlocks, IsPastCounters, PassesBetween, PassesBlock, PassesCounters, PassesSomeCounters, block_counters, counter_in, counter_towards, passed_counter}
use Rattle.qcow2_repair.specs.declared.counters.CounterPass.{CounterPass}
use Rattle.qcow2_repair.specs.declared.counters.CounterPass.TheVariants.{Fall, Rise}

-- the counters of a block stay where the bytes of its cluster do
pub block-same : (tables : ImageTables) (start : Image) (block : HostCluster) (old new : Image) → IsRepairable tables start
    → ((o : ℕ) → o / 2 ^ tables.header.v2.cluster_bits ≡ block.0 → new o ≡ old o) → block_counters tables block new ≡ block_counters tables block old
block-same tables start block old new is same =
    let cb = tables.header.v2.cluster_bits in
    let order = tables.header.base.refcount_order in
    counters_at-same order (block_entries cb order) (2 ^ cb) new old _ _ is.orders (block_bytes cb order is.bits is.orders)
    (λ k below. same _ (div-mul-add block.0 (2 ^ cb) k below))

-- what is known where only the block of the refcount table entry at an index changes
pub record ChangesBlock (tables : ImageTables) (i : ℕ) (block : HostCluster) (old new : Image) : Type 0 where
  pub is : IsRepairable tables old
  pub names : named_block tables.header.v2.cluster_bits (slice_index tables.reftable i) ≡ Some block
  pub below : block.0 < max_file_length
  pub outside : SameOutside (block.0 * 2 ^ tables.header.v2.cluster_bits) (2 ^ tables.header.v2.cluster_bits) old new

-- no byte outside the blocks changes then
pub others-stay : (tables : ImageTables) (i : ℕ) (block : HostCluster) (old new : Image) → ChangesBlock tables i block old new
    → (o : ℕ) → IsOutsideBlocks tables o → new o ≡ old o
others-stay tables i block old new change o outside =
    other-cluster (2 ^ tables.header.v2.cluster_bits) block.0 o old new (pow_pos _) change.outside (outside i block change.names)

-- nor a counter of another block
pub counter-elsewhere : (tables : ImageTables) (i : ℕ) (block : HostCluster) (old new : Image) (c : ℕ) → ChangesBlock tables i block old new
    → (c / counters_each tables.header ≢ i) → counter_in tables new c ≡ counter_in tables old c
counter-elsewhere tables i block old new c change elsewhere = by_block (block_of_cluster tables.header tables.reftable c) refl
  where
    j : ℕ
    j = c / counters_each tables.header

    same_cluster : (a b : HostCluster) → a.0 ≡ b.0 → a ≡ b
    same_cluster a b same = grind (arith, same)

    by_block : (found : Option HostCluster) → block_of_cluster tables.header tables.reftable c ≡ found → counter_in tables new c ≡ counter_in tables old c
    by_block None none = grind (arith, none)
    by_block (Some other) there =
        let differs : other.0 ≢ block.0 = λ same. elim (cases_lt i j) [
          | inl before ↦ one-block tables old i j block change.is change.below before change.names (there ∙ ap Some (same_cluster other block same))
          | inr after ↦ one-block tables old j i block change.is change.below (omega (arith, after, elsewhere)) (there ∙ ap Some (same_cluster other block same)) change.names
        ] in
        let kept = block-same tables old other old new change.is
        (λ o here. other-cluster (2 ^ tables.header.v2.cluster_bits) block.0 o old new (pow_pos _) change.outside (λ at. differs (sym here ∙ at))) in
        grind (arith, there, kept)

-- the counter of a cluster of the block
counter-here : (tables : ImageTables) (i : ℕ) (block : HostCluster) (image : Image) (c : ℕ)
    → named_block tables.header.v2.cluster_bits (slice_index tables.reftable i) ≡ Some block
    → c / counters_each tables.header ≡ i → counter_in tables image c ≡ slice_index (block_counters tables block image) (c % counters_each tables.header)
counter-here tables i block image c names here =
    let found : block_of_cluster tables.header tables.reftable c ≡ Some block = ap (λ k. named_block tables.header.v2.cluster_bits (slice_index tables.reftable k)) here ∙ names in
    grind (arith, found)

-- where a cluster is in a block of n whose first is this one
place-in-block : (n i c : ℕ) → 0 < n → i * n ≤ c → c < i * n + n → (c / n ≡ i) × (c % n ≡ c - i * n)
place-in-block n i c some from before =
    let parts : c ≡ i * n + (c - i * n) = omega (arith, from) in
    let quotient : c / n ≡ i = ap (λ x. x / n) parts ∙ div-mul-add i n (c - i * n) (omega (arith, from, before)) in
    let whole : c / n * n + c % n ≡ c = div-add-mod' c n in
    let whole' : i * n + c % n ≡ c = rw quotient at whole in
    (quotient, omega (arith, whole'))

-- a pass over a part of a block
pub record PassesPart (tables : ImageTables) (pass : CounterPass) (i from to : ℕ) (block : HostCluster) (tally : TallyState) (old new : Image) : Type 0 where
  pub change : ChangesBlock tables i block old new
  pub within : to ≤ counters_each tables.header
  pub counts : CountsAll tables old tally
  pub first : tally.first ≤ i * counters_each tables.header + from
  pub end : i * counters_each tables.header + to ≤ tally.end
  pub counters : PassesBlock pass (λ k. cell_at tally (i * counters_each tables.header + k) / 8) from to (block_counters tables block old) (block_counters tables block new)

-- is one over the clusters that it counts
part-passed : (tables : ImageTables) (pass : CounterPass) (i from to : ℕ) (block : HostCluster) (tally : TallyState) (old new : Image)
    → PassesPart tables pass i from to block tally old new → (c : ℕ) → i * counters_each tables.header + from ≤ c → c < i * counters_each tables.header + to
    → counter_in tables new c ≡ passed_counter tables pass old c
part-passed tables pass i from to block tally old new part c after before =
    let n = counters_each tables.header in
    let at = place-in-block n i c (pow_pos _) (omega (arith, after)) (omega (arith, before, part.within)) in
    let uses = cell_counts (image_uses tables old) c (cell_at tally c) (part.counts c (omega (arith, part.first, after)) (omega (arith, part.end, before))) in
    let k : i * n + c % n ≡ c = omega (arith, at.1, after) in
    let full : length (block_counters tables block old) ≡ n = counters_at-length tables.header.base.refcount_order old _ _ in
    let each = part.counters.each (c % n) (omega (arith, full, at.1, before, part.within)) in
    counter-here tables i block new c part.change.names at.0 ∙ grind (arith, nat_tests, each, k, uses, at.1, after, before, counter-here tables i block old c part.change.names at.0)

part-stays : (tables : ImageTables) (pass : CounterPass) (i from to : ℕ) (block : HostCluster) (tally : TallyState) (old new : Image)
    → PassesPart tables pass i from to block tally old new → (c : ℕ)
    → (c < i * counters_each tables.header + from) ⊎ (i * counters_each tables.header + to ≤ c)
    → counter_in tables new c ≡ counter_in tables old c
part-stays tables pass i from to block tally old new part c outside =
    let n = counters_each tables.header in
    elim (cases_eq (c / n) i) [
      | inl here ↦
          let whole : c / n * n + c % n ≡ c = div-add-mod' c n in
          let whole' : i * n + c % n ≡ c = rw here at whole in
          let small : c % n < n = mod-lt c (pow_pos _) in
          let full : length (block_counters tables block old) ≡ n = counters_at-length tables.header.base.refcount_order old _ _ in
          let each = part.counters.each (c % n) (omega (arith, full, small)) in
          counter-here tables i block new c part.change.names here ∙ grind (arith, nat_tests, each, whole', outside, counter-here tables i block old c part.change.names here)
      | inr elsewhere ↦ counter-elsewhere tables i block old new c part.change elsewhere
    ]

pub part-between : (tables : ImageTables) (pass : CounterPass) (i from to : ℕ) (block : HostCluster) (tally : TallyState) (old new : Image)
    → PassesPart tables pass i from to block tally old new
    → PassesBetween tables pass (i * counters_each tables.header + from) (i * counters_each tables.header + to) old new
part-between tables pass i from to block tally old new part = record {
  passed = λ c after before has. part-passed tables pass i from to block tally old new part c after before;
  before = λ c less. part-stays tables pass i from to block tally old new part c (inl less);
  after = λ c more. part-stays tables pass i from to block tally old new part c (inr more);
  others = others-stay tables i block old new part.change;
}

-- a pass over no cluster
pub none-between : (tables : ImageTables) (pass : CounterPass) (at : ℕ) (image : Image) → PassesBetween tables pass at at image image
none-between tables pass at image = record {
  passed = λ c after before has. absurd (omega (arith, after, before));
  before = λ c less. refl;
  after = λ c more. refl;
  others = λ o outside. refl;
}

-- where a pass has changed an image, clusters are used as before
passed-again : (tables : ImageTables) (pass : CounterPass) (from to : ℕ) (old new : Image) → IsRepairable tables old
    → PassesBetween tables pass from to old new → (c : ℕ) → counter_in tables new c ≡ counter_in tables old c
    → passed_counter tables pass new c ≡ passed_counter tables pass old c
passed-again tables pass from to old new is so_far c same =
    let uses : image_uses tables new ≡ image_uses tables old = uses-stay tables old new is so_far.others in
    rw (uses, same) refl

-- two passes, one over the clusters after those of the other
pub between-more : (tables : ImageTables) (pass : CounterPass) (from mid to : ℕ) (a b c : Image) → from ≤ mid → mid ≤ to → IsRepairable tables a
    → PassesBetween tables pass from mid a b → PassesBetween tables pass mid to b c → PassesBetween tables pass from to a c
between-more tables pass from mid to a b c low high is one other = record {
  passed = λ k after before has. elim (cases_lt k mid) [
    | inl less ↦ other.before k less ∙ one.passed k after less has
    | inr more ↦ other.passed k more before has ∙ passed-again tables pass from mid a b is one k (one.after k more)
  ];
  before = λ k less. other.before k (omega (arith, less, low)) ∙ one.before k less;
  after = λ k more. other.after k more ∙ one.after k (omega (arith, more, high));
  others = λ o outside. other.others o outside ∙ one.others o outside;
}

-- a pass that changes a counter again leaves it
towards-twice : (pass : CounterPass) (uses counter : ℕ) → counter_towards pass uses (counter_towards pass uses counter) ≡ counter_towards pass uses counter
towards-twice Rise uses counter = grind (arith, nat_tests)
towards-twice Fall uses counter = grind (arith, nat_tests)

-- a pass that broke off after another over the clusters before
pub breaks-later : (tables : ImageTables) (pass : CounterPass) (mid : ℕ) (fault : Fault) (a b c : Image) → IsRepairable tables a
    → PassesBetween tables pass 0 mid a b → BreaksOff tables pass fault b c → BreaksOff tables pass fault a c
breaks-later tables pass mid fault a b c is one other = (
  other.0,
  record {
    counters = λ k. by_block k (block_of_cluster tables.header tables.reftable k) refl (cases_lt k mid) (other.1.counters k);
    others = λ o outside. other.1.others o outside ∙ one.others o outside;
  },
  other.2,
)
  where
    uses : image_uses tables b ≡ image_uses tables a
    uses = uses-stay tables a b is one.others

    by_block : (k : ℕ) (found : Option HostCluster) → block_of_cluster tables.header tables.reftable k ≡ found → (k < mid) ⊎ (mid ≤ k)
        → IsEitherCounter tables pass k b other.0 → IsEitherCounter tables pass k a other.0
    by_block k None none cases here = inl (grind (arith, none))
    by_block k (Some block) there (inr more) (inl same) = inl (same ∙ one.after k more)
    by_block k (Some block) there (inr more) (inr passed) = inr (passed ∙ passed-again tables pass 0 mid a b is one k (one.after k more))
    by_block k (Some block) there (inl less) (inl same) = inr (same ∙ one.passed k (omega arith) less (grind (arith, there)))
    by_block k (Some block) there (inl less) (inr passed) =
        let before = one.passed k (omega arith) less (grind (arith, there)) in
        inr (passed ∙ rw (uses, before) (towards-twice pass _ _))

-- a pass of which nothing is done
counters-unchanged : (tables : ImageTables) (pass : CounterPass) (image : Image) → PassesSomeCounters tables pass image image
counters-unchanged tables pass image = record { counters = λ c. inl refl; others = λ o outside. refl }

-- a pass that broke off before it changed a byte
pub breaks-first : (tables : ImageTables) (pass : CounterPass) (fault : Fault) (old new : Image) → new ≡ old → BreaksOff tables pass fault old new
breaks-first tables pass fault old new same = (old, counters-unchanged tables pass old, record { whole = λ other. same; torn = inl same })

-- a pass whose write of a block failed
pub breaks-here : (tables : ImageTables) (pass : CounterPass) (i : ℕ) (block : HostCluster) (fault : Fault) (old new : Image) → ChangesBlock tables i block old new
    → (fault ≢ Storage → new ≡ old) → BreaksOff tables pass fault old new
breaks-here tables pass i block fault old new change whole =
    (old, counters-unchanged tables pass old, record { whole = whole; torn = inr (i, block, change.names, change.outside) })

-- past the clusters that blocks count there is none to pass over
pub all-between : (tables : ImageTables) (pass : CounterPass) (end : ℕ) (old new : Image) → end ≤ max_file_length
    → ((c : ℕ) → end ≤ c → c < max_file_length → block_of_cluster tables.header tables.reftable c ≡ None)
    → PassesBetween tables pass 0 end old new → PassesCounters tables pass old new
all-between tables pass end old new below none so_far = record {
  passed = λ c after before has. elim (cases_lt c end) [
    | inl less ↦ so_far.passed c after less has
    | inr more ↦ absurd (grind (arith, nat_tests, none c more before, has))
  ];
  before = so_far.before;
  after = λ c more. so_far.after c (omega (arith, more, below));
  others = so_far.others;
}

-- a pass that was done
pub counters-done : (tables : ImageTables) (pass : CounterPass) (fault : Fault) (old new last : Image) → PassesCounters tables pass old new → last ≡ new
    → BreaksOff tables pass fault old last
counters-done tables pass fault old new last passes same = (
  new,
  record { counters = λ c. by_block c (block_of_cluster tables.header tables.reftable c) refl (cases_lt c max_file_length); others = passes.others },
  record { whole = λ other. same; torn = inl same },
)
  where
    by_block : (c : ℕ) (found : Option HostCluster) → block_of_cluster tables.header tables.reftable c ≡ found → (c < max_file_length) ⊎ (max_file_length ≤ c)
        → IsEitherCounter tables pass c old new
    by_block c found there (inr past) = inl (passes.after c past)
    by_block c None none (inl below) = inl (grind (arith, none))
    by_block c (Some block) there (inl below) = inr (passes.passed c (omega arith) below (grind (arith, there)))

-- no counter of a block is passed yet
pub passes-none : (pass : CounterPass) (uses : ℕ → ℕ) (from : ℕ) (numbers : List ℕ) → PassesBlock pass uses from from numbers numbers
passes-none pass uses from numbers = record { count = refl; each = λ k below. grind (arith, nat_tests) }

-- and one more is
pub passes-next : (pass : CounterPass) (uses : ℕ → ℕ) (from index : ℕ) (old mid new : List ℕ) → from ≤ index → index < length old
    → PassesBlock pass uses from index old mid
    → new ≡ slice_set mid index (counter_towards pass (uses index) (slice_index mid index)) → PassesBlock pass uses from (index + 1) old new
passes-next pass uses from index old mid new low below so_far is = record {
  count = rw is (length-set mid index _ ∙ so_far.count);
  each = λ k small. elim (cases_eq k index) [
    | inl here ↦ grind (arith, nat_tests, is, here, get_or-set_at, so_far.count, so_far.each index below)
    | inr elsewhere ↦ grind (arith, nat_tests, is, elsewhere, get_or-set_other, so_far.each k small)
  ];
}

-- a pass over counters that it doesn't change
stays : (pass : CounterPass) (uses : ℕ → ℕ) (from count : ℕ) (numbers : List ℕ)
    → ((k : ℕ) → k < count → counter_towards pass (uses (from + k)) (slice_index numbers (from + k)) ≡ slice_index numbers (from + k))
    → PassesBlock pass uses from (from + count) numbers numbers
stays pass uses from count numbers same = record {
  count = refl;
  each = λ k small. elim (cases_lt k from) [
    | inl less ↦ grind (arith, nat_tests, less)
    | inr more ↦
        let place : from + (k - from) ≡ k = omega (arith, more) in
        elim (cases_lt k (from + count)) [
          | inl within ↦
              let here : counter_towards pass (uses k) (slice_index numbers k) ≡ slice_index numbers k = rw place at (same (k - from) (omega (arith, more, within))) in
              grind (arith, nat_tests, here, more, within)
          | inr past ↦ grind (arith, nat_tests, past)
        ]
  ];
}

towards-itself : (pass : CounterPass) (counter : ℕ) → counter_towards pass counter counter ≡ counter
towards-itself Rise counter = grind (arith, nat_tests)
towards-itself Fall counter = grind (arith, nat_tests)

-- it doesn't change one that is as great as the uses
pub right_stays : (pass : CounterPass) (uses : ℕ → ℕ) (from count : ℕ) (numbers : List ℕ)
    → ((k : ℕ) → k < count → slice_index numbers (from + k) ≡ uses (from + k)) → PassesBlock pass uses from (from + count) numbers numbers
right_stays pass uses from count numbers right =
    stays pass uses from count numbers (λ k below. rw (right k below) (towards-itself pass (uses (from + k))))

-- nor does a rise one of a cluster without uses
pub unused_stays : (uses : ℕ → ℕ) (from count : ℕ) (numbers : List ℕ)
    → ((k : ℕ) → k < count → uses (from + k) ≡ 0) → PassesBlock Rise uses from (from + count) numbers numbers
unused_stays uses from count numbers unused =
    stays Rise uses from count numbers (λ k below. grind (arith, nat_tests, unused k below))

pub unused_part : (uses : ℕ → ℕ) (from to : ℕ) (numbers : List ℕ) → from ≤ to
    → ((k : ℕ) → from ≤ k → k < to → uses k ≡ 0) → PassesBlock Rise uses from to numbers numbers
unused_part uses from to numbers order unused =
    let whole : from + (to - from) ≡ to = omega (arith, order) in
    subst (λ end. PassesBlock Rise uses from end numbers numbers) whole
    (unused_stays uses from (to - from) numbers (λ k below. unused (from + k) (omega arith) (omega (arith, below))))

-- the place of a block that a refcount table entry names
pub place_of_named : (header : HeaderRecord) (reftable : List ℕ) (i c : ℕ) (block : HostCluster) → blocks_fault header reftable ≡ None
    → i ≡ c / counters_each header → named_block header.v2.cluster_bits (slice_index reftable i) ≡ Some block
    → place_fault (block_layout (block_geometry_of header)) block ≡ None
place_of_named header reftable i c block placed at names =
    place_of_block header reftable c block placed (rw at at names)

pub below-end : (tables : ImageTables) (block : HostCluster) → place_fault (block_layout (block_geometry_of tables.header)) block ≡ None → block.0 < max_file_length
below-end tables block fits =
    let w = 2 ^ tables.header.v2.cluster_bits in
    let some : 0 < w = pow_pos _ in
    let ends : block.0 * w + w ≤ max_file_length = grind (arith, nat_tests, fits) in
    let least : block.0 * 1 ≤ block.0 * w = mul-le _ _ _ _ (omega arith) (omega (arith, some)) in
    omega (arith, ends, least, some)

-- only the block of a cluster changes
pub changes-block : (tables : ImageTables) (i c : ℕ) (block : HostCluster) (old new : Image) → IsRepairable tables old → i ≡ c / counters_each tables.header
    → named_block tables.header.v2.cluster_bits (slice_index tables.reftable i) ≡ Some block
    → SameOutside (block.0 * 2 ^ tables.header.v2.cluster_bits) (2 ^ tables.header.v2.cluster_bits) old new → ChangesBlock tables i block old new
changes-block tables i c block old new is at names outside = record {
  is = is;
  names = names;
  below = below-end tables block (place_of_named tables.header tables.reftable i c block is.placed at names);
  outside = outside;
}

-- no cluster is passed where there is no block
pub none-passed : (tables : ImageTables) (pass : CounterPass) (i index c end : ℕ) (image : Image) → i ≡ c / counters_each tables.header
    → index ≡ c % counters_each tables.header → named_block tables.header.v2.cluster_bits (slice_index tables.reftable i) ≡ None
    → end ≤ c - index + counters_each tables.header → PassesBetween tables pass c end image image
none-passed tables pass i index c end image at in_block none short = record {
  passed = λ k after before has.
      let same = same_block tables.header tables.reftable c k after (omega (arith, before, short, in_block)) in
      absurd (grind (arith, nat_tests, same, at, none, has));
  before = λ k less. refl;
  after = λ k more. refl;
  others = λ o outside. refl;
}

-- a pass from a cluster on
pub part-from : (tables : ImageTables) (pass : CounterPass) (i index c end : ℕ) (block : HostCluster) (tally : TallyState) (old new : Image)
    → IsRepairable tables old → i ≡ c / counters_each tables.header → index ≡ c % counters_each tables.header
    → named_block tables.header.v2.cluster_bits (slice_index tables.reftable i) ≡ Some block
    → SameOutside (block.0 * 2 ^ tables.header.v2.cluster_bits) (2 ^ tables.header.v2.cluster_bits) old new
    → CountsAll tables old tally → tally.first ≤ c → c < end → end ≤ tally.end → end ≤ c - index + counters_each tables.header
    → PassesBlock pass (λ k. cell_at tally (c - index + k) / 8) index (end - (c - index)) (block_counters tables block old) (block_counters tables block new)
    → PassesBetween tables pass c end old new
part-from tables pass i index c end block tally old new is at in_block names outside counts first before last within counters =
    let n = counters_each tables.header in
    let whole : c / n * n + c % n ≡ c = div-add-mod' c n in
    let begins : c - index ≡ i * n = grind (arith, whole, at, in_block) in
    let from : i * n + index ≡ c = grind (arith, whole, at, in_block) in
    let to : i * n + (end - (c - index)) ≡ end = omega (arith, begins, from, before) in
    let part : PassesPart tables pass i index (end - (c - index)) block tally old new = record {
      change = changes-block tables i c block old new is at names outside;
      within = omega (arith, within, begins, from, before);
      counts = counts;
      first = omega (arith, first, from);
      end = omega (arith, last, to);
      counters = subst (λ a. PassesBlock pass (λ k. cell_at tally (a + k) / 8) index (end - (c - index)) (block_counters tables block old) (block_counters tables block new)) begins counters;
    } in
    rw (from, to) at (part-between tables pass i index (end - (c - index)) block tally old new part)

-- each counter of a part of a block can hold the uses of its cluster
pub past-never : (tables : ImageTables) (i index c end : ℕ) (block : HostCluster) (tally : TallyState) (image : Image) (fault : Fault)
    → IsRepairable tables image → i ≡ c / counters_each tables.header → index ≡ c % counters_each tables.header
    → named_block tables.header.v2.cluster_bits (slice_index tables.reftable i) ≡ Some block
    → CountsAll tables image tally → tally.first ≤ c → c < end → end ≤ tally.end → tally.end ≤ max_file_length → end ≤ c - index + counters_each tables.header
    → IsPastCounters tables.header.base.refcount_order (λ k. cell_at tally (c - index + k) / 8) index (end - (c - index)) fault → ⊥
past-never tables i index c end block tally image fault is at in_block names counts first before last most within past =
    let n = counters_each tables.header in
    let whole : c / n * n + c % n ≡ c = div-add-mod' c n in
    let begins : c - index ≡ i * n = grind (arith, whole, at, in_block) in
    let from : i * n + index ≡ c = grind (arith, whole, at, in_block) in
    let k = past.past.0 in
    let k_from : index ≤ k = past.past.1 in
    let k_before : k < end - (c - index) = past.past.2 in
    let other = c - index + k in
    let here = place-in-block n i other (pow_pos _) (omega (arith, begins)) (omega (arith, begins, k_before, within)) in
    let has : block_of_cluster tables.header tables.reftable other ≡ Some block = ap (λ j. named_block tables.header.v2.cluster_bits (slice_index tables.reftable j)) here.0 ∙ names in
    let uses = cell_counts (image_uses tables image) other (cell_at tally other) (counts other (omega (arith, begins, from, k_from, first)) (omega (arith, k_before, last))) in
    let held = is.fits other (omega (arith, k_before, last, most)) (grind (arith, has)) in
    let never : greatest_counter tables.header.base.refcount_order < cell_at tally other / 8 = past.past.3 in
    omega (arith, held, rw uses at never)
