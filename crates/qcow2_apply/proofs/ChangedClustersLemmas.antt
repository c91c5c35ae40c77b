use Rattle.std.proofs.Common.{◌≡◌, ℕ, Bool, true, false, not, ◌==◌, ◌&&◌, ◌+◌, ◌-◌, ◌*◌, ◌/◌, ◌%◌, ◌^◌, ◌<◌, ◌≤◌, nat_lt, min, pow-add, Result, Ok, Err, IsOkUnless, OnOk, List, [], length, slice_index, None, Some, is_some, ap, subst, sym, inl, inr, ◌∙◌, mod-lt, div-add-mod', div-lt_iff_lt-mul, arith}
use Rattle.std.proofs.lemmas.Bool.{cases_Bool, cases_eq, cases_lt}
use Rattle.std.proofs.lemmas.Bool.Decides.{nat_tests}
use Rattle.std.proofs.lemmas.Nat.{div-mul-add, pow_pos}
use Rattle.qcow2_base.specs.Format.{max_file_length}
use Rattle.qcow2_base.specs.Storage.{Image, OnlyReads, StorageState}
use Rattle.qcow2_base.specs.declared.fault.Fault.{Fault}
use Rattle.qcow2_base.specs.declared.fault.Fault.TheVariants.{NoMemory}
use Rattle.qcow2_base.specs.declared.types.HostCluster.{HostCluster}
use Rattle.qcow2_edits.specs.Edits.{cluster_numbers}
use Rattle.qcow2_edits.specs.Settled.{is_between}
use Rattle.qcow2_metadata.proofs.PackingLemmas.{counters_at-length}
use Rattle.qcow2_metadata.specs.Refblock.{block_entries}
use Rattle.qcow2_metadata.specs.Table.L2Guards.{handed_back, one_if, times_gained}
use Rattle.qcow2_check.proofs.CountersLemmas.{ends, within_blocks}
use Rattle.qcow2_check.specs.Counters.{block_of_cluster, counters_each}
use Rattle.qcow2_check.specs.NamedTables.{named_block}
use Rattle.qcow2_apply.proofs.CounterTablesLemmas.{counter-at}
use Rattle.qcow2_apply.specs.CounterTables.{BlockFollows, CounterTablesState, Follows, NamesBlock, block_numbers, counter_of_cluster}
use Rattle.qcow2_apply.specs.ChangedClusters.{AreInOrder, HasListed, ListsBlock, ListsChanges, ListsCounter, ListsCounters, becomes_free, counter_left, gains_some, has_counter, is_listable, is_freed, is_kept_at, risen_counter, stays_at, times_kept}
use Rattle.qcow2_apply.specs.Changes.{gains_of, losses_of}
use Rattle.qcow2_apply.specs.PlannedChanges.{AreSorted}
use Rattle.qcow2_apply.specs.declared.changed_clusters.ChangedClusters.{ChangedClusters}
use Rattle.qcow2_apply.specs.declared.changes.Changes.{Changes}

-- one more in a row, whatever it is picked by
one-more : (first k c : ℕ) (picks : ℕ → Bool)
    → one_if (is_between first (first + k) c && picks (c - first)) + one_if (first + k == c && picks k)
    ≡ one_if (is_between first (first + (k + 1)) c && picks (c - first))
one-more first k c picks = elim (cases_eq (first + k) c) [
  | inl here ↦
      let same : c - first ≡ k = omega (arith, here) in
      grind (arith, nat_tests, here, ap picks same)
  | inr differs ↦ grind (arith, nat_tests, differs)
]

pub lists-next : (first k : ℕ) (before risen after : List ℕ) (a b d : ChangedClusters) → ListsCounters first k before risen after a b
    → ListsCounter (first + k) (slice_index before k) (slice_index risen k) (slice_index after k) b d
    → ListsCounters first (k + 1) before risen after a d
lists-next first k before risen after a b d one other = record {
  freed_is = λ c. omega (arith, one.freed_is c, other.freed_is c, one-more first k c (λ i. is_freed (slice_index risen i) (slice_index after i)));
  kept_is = λ n c. omega (arith, one.kept_is n c, other.kept_is n c, one-more first k c (λ i. is_kept_at n (slice_index risen i) (slice_index after i)));
  gained_is = λ c. omega (arith, one.gained_is c, other.gained_is c, one-more first k c (λ i. not (slice_index risen i == slice_index before i)));
}

none-yet : (first c : ℕ) (picked : Bool) → one_if (is_between first (first + 0) c && picked) ≡ 0
none-yet first c picked = grind (arith, nat_tests)

pub lists-none : (first : ℕ) (before risen after : List ℕ) (a : ChangedClusters) → ListsCounters first 0 before risen after a a
lists-none first before risen after a = record {
  freed_is = λ c. omega (arith, none-yet first c (is_freed (slice_index risen (c - first)) (slice_index after (c - first))));
  kept_is = λ n c. omega (arith, none-yet first c (is_kept_at n (slice_index risen (c - first)) (slice_index after (c - first))));
  gained_is = λ c. omega (arith, none-yet first c (not (slice_index risen (c - first) == slice_index before (c - first))));
}

-- some more in a row, whatever they are picked by
more-picked : (first k n c : ℕ) (picks part : ℕ → Bool) → ((i : ℕ) → i < n → part i ≡ picks (k + i))
    → one_if (is_between first (first + k) c && picks (c - first)) + one_if (is_between (first + k) (first + k + n) c && part (c - (first + k)))
    ≡ one_if (is_between first (first + (k + n)) c && picks (c - first))
more-picked first k n c picks part same = elim (cases_Bool (is_between (first + k) (first + k + n) c)) [
  | inl within ↦
      let from : first + k ≤ c = grind (arith, nat_tests, within) in
      let before : c < first + k + n = grind (arith, nat_tests, within) in
      let at : k + (c - (first + k)) ≡ c - first = omega (arith, from) in
      let picked : part (c - (first + k)) ≡ picks (c - first) = same (c - (first + k)) (omega (arith, from, before)) ∙ ap picks at in
      grind (arith, nat_tests, from, before, picked)
  | inr outside ↦ grind (arith, nat_tests, outside)
]

-- numbers are those of a list from an index on
abbrev pub IsPart : List ℕ → ℕ → ℕ → List ℕ → Type 0
IsPart part n k list = (i : ℕ) → i < n → slice_index part i ≡ slice_index list (k + i)

-- so clusters in a row are listed after others, by counters that are a part of those of a block
pub lists-on : (first k n : ℕ) (before risen after before' risen' after' : List ℕ) (a b d : ChangedClusters) → ListsCounters first k before risen after a b
    → IsPart before' n k before → IsPart risen' n k risen → IsPart after' n k after → ListsCounters (first + k) n before' risen' after' b d
    → ListsCounters first (k + n) before risen after a d
lists-on first k n before risen after before' risen' after' a b d one same_b same_r same_a other = record {
  freed_is = λ c. omega (
    arith,
    one.freed_is c,
    other.freed_is c,
    more-picked first k n c (λ i. is_freed (slice_index risen i) (slice_index after i))
        (λ i. is_freed (slice_index risen' i) (slice_index after' i)) (λ i below. grind (arith, same_r i below, same_a i below)),
  );
  kept_is = λ m c. omega (
    arith,
    one.kept_is m c,
    other.kept_is m c,
    more-picked first k n c (λ i. is_kept_at m (slice_index risen i) (slice_index after i))
        (λ i. is_kept_at m (slice_index risen' i) (slice_index after' i)) (λ i below. grind (arith, same_r i below, same_a i below)),
  );
  gained_is = λ c. omega (
    arith,
    one.gained_is c,
    other.gained_is c,
    more-picked first k n c (λ i. not (slice_index risen i == slice_index before i))
        (λ i. not (slice_index risen' i == slice_index before' i)) (λ i below. grind (arith, same_r i below, same_b i below)),
  );
}

-- a block counts whole groups of 64 clusters
pub whole-groups : (cb order : ℕ) → 9 ≤ cb → order ≤ 6 → 64 * (block_entries cb order / 64) ≡ block_entries cb order
whole-groups cb order bits orders =
    let m = cb + 3 - order - 6 in
    let sum : 6 + m ≡ cb + 3 - order = omega (arith, bits, orders) in
    let whole : 2 ^ (cb + 3 - order) ≡ 64 * 2 ^ m = ap (λ n. 2 ^ n) (sym sum) ∙ pow-add 2 6 m in
    omega (arith, whole)

-- a cluster of a block is picked by its counter, whether by its place in the block or by its number
picked-by : (tables : CounterTablesState) (gains losses : Changes) (i : ℕ) (block : HostCluster) (image : Image) (risen mid after : List ℕ) (c : ℕ)
    (P : ℕ → ℕ → ℕ → Bool) → AreSorted (counters_each tables.header) gains losses → NamesBlock tables i block
    → BlockFollows tables gains i (block_numbers tables block image) risen → BlockFollows tables gains i (block_numbers tables block image) mid
    → BlockFollows tables losses i mid after → let n = counters_each tables.header in let first = i * n in
    one_if (is_between first (first + n) c && P (slice_index risen (c - first)) (slice_index after (c - first)) (slice_index (block_numbers tables block image) (c - first)))
    ≡ one_if ((c / n == i && is_some (block_of_cluster tables.header tables.reftable c))
    && P (risen_counter tables gains image c) (counter_left tables gains losses image c) (counter_of_cluster tables image c))
picked-by tables gains losses i block image risen mid after c P sorted names rises rises' falls = elim (cases_eq (c / counters_each tables.header) i) [
  | inl here ↦
      let n = counters_each tables.header in
      let numbers = block_numbers tables block image in
      let k = c - i * n in
      let small : c % n < n = mod-lt c (pow_pos _) in
      let whole : c / n * n + c % n ≡ c = div-add-mod' c n in
      let product : c / n * n ≡ i * n = ap (λ q. q * n) here in
      let at : i * n + k ≡ c = omega (arith, whole, product) in
      let below : k < n = omega (arith, whole, product, small) in
      let full : length numbers ≡ n = counters_at-length tables.header.base.refcount_order image _ _ in
      let counter = subst (λ d. counter_of_cluster tables image d ≡ slice_index numbers k) at (counter-at tables i k block image names below).1 in
      let up = subst (λ d. Follows gains d (slice_index numbers k) (slice_index risen k)) at (rises.each k (omega (arith, below, full))) in
      let up' = subst (λ d. Follows gains d (slice_index numbers k) (slice_index mid k)) at (rises'.each k (omega (arith, below, full))) in
      let down = subst (λ d. Follows losses d (slice_index mid k) (slice_index after k)) at (falls.each k (omega (arith, below, full, rises'.count))) in
      let r : slice_index risen k ≡ risen_counter tables gains image c = omega (arith, counter, up, sorted.no_loss c) in
      let a : slice_index after k ≡ counter_left tables gains losses image c = omega (arith, counter, up', down, sorted.no_loss c, sorted.no_gain c) in
      let same = ap (λ x. P x (slice_index after k) (slice_index numbers k)) r ∙ ap (λ x. P (risen_counter tables gains image c) x (slice_index numbers k)) a
      ∙ ap (P (risen_counter tables gains image c) (counter_left tables gains losses image c)) (sym counter) in
      let between : is_between (i * n) (i * n + n) c ≡ true = grind (arith, nat_tests, at, below) in
      let named : block_of_cluster tables.header tables.reftable c ≡ Some block =
      ap (λ q. named_block tables.header.v2.cluster_bits (slice_index tables.reftable q)) here ∙ names in
      let counted : is_some (block_of_cluster tables.header tables.reftable c) ≡ true = ap is_some named in
      grind (arith, nat_tests, same, between, counted, here)
  | inr differs ↦
      let n = counters_each tables.header in
      elim (cases_Bool (is_between (i * n) (i * n + n) c)) [
        | inl within ↦ absurd (differs (of-block i n c within))
        | inr outside ↦ grind (arith, nat_tests, outside, differs)
      ]
]
  where
    of-block : (i n c : ℕ) → is_between (i * n) (i * n + n) c ≡ true → c / n ≡ i
    of-block i n c within =
        let from : i * n ≤ c = grind (arith, nat_tests, within) in
        let before : c < i * n + n = grind (arith, nat_tests, within) in
        let at : c ≡ i * n + (c - i * n) = omega (arith, from) in
        ap (λ x. x / n) at ∙ div-mul-add i n (c - i * n) (omega (arith, from, before))

-- so the clusters of a block are listed by their counters
pub lists-block : (tables : CounterTablesState) (gains losses : Changes) (i count : ℕ) (block : HostCluster) (image : Image) (before risen mid after : List ℕ)
    (a b : ChangedClusters) → AreSorted (counters_each tables.header) gains losses → NamesBlock tables i block → before ≡ block_numbers tables block image
    → BlockFollows tables gains i (block_numbers tables block image) risen → BlockFollows tables gains i (block_numbers tables block image) mid
    → BlockFollows tables losses i mid after → count ≡ counters_each tables.header → ListsCounters (i * counters_each tables.header) count before risen after a b
    → ListsBlock tables gains losses i image a b
lists-block tables gains losses i count block image before risen mid after a b sorted names is rises rises' falls full lists =
    let n = counters_each tables.header in
    let same = subst (λ size. ListsCounters (i * n) size before risen after a b) full lists in
    let all = subst (λ list. ListsCounters (i * n) n list risen after a b) is same in
    let picked = λ (c : ℕ) (P : ℕ → ℕ → ℕ → Bool). picked-by tables gains losses i block image risen mid after c P sorted names rises rises' falls in
    record {
      freed_is = λ c. all.freed_is c ∙ ap (λ m. handed_back a.freed.items c + m) (picked c (λ r l o. is_freed r l));
      kept_is = λ m c. all.kept_is m c ∙ ap (λ x. times_kept a.kept.items m c + x) (picked c (λ r l o. is_kept_at m r l));
      gained_is = λ c. all.gained_is c ∙ ap (λ x. times_gained (cluster_numbers a.gained.items) c + x) (picked c (λ r l o. not (r == o)));
    }

-- where nothing of a block changes, or it isn't there, nothing is listed
pub lists-idle : (tables : CounterTablesState) (gains losses : Changes) (i : ℕ) (image : Image) (a : ChangedClusters)
    → ((c : ℕ) → c / counters_each tables.header ≡ i → (gains_of gains c ≡ 0) × (losses_of losses c ≡ 0)) → ListsBlock tables gains losses i image a a
lists-idle tables gains losses i image a nothing = record {
  freed_is = λ c. omega (arith, none c (λ r l o. is_freed r l) (λ n. grind (arith, nat_tests)));
  kept_is = λ m c. omega (arith, none c (λ r l o. is_kept_at m r l) (λ n. grind (arith, nat_tests)));
  gained_is = λ c. omega (arith, none c (λ r l o. not (r == o)) (λ n. grind (arith, nat_tests)));
}
  where
    none : (c : ℕ) (P : ℕ → ℕ → ℕ → Bool) → ((n : ℕ) → P n n n ≡ false)
        → one_if ((c / counters_each tables.header == i && is_some (block_of_cluster tables.header tables.reftable c))
        && P (risen_counter tables gains image c) (counter_left tables gains losses image c) (counter_of_cluster tables image c)) ≡ 0
    none c P idle = elim (cases_eq (c / counters_each tables.header) i) [
      | inl here ↦
          let m = counter_of_cluster tables image c in
          let r : risen_counter tables gains image c ≡ m = omega (arith, (nothing c here).0) in
          let l : counter_left tables gains losses image c ≡ m = omega (arith, (nothing c here).0, (nothing c here).1) in
          let same = ap (λ x. P x (counter_left tables gains losses image c) m) r ∙ ap (λ x. P m x m) l ∙ idle m in
          grind (arith, nat_tests, same)
      | inr differs ↦ grind (arith, nat_tests, differs)
    ]

-- the clusters of one more block
one-block : (q i : ℕ) (counted picked : Bool) → one_if ((nat_lt q i && counted) && picked) + one_if ((q == i && counted) && picked)
    ≡ one_if ((nat_lt q (i + 1) && counted) && picked)
one-block q i counted picked = grind (arith, nat_tests)

pub listed-next : (tables : CounterTablesState) (gains losses : Changes) (i : ℕ) (image : Image) (a b : ChangedClusters) → HasListed tables gains losses i image a
    → ListsBlock tables gains losses i image a b → HasListed tables gains losses (i + 1) image b
listed-next tables gains losses i image a b one other = let n = counters_each tables.header in record {
  freed_is = λ c. omega (arith, one.freed_is c, other.freed_is c, one-block (c / n) i (has_counter tables c) (becomes_free tables gains losses image c));
  kept_is = λ m c. omega (arith, one.kept_is m c, other.kept_is m c, one-block (c / n) i (has_counter tables c) (stays_at tables gains losses image m c));
  gained_is = λ c. omega (arith, one.gained_is c, other.gained_is c, one-block (c / n) i (has_counter tables c) (gains_some tables gains image c));
}

none-before : (q : ℕ) (counted picked : Bool) → one_if ((nat_lt q 0 && counted) && picked) ≡ 0
none-before q counted picked = grind (arith, nat_tests)

pub listed-none : (tables : CounterTablesState) (gains losses : Changes) (image : Image) (a : ChangedClusters) → a.freed.items ≡ [] → a.kept.items ≡ []
    → a.gained.items ≡ [] → HasListed tables gains losses 0 image a
listed-none tables gains losses image a freed kept gained = let n = counters_each tables.header in record {
  freed_is = λ c. ap (λ list. handed_back list c) freed ∙ sym (none-before (c / n) (has_counter tables c) (becomes_free tables gains losses image c));
  kept_is = λ m c. ap (λ list. times_kept list m c) kept ∙ sym (none-before (c / n) (has_counter tables c) (stays_at tables gains losses image m c));
  gained_is = λ c. ap (λ list. times_gained (cluster_numbers list) c) gained ∙ sym (none-before (c / n) (has_counter tables c) (gains_some tables gains image c));
}

-- the clusters of the blocks that are looked at are those below the greatest length that have a counter
pub listed-all : (tables : CounterTablesState) (gains losses : Changes) (end : ℕ) (image : Image) (a : ChangedClusters)
    → ((c : ℕ) → (nat_lt (c / counters_each tables.header) end && has_counter tables c) ≡ is_listable tables c)
    → HasListed tables gains losses end image a → AreInOrder a → ListsChanges tables gains losses image a
listed-all tables gains losses end image a same has order = record {
  freed_is = λ c. has.freed_is c ∙ ap (λ counted. one_if (counted && becomes_free tables gains losses image c)) (same c);
  kept_is = λ m c. has.kept_is m c ∙ ap (λ counted. one_if (counted && stays_at tables gains losses image m c)) (same c);
  gained_is = λ c. has.gained_is c ∙ ap (λ counted. one_if (counted && gains_some tables gains image c)) (same c);
  order = order;
}

-- past the refcount table's end, or past its entries for clusters below the greatest length, no such cluster has a counter
none-after : (tables : CounterTablesState) (end entries blocks last c : ℕ) → tables.header.v2.cluster_bits ≤ 21 → end ≡ min entries blocks
    → entries ≡ length tables.reftable → blocks ≡ max_file_length / counters_each tables.header → end ≤ last → c < max_file_length
    → last ≤ c / counters_each tables.header → block_of_cluster tables.header tables.reftable c ≡ None
none-after tables end entries blocks last c bits is entries_is blocks_is past fits later = elim (cases_lt (c / counters_each tables.header) (length tables.reftable)) [
  | inl below ↦
      let within = within_blocks (tables.header.v2.cluster_bits + 3 - tables.header.base.refcount_order) c (omega (arith, bits)) fits in
      absurd (grind (arith, nat_tests, is, entries_is, blocks_is, past, later, below, within))
  | inr none ↦ ends tables.header tables.reftable c c (omega arith) none
]

-- before that all are below it
below-end : (tables : CounterTablesState) (end entries blocks last c : ℕ) → end ≡ min entries blocks → blocks ≡ max_file_length / counters_each tables.header
    → last ≤ end → c / counters_each tables.header < last → c < max_file_length
below-end tables end entries blocks last c is blocks_is within before =
    let n = counters_each tables.header in
    let counted : 0 < n = pow_pos _ in
    let small : c / n < max_file_length / n = omega (arith, is, blocks_is, within, before) in
    let below : c < max_file_length / n * n = (div-lt_iff_lt-mul counted).0 small in
    let whole : max_file_length / n * n + max_file_length % n ≡ max_file_length = div-add-mod' max_file_length n in
    omega (arith, below, whole)

pub all-counted : (tables : CounterTablesState) (end entries blocks last c : ℕ) → tables.header.v2.cluster_bits ≤ 21 → end ≡ min entries blocks
    → entries ≡ length tables.reftable → blocks ≡ max_file_length / counters_each tables.header → last ≡ end
    → (nat_lt (c / counters_each tables.header) last && has_counter tables c) ≡ is_listable tables c
all-counted tables end entries blocks last c bits is entries_is blocks_is at = elim (cases_lt (c / counters_each tables.header) last) [
  | inl before ↦
      let below = below-end tables end entries blocks last c is blocks_is (omega (arith, at)) before in
      grind (arith, nat_tests, before, below)
  | inr past ↦ elim (cases_lt c max_file_length) [
    | inl below ↦
        let nothing : has_counter tables c ≡ false =
        ap is_some (none-after tables end entries blocks last c bits is entries_is blocks_is (omega (arith, at)) below past) in
        grind (arith, nat_tests, nothing)
    | inr late ↦ grind (arith, nat_tests, past, late)
  ]
]

-- calls that only read, and then one that reads nothing and whose only fault is memory
pub reads-no-more : {T U : Type 0} (x : T) (answer : Result U Fault) (old new : StorageState) → OnlyReads (Ok x) old new → IsOkUnless answer NoMemory
    → OnlyReads answer old new
reads-no-more x (Ok value) old new reads fine = record { told = grind (arith, nat_tests, reads.told); bytes = reads.bytes; len = reads.len; device = reads.device }
reads-no-more x (Err fault) old new reads fine =
    record { told = grind (arith, nat_tests, reads.told, fine); bytes = reads.bytes; len = reads.len; device = reads.device }

-- a fact of an Ok that follows from another
pub on-ok : {T : Type 0} (answer : Result T Fault) (P Q : Type 0) → (P → Q) → OnOk answer P → OnOk answer Q
on-ok (Ok value) P Q follows fact = follows fact
on-ok (Err fault) P Q follows fact = tt

-- a read that fails after another
pub reads-then : {T U V : Type 0} (x : T) (fault : Fault) (a b d : StorageState) → OnlyReads (Ok x) a b → OnlyReads {T = U} (Err fault) b d
    → OnlyReads {T = V} (Err fault) a d
reads-then x fault a b d one other = record {
  told = grind (arith, one.told, other.told);
  bytes = other.bytes ∙ one.bytes;
  len = other.len ∙ one.len;
  device = record {
    tells = other.device.tells ∙ one.device.tells;
    mem_align = other.device.mem_align ∙ one.device.mem_align;
    req_align = other.device.req_align ∙ one.device.req_align;
  };
}
