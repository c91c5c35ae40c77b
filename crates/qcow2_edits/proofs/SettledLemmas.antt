use Rattle.std.proofs.Common.{MatchResult, Option, inl, inr, ◌≡◌, ◌≢◌, ◌⊎◌, ◌↔◌, ℕ, Bool, true, false, ◌==◌, nat_lt, ◌+◌, ◌<◌, ◌≤◌, Some, None, Result, Ok, Err, List, [], ◌∷◌, map, take, length, get_or, get_or-set_same, get_or-set_other, slice_index, ap, refl, ◌∙◌, arith}
use Rattle.std.proofs.lemmas.List.Sums.{sum_by-cons, sum_by_more, sum_by_more_le}
use Rattle.qcow2_base.specs.declared.types.HostCluster.{HostCluster}
use Rattle.qcow2_edits.specs.Edits.{cluster_numbers}
use Rattle.qcow2_edits.specs.declared.edits.Outcome.{Outcome}
use Rattle.qcow2_edits.specs.Settled.{ChangesBlock, ChangesCounters, IsSameButFlag, Settles, SomeLeavesRange, block_or_refusal, cannot_settle, is_between, settled_block, range_of_one, times_counted}
use Rattle.qcow2_metadata.specs.Results.{result_map, unless_refused}
use Rattle.qcow2_metadata.specs.Header.{Geometry}
use Rattle.std.proofs.lemmas.Bool.{cases_Bool}
use Rattle.std.proofs.lemmas.Bool.Decides.{nat_tests}
use Rattle.std.proofs.lemmas.List.{length-set}
use Rattle.std.proofs.lemmas.List.FromFn.{get_or-map-range_with_len, length-map-range_with_len, get_or-range_with_len, length-range_with_len}
use Rattle.std.proofs.lemmas.List.Folds.{Any-from_list_any, list_any_at}
use Rattle.std.specs.List.{list_any, range_with_len}
use Rattle.qcow2_base.specs.declared.fault.Fault.{Fault}
use Rattle.qcow2_base.specs.declared.fault.Fault.TheVariants.{CounterRange}
use Rattle.qcow2_metadata.specs.Table.L2Guards.{handed_back, one_if, references, times_gained}
use Rattle.std.proofs.lemmas.Grind.{same_number_lists}
use Rattle.qcow2_metadata.specs.Entries.{is_among}
use Rattle.qcow2_metadata.specs.Refblock.Counters.{AreCounters}
use Rattle.qcow2_metadata.specs.Placed.{with_number}
use Rattle.qcow2_metadata.specs.Refblock.{BlockState, greatest_counter}
use Rattle.qcow2_metadata.specs.Refblock.Guard.{Decrement, Increment, CounterChange, Steps, counter_after}
use Rattle.qcow2_metadata.specs.declared.entries.ClustersToFreeEntry.{ClustersToFreeEntry}

-- counters that move twice
moves-twice : (change : CounterChange) (first second total : ℕ → ℕ) (a b c : BlockState)
    → ((index : ℕ) → index < length a.numbers → total index ≡ first index + second index)
    → ChangesCounters change first a b → ChangesCounters change second b c → ChangesCounters change total a c
moves-twice change first second total a b c is one other = grind (arith, nat_tests)

pub changes-twice : (change : CounterChange) (first second total : ℕ → ℕ) (a b c : BlockState)
    → ((index : ℕ) → index < length a.numbers → total index ≡ first index + second index)
    → ChangesBlock change first a b → ChangesBlock change second b c → ChangesBlock change total a c
changes-twice change first second total a b c is one other =
    grind (arith, is, one.flag, other.flag, one.counters.entries, moves-twice change first second total a b c is one.counters other.counters)

-- counters that move there and back
pub moves-back : (change back : CounterChange) (by : ℕ → ℕ) (a b c : BlockState) → back ≢ change
    → ChangesCounters change by a b → ChangesCounters back by b c → IsSameButFlag a c
moves-back change back by a b c is one other =
    let same : c.numbers ≡ a.numbers = same_number_lists c.numbers a.numbers (other.entries ∙ one.entries)
    (λ k below. grind (arith, nat_tests, is, one.counters k (omega (arith, below, other.entries, one.entries)), other.counters k (omega (arith, below, other.entries)))) in
    grind (arith, same, one.others, other.others)

-- a counter that is put in the place of one
set-moves : (change : CounterChange) (index v : ℕ) (a : BlockState) → index < length a.numbers
    → counter_after a.geometry.refcount_order change (slice_index a.numbers index) ≡ Some v → ChangesCounters change (λ i. one_if (i == index)) a (with_number a index v)
set-moves change index v a below moved = grind (arith, nat_tests, moved, get_or-set_same, get_or-set_other, length-set)

-- one counter's step
pub step-moves : (change : CounterChange) (index before : ℕ) (answer : Result ℕ Fault) (a b : BlockState) → index < length a.numbers
    → Steps change index answer a b → answer ≡ Ok before → ChangesBlock change (λ i. one_if (i == index)) a b
step-moves change index before answer a b below steps is =
    grind (arith, nat_tests, steps.answers, steps.block, λ (counter : ℕ) (after : counter_after a.geometry.refcount_order change (slice_index a.numbers index) ≡ Some counter). set-moves change index counter a below after)

-- a step range as far as the next index
pub range-next : (change : CounterChange) (start at before : ℕ) (answer : Result ℕ Fault) (a b c : BlockState) → start ≤ at → at < length a.numbers
    → ChangesBlock change (λ i. one_if (is_between start at i)) a b → Steps change at answer b c → answer ≡ Ok before
    → ChangesBlock change (λ i. one_if (is_between start (at + 1) i)) a c
range-next change start at before answer a b c from below changed steps is =
    changes-twice change (λ i. one_if (is_between start at i)) (λ i. one_if (i == at)) (λ i. one_if (is_between start (at + 1) i)) a b c
    (λ i within. grind (arith, nat_tests, from)) changed (step-moves change at before answer b c (omega (arith, below, changed.counters.entries)) steps is)

-- the width of counters stays
order-kept : (change : CounterChange) (by : ℕ → ℕ) (a b : BlockState) → ChangesCounters change by a b → b.geometry.refcount_order ≡ a.geometry.refcount_order
order-kept change by a b moves = ap (λ (block : BlockState). block.geometry.refcount_order) moves.others

-- a step range that ends
pub range-stops : (change : CounterChange) (start at : ℕ) (fault : Fault) (answer : Result ℕ Fault) (a b c : BlockState) → at < length a.numbers
    → ChangesCounters change (λ i. one_if (is_between start at i)) a b → Steps change at answer b c → answer ≡ Err fault
    → ChangesCounters change (λ i. one_if (is_between start at i)) a c × (counter_after a.geometry.refcount_order change (slice_index a.numbers at) ≡ None)
range-stops change start at fault answer a b c below moves steps is =
    grind (arith, nat_tests, steps.answers, steps.block, order-kept)

-- gains are counted by clusters or by their numbers
times-gained : (gained : List HostCluster) (first index : ℕ) → times_counted range_of_one gained first index ≡ times_gained (cluster_numbers gained) (first + index)
times-gained [] first index = refl
times-gained (cluster ∷ gained) first index = grind (
  arith,
  nat_tests,
  sum_by-cons (λ (item : HostCluster). one_if (is_among (range_of_one item) (first + index))) cluster gained,
  sum_by-cons (λ (number : ℕ). one_if (number == first + index)) cluster.0 (cluster_numbers gained),
  times-gained gained first index,
)

-- a test for an index of a list passes exactly where it does at one
pub any-index : (test : ℕ → Bool) (n : ℕ) → (list_any test (range_with_len 0 n) ≡ true) ↔ ((i : ℕ) × (i < n) × (test i ≡ true))
any-index test n = (
  λ some. grind (arith, Any-from_list_any test (range_with_len 0 n) some, get_or-range_with_len, length-range_with_len),
  λ one. list_any_at test (range_with_len 0 n) one.0 0 (grind (arith, length-range_with_len)) (grind (arith, get_or-range_with_len)),
)

-- where a counter can't count its cluster's references, the definition refuses
refused-is : (block : BlockState) (first : ℕ) (freed : List ClustersToFreeEntry) (gained : List ℕ)
    → (index : ℕ) × (index < length block.numbers) × (cannot_settle block first freed gained index ≡ true)
    → block_or_refusal block first freed gained ≡ Err CounterRange
refused-is block first freed gained short =
    grind (arith, (any-index (cannot_settle block first freed gained) (length block.numbers)).1 short)

-- counters that gained all and then lost all
pub settled-by : (first : ℕ) (outcome : Outcome) (a b c : BlockState) → ChangesBlock Increment (times_counted range_of_one outcome.gained.items first) a b
    → ChangesBlock Decrement (times_counted (λ item. item) outcome.freed.items first) b c → Settles first outcome a c
settled-by first outcome a b c up down = grind (arith, nat_tests, times-gained)

-- and that could
pub can-settle : (first : ℕ) (gained : List HostCluster) (freed : List ClustersToFreeEntry) (a b c : BlockState)
    → ChangesCounters Increment (times_counted range_of_one gained first) a b → AreCounters b.geometry.refcount_order b.numbers
    → ChangesCounters Decrement (times_counted (λ item. item) freed first) b c
    → (index : ℕ) → index < length a.numbers → cannot_settle a first freed (cluster_numbers gained) index ≡ false
can-settle first gained freed a b c up fit down = λ index below. grind (arith, nat_tests, order-kept, fit index 0, times-gained)

-- gains that don't fit, and losses
pub gains-short : (first : ℕ) (gained : List HostCluster) (freed : List ClustersToFreeEntry) (a : BlockState)
    → SomeLeavesRange Increment (times_counted range_of_one gained first) a
    → block_or_refusal a first freed (cluster_numbers gained) ≡ Err CounterRange
gains-short first gained freed a short = refused-is a first freed (cluster_numbers gained) (grind (arith, nat_tests, times-gained))

pub losses-short : (first : ℕ) (gained : List HostCluster) (freed : List ClustersToFreeEntry) (a b : BlockState)
    → ChangesCounters Increment (times_counted range_of_one gained first) a b
    → SomeLeavesRange Decrement (times_counted (λ item. item) freed first) b → block_or_refusal a first freed (cluster_numbers gained) ≡ Err CounterRange
losses-short first gained freed a b up short = refused-is a first freed (cluster_numbers gained) (grind (arith, nat_tests, times-gained, up.counters))

-- the same changes, counted otherwise
pub changes-as : (change : CounterChange) (by other : ℕ → ℕ) (a b : BlockState) → ((i : ℕ) → i < length a.numbers → other i ≡ by i)
    → ChangesBlock change by a b → ChangesBlock change other a b
changes-as change by other a b same changed = grind (arith, nat_tests, same, changed.flag)

-- and with another flag
pub moves-flagged : (change : CounterChange) (by : ℕ → ℕ) (a b c : BlockState) → IsSameButFlag b c → ChangesCounters change by a b → ChangesCounters change by a c
moves-flagged change by a b c back moves = grind (arith, nat_tests)

-- the counters of clusters are those from the first one's to before that of the one after the last
pub among-between : (clusters : ClustersToFreeEntry) (first start end i : ℕ) → nat_lt i start ≡ nat_lt (first + i) clusters.first.0
    → nat_lt i end ≡ nat_lt (first + i) (clusters.first.0 + clusters.count.0) → one_if (is_among clusters (first + i)) ≡ one_if (is_between start end i)
among-between clusters first start end i from to = grind (arith, nat_tests)

-- a counter of clusters that can't be changed
pub clusters-short : (change : CounterChange) (by : ℕ → ℕ) (at : ℕ) (a : BlockState) → at < length a.numbers → by at ≡ 1
    → counter_after a.geometry.refcount_order change (slice_index a.numbers at) ≡ None → SomeLeavesRange change by a
clusters-short Increment by at a below one none = (at, below, grind (arith, nat_tests, one, none))
clusters-short Decrement by at a below one none = (at, below, grind (arith, nat_tests, one, none))

-- one more of a list
pub times-more : {C : Type 0} (clusters : C → ClustersToFreeEntry) (list : List C) (at : ℕ) (item : C) (first index : ℕ) → at < length list → item ≡ get_or list at item
    → times_counted clusters (take (at + 1) list) first index ≡ times_counted clusters (take at list) first index + one_if (is_among (clusters item) (first + index))
times-more clusters list at item first index below is = grind (arith, nat_tests, sum_by_more)

pub times-within : {C : Type 0} (clusters : C → ClustersToFreeEntry) (list : List C) (at : ℕ) (item : C) (first index : ℕ) → at < length list → item ≡ get_or list at item
    → times_counted clusters (take at list) first index + one_if (is_among (clusters item) (first + index)) ≤ times_counted clusters list first index
times-within clusters list at item first index below is = grind (arith, nat_tests, sum_by_more_le)

-- what can't be changed after a part can't be changed at all
pub list-short : (change : CounterChange) (part one total : ℕ → ℕ) (a b : BlockState) → ChangesCounters change part a b
    → ((i : ℕ) → part i + one i ≤ total i) → SomeLeavesRange change one b → SomeLeavesRange change total a
list-short Increment part one total a b moves few short = grind (arith, nat_tests, order-kept, few, short)
list-short Decrement part one total a b moves few short = grind (arith, nat_tests, order-kept, few, short)

-- a range that ended
pub between-end : (start end at i : ℕ) → end ≤ at → (at ≤ end) ⊎ (at ≡ start) → one_if (is_between start end i) ≡ one_if (is_between start at i)
between-end start end at i past within = grind (arith, nat_tests)

-- the numbers of a list, each by its index
pub by-index : (numbers : List ℕ) → map (λ i. slice_index numbers i) (range_with_len 0 (length numbers)) ≡ numbers
by-index numbers =
    grind (arith, nat_tests, length-map-range_with_len, same_number_lists, get_or-map-range_with_len)

-- a block that counted all is the one that the definition gives
pub settled-is : (first : ℕ) (outcome : Outcome) (old new : BlockState) → Settles first outcome old new
    → ((index : ℕ) → index < length old.numbers → cannot_settle old first outcome.freed.items (cluster_numbers outcome.gained.items) index ≡ false)
    → block_or_refusal old first outcome.freed.items (cluster_numbers outcome.gained.items) ≡ Ok new
settled-is first outcome old new settles each =
    let n = length old.numbers in
    let freed = outcome.freed.items in
    let gained = cluster_numbers outcome.gained.items in
    let block = settled_block old first freed gained in
    let short = any-index (cannot_settle old first freed gained) n in
    let numbers : new.numbers ≡ block.numbers = same_number_lists new.numbers block.numbers (grind (arith, settles.entries, length-map-range_with_len))
    (λ k below. grind (arith, nat_tests, settles.entries, settles.counters k, each k, get_or-map-range_with_len)) in
    let some = any-index (λ i. nat_lt 0 (times_gained gained (first + i) + handed_back freed (first + i))) n in
    let flag : new.modified ≡ block.modified = grind (arith, nat_tests, settles.flag, some) in
    grind (arith, nat_tests, short.0, each, numbers, flag, settles.others)

-- a block that the definition gives has no such counter
none-short : (old new : BlockState) (first : ℕ) (freed : List ClustersToFreeEntry) (gained : List ℕ) → block_or_refusal old first freed gained ≡ Ok new
    → (index : ℕ) → index < length old.numbers → cannot_settle old first freed gained index ≡ false
none-short old new first freed gained is index below =
    let short = any-index (cannot_settle old first freed gained) (length old.numbers) in
    grind (arith, is, λ (cannot : cannot_settle old first freed gained index ≡ true). short.1 (index, below, cannot))

-- the block that the definition gives counted all
pub settled-counts : (first : ℕ) (outcome : Outcome) (old new : BlockState) → block_or_refusal old first outcome.freed.items (cluster_numbers outcome.gained.items) ≡ Ok new
    → Settles first outcome old new
settled-counts first outcome old new is =
    let n = length old.numbers in
    let freed = outcome.freed.items in
    let gained = cluster_numbers outcome.gained.items in
    let block = settled_block old first freed gained in
    let some = any-index (λ i. nat_lt 0 (times_gained gained (first + i) + handed_back freed (first + i))) n in
    let same : new ≡ block = grind (arith, nat_tests, is) in
    rw same (record {
      counters = λ index below. grind (arith, nat_tests, none-short old new first freed gained is index below, get_or-map-range_with_len);
      entries = length-map-range_with_len _ 0 n;
      flag = grind (arith, nat_tests, some);
      others = refl;
    })

-- counters that are at least the references are so after changes in balance, and only a gain leaves the range
pub stays-covered : (g : Geometry) (before after : List ℕ) (freed : List ClustersToFreeEntry) (gained : List ℕ) (first : ℕ) (block : BlockState)
    → ((c : ℕ) → references g after c + handed_back freed c ≡ references g before c + times_gained gained c)
    → ((i : ℕ) → i < length block.numbers → references g before (first + i) ≤ slice_index block.numbers i)
    → MatchResult (block_or_refusal block first freed gained)
    (λ settled. (i : ℕ) → i < length settled.numbers → references g after (first + i) ≤ slice_index settled.numbers i)
    (λ fault. (i : ℕ) × (i < length block.numbers) × (greatest_counter block.geometry.refcount_order < slice_index block.numbers i + times_gained gained (first + i)))
stays-covered g before after freed gained first block balance covers =
    let short = any-index (cannot_settle block first freed gained) (length block.numbers) in
    elim (cases_Bool (list_any (cannot_settle block first freed gained) (range_with_len 0 (length block.numbers)))) [
      | inl some ↦ let one = short.0 some in rw some (one.0, one.1, grind (arith, nat_tests, one.2, balance (first + one.0), covers one.0 one.1))
      | inr none ↦ rw none (λ i below. grind (arith, nat_tests, balance (first + i), covers i, length-map-range_with_len, get_or-map-range_with_len))
    ]

-- what holds of an answer that no refusal comes before
pub after-refusal : {A B : Type 0} (P : B → Type 0) (Q : Type 0) (f : A → B) (refusal : Option Fault) (answer : Result A Fault)
    → (refusal ≡ None → MatchResult answer (λ value. P (f value)) (λ fault. Q)) → (refusal ≡ Some CounterRange → ⊥)
    → MatchResult (unless_refused refusal (result_map f answer)) P (λ fault. fault ≡ CounterRange → Q)
after-refusal P Q f None (Ok value) holds other = holds refl
after-refusal P Q f None (Err fault) holds other = λ is. holds refl
after-refusal P Q f (Some fault) answer holds other = λ is. absurd (other (ap Some is))
