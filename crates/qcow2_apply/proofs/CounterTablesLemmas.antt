use Rattle.std.proofs.Common.{◌≡◌, ◌⊎◌, ℕ, ◌+◌, ◌*◌, ◌/◌, ◌%◌, ◌^◌, ◌<◌, List, length, slice_index, Option, Some, None, Result, Ok, Err, Bool, true, false, if◌then◌else◌, ap, refl, ◌∙◌, inl, inr, OnOk, IfErr, div-add-mod', arith}
use Rattle.std.proofs.lemmas.Bool.{cases_Bool, cases_lt}
use Rattle.std.proofs.lemmas.Grind.{same_number_lists}
use Rattle.std.proofs.lemmas.Bool.Decides.{nat_tests}
use Rattle.std.specs.List.{list_any, range_with_len}
use Rattle.std.proofs.lemmas.List.{get_or_past}
use Rattle.std.proofs.lemmas.Nat.{div-mul-add, pow_pos}
use Rattle.qcow2_base.specs.Storage.{Image}
use Rattle.qcow2_base.specs.declared.fault.Fault.{Fault}
use Rattle.qcow2_base.specs.declared.fault.Fault.TheVariants.{CounterRange, ExternalData}
use Rattle.qcow2_base.specs.declared.types.HostCluster.{HostCluster}
use Rattle.qcow2_edits.proofs.SettledLemmas.{any-index, settled-counts}
use Rattle.qcow2_edits.specs.Edits.{cluster_numbers}
use Rattle.qcow2_edits.specs.Settled.{block_or_refusal, cannot_settle, first_counted}
use Rattle.qcow2_edits.specs.declared.edits.Outcome.{Outcome}
use Rattle.qcow2_metadata.specs.Results.{result_map}
use Rattle.qcow2_metadata.specs.Refblock.{BlockState, block_geometry_of, block_layout}
use Rattle.qcow2_check.proofs.CountersLemmas.{place_of_block}
use Rattle.qcow2_check.specs.Counters.{block_of_cluster, blocks_fault, counters_each}
use Rattle.qcow2_metadata.specs.Placed.{place_fault}
use Rattle.qcow2_check.specs.NamedTables.{named_block}
use Rattle.qcow2_apply.specs.CounterTables.{BlockFollows, BlockIsStuck, CounterTablesState, HasCounter, IsBlockOf, IsByBlocks, NamesBlock, counter_of_cluster, block_numbers}
use Rattle.qcow2_apply.specs.Changes.{IsOutcomeOf}
use Rattle.qcow2_apply.specs.declared.changes.Changes.{Changes}

-- the counter of a cluster of a block
pub counter-here : (tables : CounterTablesState) (block : HostCluster) (image : Image) (c : ℕ) → NamesBlock tables (c / counters_each tables.header) block
    → counter_of_cluster tables image c ≡ slice_index (block_numbers tables block image) (c % counters_each tables.header)
counter-here tables block image c names = grind (arith, names)

-- each cluster that has a counter has a block
pub block-of : (tables : CounterTablesState) (c : ℕ) → HasCounter tables c → (block : HostCluster) × NamesBlock tables (c / counters_each tables.header) block
block-of tables c has = by_block (block_of_cluster tables.header tables.reftable c) refl
  where
    by_block : (found : Option HostCluster) → block_of_cluster tables.header tables.reftable c ≡ found → (block : HostCluster) × NamesBlock tables (c / counters_each tables.header) block
    by_block None none = absurd (grind (arith, none, has))
    by_block (Some block) some = (block, some)

-- the counter of a cluster of the block at an index
pub counter-at : (tables : CounterTablesState) (i k : ℕ) (block : HostCluster) (image : Image) → NamesBlock tables i block → k < counters_each tables.header
    → HasCounter tables (i * counters_each tables.header + k)
    × (counter_of_cluster tables image (i * counters_each tables.header + k) ≡ slice_index (block_numbers tables block image) k)
counter-at tables i k block image names below =
    let n = counters_each tables.header in
    let here : (i * n + k) / n ≡ i = div-mul-add i n k below in
    let whole : (i * n + k) / n * n + (i * n + k) % n ≡ i * n + k = div-add-mod' (i * n + k) n in
    let rest : (i * n + k) % n ≡ k = omega (arith, rw here at whole) in
    let found : NamesBlock tables ((i * n + k) / n) block = ap (λ j. named_block tables.header.v2.cluster_bits (slice_index tables.reftable j)) here ∙ names in
    (grind (arith, found), rw (counter-here tables block image (i * n + k) found, rest) refl)

-- counters whose clusters neither gained nor lost a reference follow as they are
pub idle-counters : (tables : CounterTablesState) (changes : Changes) (i : ℕ) (numbers : List ℕ) → IsByBlocks tables changes → IsOutcomeOf changes i None
    → length numbers ≡ counters_each tables.header → BlockFollows tables changes i numbers numbers
idle-counters tables changes i numbers by none full = record {
  count = refl;
  each = λ k below.
      let n = counters_each tables.header in
      let here : (i * n + k) / 2 ^ changes.rb_bits ≡ i = rw by (div-mul-add i n k (omega (arith, full, below))) in
      let nothing = none (i * n + k) here in
      grind (arith, nothing);
}

-- past the refcount table's end no block is named
pub names-below : (tables : CounterTablesState) (i : ℕ) (block : HostCluster) → NamesBlock tables i block → i < length tables.reftable
names-below tables i block names = elim (cases_lt i (length tables.reftable)) [
  | inl below ↦ below
  | inr past ↦ absurd (let none = get_or_past tables.reftable i 0 past in grind (arith, names, none))
]

-- a cluster of the block at an index
of-block : (tables : CounterTablesState) (changes : Changes) (i k : ℕ) → IsByBlocks tables changes → k < counters_each tables.header
    → (i * counters_each tables.header + k) / 2 ^ changes.rb_bits ≡ i
of-block tables changes i k by below = rw by (div-mul-add i (counters_each tables.header) k below)

-- a block that was settled followed the changes
pub follows : (tables : CounterTablesState) (changes : Changes) (i : ℕ) (outcome : Outcome) (old new : BlockState)
    → IsByBlocks tables changes → IsOutcomeOf changes i (Some outcome) → IsBlockOf tables old
    → block_or_refusal old (first_counted old i) outcome.freed.items (cluster_numbers outcome.gained.items) ≡ Ok new
    → BlockFollows tables changes i old.numbers new.numbers
follows tables changes i outcome old new by is block settled =
    let settles = settled-counts (first_counted old i) outcome old new settled in
    record {
      count = settles.entries;
      each = λ k below.
          let counts = is (i * counters_each tables.header + k) (of-block tables changes i k by (omega (arith, below, block.count))) in
          grind (arith, counts, settles.counters k below, block.geometry);
    }

-- one that wasn't couldn't
pub stuck : (tables : CounterTablesState) (changes : Changes) (i : ℕ) (outcome : Outcome) (old : BlockState) (fault : Fault)
    → IsByBlocks tables changes → IsOutcomeOf changes i (Some outcome) → IsBlockOf tables old
    → block_or_refusal old (first_counted old i) outcome.freed.items (cluster_numbers outcome.gained.items) ≡ Err fault
    → (fault ≡ CounterRange) × BlockIsStuck tables changes i old.numbers
stuck tables changes i outcome old fault by is block refused =
    let first = first_counted old i in
    let freed = outcome.freed.items in
    let gains = cluster_numbers outcome.gained.items in
    let short = any-index (cannot_settle old first freed gains) (length old.numbers) in
    elim (cases_Bool (list_any (cannot_settle old first freed gains) (range_with_len 0 (length old.numbers)))) [
      | inl some ↦
          let one = short.0 some in
          let counts = is (i * counters_each tables.header + one.0) (of-block tables changes i one.0 by (omega (arith, one.1, block.count))) in
          (grind (arith, refused, some), (one.0, one.1, grind (arith, nat_tests, one.2, counts, block.geometry)))
      | inr none ↦ absurd (grind (arith, refused, none))
    ]

-- one that doesn't count as modified has the same counters
pub flags : (first : ℕ) (outcome : Outcome) (old new : BlockState)
    → block_or_refusal old first outcome.freed.items (cluster_numbers outcome.gained.items) ≡ Ok new
    → (new ≡ old) ⊎ (new.modified ≡ true)
flags first outcome old new settled =
    let settles = settled-counts first outcome old new settled in
    elim (cases_Bool new.modified) [
      | inl is ↦ inr is
      | inr not ↦
          let numbers : new.numbers ≡ old.numbers = same_number_lists new.numbers old.numbers settles.entries (λ k below.
          grind (arith, nat_tests, settles.counters k (omega (arith, below, settles.entries)), settles.flag.1, not)) in
          inl (grind (arith, nat_tests, numbers, settles.others, settles.flag.1, not))
    ]

-- what came of a call whose answer is that of a definition, without an external data file
pub by-answer : {P : Type 0} {Q : Fault → Type 0} (external : Bool) (answer : Result (Unit {0}) Fault) (new : BlockState) (meaning : Result BlockState Fault)
    → external ≡ false → result_map (λ done. new) answer ≡ (if external then Err ExternalData else meaning)
    → (meaning ≡ Ok new → P) → ((fault : Fault) → meaning ≡ Err fault → Q fault) → OnOk answer P × IfErr answer Q
by-answer external (Ok done) new meaning inside is ok err = (ok (grind (arith, inside, is)), tt)
by-answer external (Err fault) new meaning inside is ok err = (tt, err fault (grind (arith, inside, is)))

-- what it left of a block, which stays after a refusal
pub modified-by : (external : Bool) (answer : Result (Unit {0}) Fault) (old new : BlockState) (meaning : Result BlockState Fault)
    → external ≡ false → result_map (λ done. new) answer ≡ (if external then Err ExternalData else meaning)
    → IfErr answer (λ fault. new ≡ old) → (meaning ≡ Ok new → (new ≡ old) ⊎ (new.modified ≡ true)) → (new ≡ old) ⊎ (new.modified ≡ true)
modified-by external (Ok done) old new meaning inside is same flags = flags (grind (arith, inside, is))
modified-by external (Err fault) old new meaning inside is same flags = inl same

-- the place of a block that the refcount table names
pub place-at : (tables : CounterTablesState) (i : ℕ) (block : HostCluster) → blocks_fault tables.header tables.reftable ≡ None → NamesBlock tables i block
    → place_fault (block_layout (block_geometry_of tables.header)) block ≡ None
place-at tables i block placed names = let n = counters_each tables.header in
    place_of_block tables.header tables.reftable (i * n + 0) block placed
    (ap (λ j. named_block tables.header.v2.cluster_bits (slice_index tables.reftable j)) (div-mul-add i n 0 (pow_pos _)) ∙ names)
