use Rattle.std.proofs.Common.{◌≡◌, ℕ, ◌+◌, ◌*◌, ◌<◌, ◌≤◌, ◌∙◌, ap, sym, subst, None, Some, List, [], ◌∷◌, ◌++◌, take, length, slice_index, option_to_list, Option, Result, Ok, Err, refl, arith}
use Rattle.std.proofs.lemmas.List.{length-map, length-take-le, map-append, take_all}
use Rattle.std.proofs.lemmas.List.Folds.{fold-map}
use Rattle.std.proofs.lemmas.Option.{none-some}
use Rattle.std.specs.List.{sum_by}
use Rattle.qcow2_base.specs.Storage.{Image, OnImage, OnlyReads, StorageState}
use Rattle.qcow2_base.specs.declared.fault.Fault.{Fault}
use Rattle.qcow2_base.specs.declared.types.HostCluster.{HostCluster}
use Rattle.qcow2_metadata.specs.Entries.{offset_field}
use Rattle.qcow2_metadata.specs.Entries.L2Entry.{is_compressed}
use Rattle.qcow2_metadata.specs.Header.{Geometry}
use Rattle.qcow2_metadata.specs.Placed.{numbers_at}
use Rattle.qcow2_metadata.specs.Results.{Reads, result_map}
use Rattle.qcow2_metadata.specs.Table.{IsEntryFault, l2_layout}
use Rattle.qcow2_metadata.specs.Table.L2Guards.{one_if}
use Rattle.qcow2_check.proofs.UsesLemmas.{all_load_more, all_load_until, loaded, take_more}
use Rattle.qcow2_check.proofs.RepeatedLemmas.{loads_again}
use Rattle.qcow2_check.proofs.RepeatsLemmas.{worth_push}
use Rattle.qcow2_check.specs.NamedTables.{cluster_unless_zero, named_cluster}
use Rattle.qcow2_check.specs.Repeats.{AreTimesOf, table_names, times_at, worth_from}
use Rattle.qcow2_summary.specs.EntryCounts.{breaks, counted_tables, entry_counts, is_mapped, l1_entry_counts, named_in_order, no_entries, table_counts}
use Rattle.qcow2_check.specs.Uses.{all_load, l1_entry_loads}
use Rattle.qcow2_summary.specs.declared.entry_counts.EntryCounts.{EntryCounts}

-- how many of some entries are fragmented, after one whose cluster this is
abbrev pub fragmented_after : Geometry → Option HostCluster → List ℕ → ℕ
fragmented_after g last numbers =
    breaks (option_to_list last ++ named_in_order g numbers) + sum_by (λ v. one_if (is_compressed v)) numbers

-- the counts of some entries, the fragmented ones after one whose cluster this is
abbrev pub counts_after : Geometry → Option HostCluster → List ℕ → EntryCounts
counts_after g last numbers = record {
  allocated = sum_by (λ v. one_if (is_mapped g v)) numbers;
  compressed = sum_by (λ v. one_if (is_compressed v)) numbers;
  fragmented = fragmented_after g last numbers;
}

-- counts and others make these
abbrev pub AddUp : EntryCounts → EntryCounts → EntryCounts → Type 0
AddUp one other both = (one.allocated + other.allocated ≡ both.allocated)
    × (one.compressed + other.compressed ≡ both.compressed) × (one.fragmented + other.fragmented ≡ both.fragmented)

-- the counts of the table at an offset
abbrev counts_at : Geometry → Image → ℕ → EntryCounts
counts_at g image offset = elim (cluster_unless_zero g.cluster_bits offset) [
  | None ↦ no_entries
  | Some cluster ↦ table_counts g (numbers_at (l2_layout g) cluster image)
]

-- those of the tables that L1 entries name, each as often as it counts
abbrev pub repeated_counts : Geometry → Image → List ℕ → List ℕ → EntryCounts
repeated_counts g image times l1 = record {
  allocated = worth_from (times_at times) (λ offset. (counts_at g image offset).allocated) 0 (table_names l1);
  compressed = worth_from (times_at times) (λ offset. (counts_at g image offset).compressed) 0 (table_names l1);
  fragmented = worth_from (times_at times) (λ offset. (counts_at g image offset).fragmented) 0 (table_names l1);
}

-- each is counted at each entry that names it, or as often at the first
pub same_counts : (g : Geometry) (image : Image) (times l1 : List ℕ) → AreTimesOf (table_names l1) times → repeated_counts g image times l1 ≡ entry_counts g image l1
same_counts g image times l1 are = rw (
  are.worth (λ offset. (counts_at g image offset).allocated) ∙ fold-map (λ a x. a + (counts_at g image x).allocated) offset_field 0 l1,
  are.worth (λ offset. (counts_at g image offset).compressed) ∙ fold-map (λ a x. a + (counts_at g image x).compressed) offset_field 0 l1,
  are.worth (λ offset. (counts_at g image offset).fragmented) ∙ fold-map (λ a x. a + (counts_at g image x).fragmented) offset_field 0 l1,
) refl

-- the L2 tables that the first L1 entries name can be loaded, and are counted
pub record AreCounted (g : Geometry) (l1 times : List ℕ) (index : ℕ) (old new : StorageState) (counts : EntryCounts) : Type 0 where
  pub loads : OnImage old (λ bytes. all_load g (take index l1) bytes ≡ loaded)
  pub counted : OnImage old (λ bytes. counts ≡ repeated_counts g bytes times (take index l1))
  pub storage : OnlyReads loaded old new

-- the counts of one L1 entry more
counts-more : (g : Geometry) (image : Image) (times vs : List ℕ) (v : ℕ) → let before = repeated_counts g image times vs in
    let here = l1_entry_counts g image v in let n = times_at times (length vs) in repeated_counts g image times (vs ++ v ∷ []) ≡ record {
      allocated = before.allocated + n * here.allocated;
      compressed = before.compressed + n * here.compressed;
      fragmented = before.fragmented + n * here.fragmented;
    }
counts-more g image times vs v = rw (each (λ counts. counts.allocated), each (λ counts. counts.compressed), each (λ counts. counts.fragmented)) refl
  where
    each : (number : EntryCounts → ℕ) → worth_from (times_at times) (λ offset. number (counts_at g image offset)) 0 (table_names (vs ++ v ∷ []))
        ≡ worth_from (times_at times) (λ offset. number (counts_at g image offset)) 0 (table_names vs)
        + times_at times (length vs) * number (l1_entry_counts g image v)
    each number =
        let worth : ℕ → ℕ = λ offset. number (counts_at g image offset) in
        let names = table_names vs in
        let place : 0 + length names ≡ length vs = omega (arith, length-map vs offset_field) in
        ap (λ ns. worth_from (times_at times) worth 0 ns) (map-append offset_field vs (v ∷ []))
        ∙ worth_push (times_at times) worth 0 names (offset_field v)
        ∙ ap (λ n. worth_from (times_at times) worth 0 names + times_at times n * worth (offset_field v)) place

-- more counts
pub add-more : (one here rest all total next : EntryCounts) → AddUp one all total → AddUp here rest all → AddUp one here next → AddUp next rest total
add-more one here rest all total next is more both =
    (omega (arith, is.0, more.0, both.0), omega (arith, is.1, more.1, both.1), omega (arith, is.2, more.2, both.2))

-- what is known of an L1 entry that was counted
loads-here : (g : Geometry) (image : Image) (v : ℕ) (here : EntryCounts) → result_map (λ _. l1_entry_counts g image v) (l1_entry_loads g image v) ≡ Ok here
    → (l1_entry_loads g image v ≡ loaded) × (here ≡ l1_entry_counts g image v)
loads-here g image v here is = by_answer (l1_entry_loads g image v) refl
  where
    by_answer : (answer : Result (Unit {0}) Fault) → l1_entry_loads g image v ≡ answer → (l1_entry_loads g image v ≡ loaded) × (here ≡ l1_entry_counts g image v)
    by_answer (Ok done) loads = (loads, grind (arith, rw loads at is))
    by_answer (Err fault) refused = absurd (grind (arith, rw refused at is))

-- one L1 entry more is counted
pub counted-more : (g : Geometry) (l1 times : List ℕ) (index : ℕ) (old mid new : StorageState) (a here b : EntryCounts) (answer : Result EntryCounts Fault)
    → index < length l1 → answer ≡ Ok here
    → b ≡ (let n = times_at times index in record {
      allocated = a.allocated + n * here.allocated;
      compressed = a.compressed + n * here.compressed;
      fragmented = a.fragmented + n * here.fragmented;
    })
    → AreCounted g l1 times index old mid a
    → Reads (λ counts. counts) answer (λ bytes. let v = slice_index l1 index in result_map (λ _. l1_entry_counts g bytes v) (l1_entry_loads g bytes v)) IsEntryFault mid new
    → AreCounted g l1 times (index + 1) old new b
counted-more g l1 times index old mid new a here b answer below is add so_far reads =
    let v = slice_index l1 index in
    let next : take (index + 1) l1 ≡ take index l1 ++ v ∷ [] = take_more l1 index 0 below in
    let len : length (take index l1) ≡ index = length-take-le index l1 (omega (arith, below)) in
    record {
      loads = λ told.
          let one = loads-here g old.byte_at v here (grind (arith, is, so_far.storage, reads.exact, told)) in
          rw (next, all_load_more g old.byte_at (take index l1) v, so_far.loads told) one.0;
      counted = λ told.
          let one = loads-here g old.byte_at v here (grind (arith, is, so_far.storage, reads.exact, told)) in
          let more = counts-more g old.byte_at times (take index l1) v in
          let sums : EntryCounts → EntryCounts → ℕ → EntryCounts = λ before one n. record {
            allocated = before.allocated + n * one.allocated;
            compressed = before.compressed + n * one.compressed;
            fragmented = before.fragmented + n * one.fragmented;
          } in
          add ∙ ap (λ before. sums before here (times_at times index)) (so_far.counted told)
          ∙ ap (λ one. sums (repeated_counts g old.byte_at times (take index l1)) one (times_at times index)) one.1
          ∙ ap (λ n. sums (repeated_counts g old.byte_at times (take index l1)) (l1_entry_counts g old.byte_at v) (times_at times n)) (sym len)
          ∙ sym more ∙ ap (λ vs. repeated_counts g old.byte_at times vs) (sym next);
      storage = grind (arith, is, so_far.storage, reads.storage);
    }

-- one that counts before, or names no table, adds nothing
pub counted-before : (g : Geometry) (l1 times : List ℕ) (index : ℕ) (old mid : StorageState) (a : EntryCounts)
    → index < length l1 → AreTimesOf (table_names l1) times → times_at times index ≡ 0 → AreCounted g l1 times index old mid a
    → AreCounted g l1 times (index + 1) old mid a
counted-before g l1 times index old mid a below are none so_far =
    let v = slice_index l1 index in
    let next : take (index + 1) l1 ≡ take index l1 ++ v ∷ [] = take_more l1 index 0 below in
    let len : length (take index l1) ≡ index = length-take-le index l1 (omega (arith, below)) in
    record {
      loads = λ told. loads_again g old.byte_at l1 times index below are none (so_far.loads told);
      counted = λ told.
          let more = counts-more g old.byte_at times (take index l1) v in
          let zero : times_at times (length (take index l1)) ≡ 0 = ap (λ n. times_at times n) len ∙ none in
          so_far.counted told ∙ nothing (repeated_counts g old.byte_at times (take index l1)) (l1_entry_counts g old.byte_at v) _ zero
          ∙ sym more ∙ ap (λ vs. repeated_counts g old.byte_at times vs) (sym next);
      storage = so_far.storage;
    }
  where
    nothing : (before one : EntryCounts) (n : ℕ) → n ≡ 0 → before ≡ record {
      allocated = before.allocated + n * one.allocated;
      compressed = before.compressed + n * one.compressed;
      fragmented = before.fragmented + n * one.fragmented;
    }
    nothing before one n is = rw is (grind arith)

refused-here : (g : Geometry) (l1 : List ℕ) (index : ℕ) (image : Image) (fault : Fault) → index < length l1 → all_load g (take index l1) image ≡ loaded
    → (let v = slice_index l1 index in result_map (λ _. l1_entry_counts g image v) (l1_entry_loads g image v) ≡ Err fault)
    → counted_tables g l1 image ≡ Err fault
refused-here g l1 index image fault below loads is = by_answer (l1_entry_loads g image (slice_index l1 index)) refl
  where
    by_answer : (answer : Result (Unit {0}) Fault) → l1_entry_loads g image (slice_index l1 index) ≡ answer → counted_tables g l1 image ≡ Err fault
    by_answer (Ok done) good = absurd (grind (arith, rw good at is))
    by_answer (Err other) refused =
        let same : other ≡ fault = grind (arith, rw refused at is) in
        rw (all_load_until g image l1 index other below loads refused, same) refl

-- or it can't be loaded, and so all can't
pub refused-at : (g : Geometry) (l1 times : List ℕ) (index : ℕ) (old mid new : StorageState) (a : EntryCounts) (answer : Result EntryCounts Fault) (fault : Fault)
    → index < length l1 → answer ≡ Err fault → AreCounted g l1 times index old mid a
    → Reads (λ counts. counts) answer (λ bytes. let v = slice_index l1 index in result_map (λ _. l1_entry_counts g bytes v) (l1_entry_loads g bytes v)) IsEntryFault mid new
    → Reads (λ counts. counts) answer (counted_tables g l1) IsEntryFault old new
refused-at g l1 times index old mid new a answer fault below is so_far reads = record {
  exact = λ told. grind (arith, is, so_far.storage, reads.exact, told, refused-here g l1 index old.byte_at fault below (so_far.loads told));
  faults = reads.faults;
  storage = grind (arith, is, so_far.storage, reads.storage);
}

-- all are counted
pub all-counted : (g : Geometry) (l1 times : List ℕ) (index : ℕ) (old new : StorageState) (counts : EntryCounts) → length l1 ≤ index
    → AreTimesOf (table_names l1) times → AreCounted g l1 times index old new counts
    → Reads (λ counts. counts) (Ok counts) (counted_tables g l1) IsEntryFault old new
all-counted g l1 times index old new counts past are all = record {
  exact = λ told.
      let loads : all_load g l1 old.byte_at ≡ loaded = subst (λ vs. all_load g vs old.byte_at ≡ loaded) (take_all index l1 past) (all.loads told) in
      let is : counts ≡ entry_counts g old.byte_at l1 =
      all.counted told ∙ ap (λ vs. repeated_counts g old.byte_at times vs) (take_all index l1 past) ∙ same_counts g old.byte_at times l1 are in
      grind (arith, loads, is);
  faults = tt;
  storage = grind (arith, all.storage);
}
