use Rattle.std.proofs.Common.{◌≡◌, ◌⊎◌, ℕ, suc, true, ◌+◌, ◌-◌, ◌<◌, List, [], ◌∷◌, slice_index, IsSome, Option, None, Some, Ok, Err, option_map, ap, refl, subst, sym, ◌∙◌, inl, inr, arith}
use Rattle.std.proofs.lemmas.Bool.{cases_Bool, cases_lt}
use Rattle.std.proofs.lemmas.List.Sums.{sum_by-append}
use Rattle.std.specs.Option.{option_or}
use Rattle.std.specs.List.{All, range_with_len, sum_by}
use Rattle.qcow2_base.specs.Storage.{Image, StorageState}
use Rattle.qcow2_base.specs.declared.types.HostCluster.{HostCluster}
use Rattle.qcow2_edits.specs.Edits.{cluster_numbers}
use Rattle.qcow2_edits.specs.declared.edits.Edit.{Edit}
use Rattle.qcow2_edits.specs.declared.edits.Outcome.{Outcome}
use Rattle.qcow2_metadata.specs.Entries.{is_among}
use Rattle.qcow2_metadata.specs.Header.{HeaderRecord, geometry_of}
use Rattle.qcow2_metadata.specs.Placed.{numbers_at}
use Rattle.qcow2_metadata.specs.Table.L2Guards.{RunEnd, handed_back, times_gained}
use Rattle.qcow2_metadata.specs.declared.entries.ClustersToFreeEntry.{ClustersToFreeEntry}
use Rattle.qcow2_check.specs.NamedTables.{named_cluster}
use Rattle.qcow2_apply.proofs.GuestEditsLemmas.{range-split}
use Rattle.qcow2_check.specs.Uses.{ImageTables, image_tables}
use Rattle.qcow2_apply.specs.Changes.{HasNone}
use Rattle.qcow2_apply.specs.GuestEdits.{edits_in}
use Rattle.qcow2_apply.specs.PlannedChanges.{AddsOutcome, HaveCounters}
use Rattle.qcow2_apply.specs.PlannedTables.{AddsTable, AreSources, IsPlanned, gained_at, lost_at, mapping_fault_in, planning_tables, run_at, run_gains, run_losses, table_refusal}
use Rattle.qcow2_apply.specs.Tables.{ComesToOutcome, run_in}
use Rattle.qcow2_apply.specs.declared.guest_edits.GuestEdit.{GuestEdit}
use Rattle.qcow2_apply.specs.declared.planned_changes.PlannedChanges.{PlannedChanges}
use Rattle.qcow2_apply.specs.declared.planned_tables.Sources.{Sources}
use Rattle.qcow2_base.specs.declared.fault.Fault.{Fault}
use Rattle.qcow2_base.specs.declared.fault.Fault.TheVariants.{NoMemory, Storage}
use Rattle.qcow2_metadata.proofs.TableLemmas.{first_fault-append, first_fault-join}
use Rattle.qcow2_metadata.specs.Results.{unless_refused}
use Rattle.qcow2_metadata.specs.Table.{first_fault, l2_layout}
use Rattle.qcow2_check.specs.Counters.{CountersState, IsSameButBlock, block_of_cluster}

-- a reader of counters that keeps another block reads the same tables
pub same-tables : (sources : Sources) (image : StorageState) (old new : CountersState) → IsSameButBlock image old new
    → planning_tables sources new ≡ planning_tables sources old
same-tables sources image old new same =
    ap (λ (counters : CountersState). image_tables sources.header.now sources.l1_table.now.numbers counters.reftable) same.same

pub same-sources : (sources : Sources) (image : StorageState) (old new : CountersState) → IsSameButBlock image old new → AreSources sources old
    → AreSources sources new
same-sources sources image old new same of = record {
  tables = record {
    reader = ap (λ (counters : CountersState). counters.header) same.same ∙ of.tables.reader;
    geometry = of.tables.geometry;
    count = of.tables.count;
  };
  no_data_file = of.no_data_file;
  fit = of.fit;
  by_table = of.by_table;
  mapped = of.mapped;
}

pub same-mapping : (sources : Sources) (image : StorageState) (old new : CountersState) (before after : Image) (index at : ℕ) → IsSameButBlock image old new
    → after ≡ before → mapping_fault_in (planning_tables sources new) sources.edits.now after index at
    ≡ mapping_fault_in (planning_tables sources old) sources.edits.now before index at
same-mapping sources image old new before after index at same bytes =
    ap (λ tables. mapping_fault_in tables sources.edits.now after index at) (same-tables sources image old new same)
    ∙ ap (λ there. mapping_fault_in (planning_tables sources old) sources.edits.now there index at) bytes

pub same-refusal : (sources : Sources) (image : StorageState) (old new : CountersState) (before after : Image) (index : ℕ) → IsSameButBlock image old new
    → after ≡ before → table_refusal (planning_tables sources new) sources.edits.now after index
    ≡ table_refusal (planning_tables sources old) sources.edits.now before index
same-refusal sources image old new before after index same bytes =
    ap (λ tables. table_refusal tables sources.edits.now after index) (same-tables sources image old new same)
    ∙ ap (λ there. table_refusal (planning_tables sources old) sources.edits.now there index) bytes

pub same-adds : (sources : Sources) (image : StorageState) (old new : CountersState) (before after : Image) (index : ℕ) (a b : PlannedChanges)
    → IsSameButBlock image old new → after ≡ before → AddsTable (planning_tables sources new) sources.edits.now after index a b
    → AddsTable (planning_tables sources old) sources.edits.now before index a b
same-adds sources image old new before after index a b same bytes adds =
    subst (λ there. AddsTable (planning_tables sources old) sources.edits.now there index a b) bytes
    (subst (λ tables. AddsTable tables sources.edits.now after index a b) (same-tables sources image old new same) adds)

pub unless-none : (fault : Option Fault) → unless_refused fault (Ok (tt {0})) ≡ Ok tt → fault ≡ None
unless-none None is = refl
unless-none (Some fault) is = absurd (grind (arith, is))

pub unless-some : (found : Option Fault) (fault : Fault) → unless_refused found (Ok (tt {0})) ≡ Err fault → found ≡ Some fault
unless-some None fault is = absurd (grind (arith, is))
unless-some (Some found) fault is = grind (arith, is)

-- where nothing is refused before a number, and it isn't, nothing is before the next
pub none-refused-next : (refusal : ℕ → Option Fault) (n : ℕ) (found : Option Fault) → first_fault refusal (range_with_len 0 n) ≡ None
    → found ≡ refusal n → unless_refused found (Ok (tt {0})) ≡ Ok tt → first_fault refusal (range_with_len 0 (n + 1)) ≡ None
none-refused-next refusal n found none is passes = rw (range-split n 1)
    (first_fault-append refusal (range_with_len 0 n) (range_with_len n 1) none ∙ rw (sym is ∙ unless-none found passes) refl)

first-here : (refusal : ℕ → Option Fault) (n end : ℕ) (fault : Fault) → n < end → first_fault refusal (range_with_len 0 n) ≡ None
    → refusal n ≡ Some fault → first_fault refusal (range_with_len 0 end) ≡ Some fault
first-here refusal n end fault below none here = let more = end - n - 1 in
    let whole : n + suc more ≡ end = omega (arith, below) in
    subst (λ e. first_fault refusal (range_with_len 0 e) ≡ Some fault) whole
    (rw (range-split n (suc more)) (first_fault-append refusal (range_with_len 0 n) (range_with_len n (suc more)) none ∙ rw here refl))

-- the first that is refused is the refusal of all
pub first-refused : (refusal : ℕ → Option Fault) (n end : ℕ) (found : Option Fault) (fault : Fault) → n < end
    → first_fault refusal (range_with_len 0 n) ≡ None → found ≡ refusal n
    → (fault ≡ Storage) ⊎ (fault ≡ NoMemory) ⊎ (unless_refused found (Ok (tt {0})) ≡ Err fault)
    → (fault ≡ Storage) ⊎ (fault ≡ NoMemory) ⊎ (unless_refused (first_fault refusal (range_with_len 0 end)) (Ok (tt {0})) ≡ Err fault)
first-refused refusal n end found fault below none is (inl failed) = inl failed
first-refused refusal n end found fault below none is (inr (inl memory)) = inr (inl memory)
first-refused refusal n end found fault below none is (inr (inr refused)) =
    inr (inr (rw (first-here refusal n end fault below none (sym is ∙ unless-some found fault refused)) refl))

-- where none is refused, nothing is
pub none-refused-all : (refusal : ℕ → Option Fault) (n end : ℕ) → n ≡ end → first_fault refusal (range_with_len 0 n) ≡ None
    → unless_refused (first_fault refusal (range_with_len 0 end)) (Ok (tt {0})) ≡ Ok tt
none-refused-all refusal n end all none = rw (← all, none) refl

-- what edits leave of a table, by the cluster that the L1 entry names
pub run-at : (tables : ImageTables) (edits : List GuestEdit) (image : Image) (index : ℕ) (found : Option HostCluster)
    → named_cluster tables.header.v2.cluster_bits (slice_index tables.l1 index) ≡ found
    → run_at tables edits image index ≡ option_map (λ table. run_in tables.header (edits_in tables.header.v2.cluster_bits index edits)
    (numbers_at (l2_layout (geometry_of tables.header)) table image)) found
run-at tables edits image index found is = ap (option_map (λ table. run_in tables.header (edits_in tables.header.v2.cluster_bits index edits)
    (numbers_at (l2_layout (geometry_of tables.header)) table image))) is

-- what edits do of a table that isn't there, and of one that they have no clusters of
pub none-there : (tables : ImageTables) (edits : List GuestEdit) (image : Image) (index c : ℕ)
    → named_cluster tables.header.v2.cluster_bits (slice_index tables.l1 index) ≡ None
    → (gained_at tables edits image c index ≡ 0) × (lost_at tables edits image c index ≡ 0)
none-there tables edits image index c missing =
    let run = run-at tables edits image index None missing in (ap (λ end. run_gains end c) run, ap (λ end. run_losses end c) run)

pub none-at : (tables : ImageTables) (edits : List GuestEdit) (image : Image) (index : ℕ)
    → (named_cluster tables.header.v2.cluster_bits (slice_index tables.l1 index) ≡ None) ⊎ (edits_in tables.header.v2.cluster_bits index edits ≡ [])
    → (c : ℕ) → (gained_at tables edits image c index ≡ 0) × (lost_at tables edits image c index ≡ 0)
none-at tables edits image index (inl missing) c = none-there tables edits image index c missing
none-at tables edits image index (inr none) c = by_table (named_cluster tables.header.v2.cluster_bits (slice_index tables.l1 index)) refl
  where
    by_table : (found : Option HostCluster) → named_cluster tables.header.v2.cluster_bits (slice_index tables.l1 index) ≡ found
        → (gained_at tables edits image c index ≡ 0) × (lost_at tables edits image c index ≡ 0)
    by_table None is = none-there tables edits image index c is
    by_table (Some table) is =
        let run = run-at tables edits image index (Some table) is in
        let numbers = numbers_at (l2_layout (geometry_of tables.header)) table image in (
          ap (λ end. run_gains end c) run ∙ ap (λ list. times_gained (run_in tables.header list numbers).gained c) none,
          ap (λ end. run_losses end c) run ∙ ap (λ list. handed_back (run_in tables.header list numbers).freed c) none,
        )

pub adds-none : (tables : ImageTables) (edits : List GuestEdit) (image : Image) (index : ℕ) (planned : PlannedChanges)
    → (named_cluster tables.header.v2.cluster_bits (slice_index tables.l1 index) ≡ None) ⊎ (edits_in tables.header.v2.cluster_bits index edits ≡ [])
    → AddsTable tables edits image index planned planned
adds-none tables edits image index planned nothing = record {
  counted = λ is. is;
  gains = λ is. record { bits = refl; gained_is = λ c. grind (arith, (none c).0); lost_is = λ c. grind arith };
  losses = λ is. record { bits = refl; gained_is = λ c. grind arith; lost_is = λ c. grind (arith, (none c).1) };
  counters = λ is c some. absurd (omega (arith, some, (none c).1));
  uncounted = λ is. inl is;
}
  where
    none : (c : ℕ) → (gained_at tables edits image c index ≡ 0) × (lost_at tables edits image c index ≡ 0)
    none = none-at tables edits image index nothing

-- a cluster that is handed back is one of a list of which each has a counter
counted-in : (header : HeaderRecord) (reftable : List ℕ) (list : List ClustersToFreeEntry) (c : ℕ) → All (HaveCounters header reftable) list
    → 0 < handed_back list c → IsSome (block_of_cluster header reftable c)
counted-in header reftable [] c all some = absurd (omega (arith, some))
counted-in header reftable (clusters ∷ list) c all some = elim (cases_Bool (is_among clusters c)) [
  | inl among ↦ (all 0 clusters (omega arith)).each c among
  | inr other ↦ counted-in header reftable list c (λ k d below. all (suc k) d (omega (arith, below))) (grind (arith, some, other))
]

-- what edits of a table do was added by their outcome
pub adds-run : (tables : ImageTables) (edits : List GuestEdit) (image : Image) (index : ℕ) (table : HostCluster) (outcome : Outcome) (old new : PlannedChanges)
    → named_cluster tables.header.v2.cluster_bits (slice_index tables.l1 index) ≡ Some table
    → (let run = run_in tables.header (edits_in tables.header.v2.cluster_bits index edits) (numbers_at (l2_layout (geometry_of tables.header)) table image) in
    ((c : ℕ) → handed_back outcome.freed.items c ≡ handed_back run.freed c) × (cluster_numbers outcome.gained.items ≡ run.gained))
    → AddsOutcome tables.header tables.reftable outcome old new → AddsTable tables edits image index old new
adds-run tables edits image index table outcome old new named is added = record {
  counted = added.counted;
  gains = λ counted. let more = added.gains counted in record {
    bits = more.bits;
    gained_is = λ c. more.gained_is c ∙ rw (gained c) refl;
    lost_is = more.lost_is;
  };
  losses = λ counted. let more = added.losses counted in record {
    bits = more.bits;
    gained_is = more.gained_is;
    lost_is = λ c. more.lost_is c ∙ rw (lost c) refl;
  };
  counters = λ counted c some. counted-in tables.header tables.reftable outcome.freed.items c (added.counters counted) (rw (lost c) at some);
  uncounted = λ uncounted. elim (added.uncounted uncounted) [
    | inl before ↦ inl before
    | inr here ↦ inr (here.0, rw (lost here.0) here.1, here.2)
  ];
}
  where
    gained : (c : ℕ) → gained_at tables edits image c index ≡ times_gained (cluster_numbers outcome.gained.items) c
    gained c = ap (λ end. run_gains end c) (run-at tables edits image index (Some table) named) ∙ ap (λ list. times_gained list c) (sym is.1)

    lost : (c : ℕ) → lost_at tables edits image c index ≡ handed_back outcome.freed.items c
    lost c = ap (λ end. run_losses end c) (run-at tables edits image index (Some table) named) ∙ sym (is.0 c)

-- what is summed over numbers from 0 on goes on by the next
sum-next : (f : ℕ → ℕ) (n : ℕ) → sum_by f (range_with_len 0 (n + 1)) ≡ sum_by f (range_with_len 0 n) + f n
sum-next f n = rw (range-split n 1, sum_by-append f (range_with_len 0 n) (range_with_len n 1)) (omega arith)

-- nothing is planned of no tables
pub planned-none : (tables : ImageTables) (edits : List GuestEdit) (image : Image) (planned : PlannedChanges)
    → HasNone planned.gains → HasNone planned.losses → planned.are_counted ≡ true → IsPlanned tables edits image 0 planned
planned-none tables edits image planned gains losses counted = record {
  counted = λ is. record { gained_is = λ c. (gains c).0; lost_is = λ c. (losses c).1 };
  counters = λ is c some. absurd (omega (arith, some));
  uncounted = λ is. absurd (grind (arith, is, counted));
}

-- what edits do of the tables before an index and of the one there is what they do of those before the next
pub planned-next : (tables : ImageTables) (edits : List GuestEdit) (image : Image) (index : ℕ) (old new : PlannedChanges)
    → IsPlanned tables edits image index old → AddsTable tables edits image index old new → IsPlanned tables edits image (index + 1) new
planned-next tables edits image index old new before adds = record {
  counted = λ is. let sums = before.counted (adds.counted is) in record {
    gained_is = λ c. grind (arith, (adds.gains is).gained_is c, sums.gained_is c, sum-next (gained_at tables edits image c) index);
    lost_is = λ c. grind (arith, (adds.losses is).lost_is c, sums.lost_is c, sum-next (lost_at tables edits image c) index);
  };
  counters = λ is c some. elim (cases_lt 0 (lost_at tables edits image c index)) [
    | inl here ↦ adds.counters is c here
    | inr none ↦ before.counters (adds.counted is) c (omega (arith, some, none, sum-next (lost_at tables edits image c) index))
  ];
  uncounted = λ is. elim (adds.uncounted is) [
    | inl earlier ↦ let found = before.uncounted earlier in
        (found.0, omega (arith, found.1, sum-next (lost_at tables edits image found.0) index), found.2)
    | inr here ↦ (here.0, omega (arith, here.1, sum-next (lost_at tables edits image here.0) index), here.2)
  ];
}

-- where none is refused, and nothing after, each isn't
pub none-refused-at : (refusal : ℕ → Option Fault) (end n : ℕ) (after : Option Fault) → option_or (first_fault refusal (range_with_len 0 end)) after ≡ None
    → n < end → refusal n ≡ None
none-refused-at refusal end n after none below =
    let more = end - n - 1 in
    let whole : end ≡ n + suc more = omega (arith, below) in
    let all : option_or (first_fault refusal (range_with_len 0 (n + suc more))) after ≡ None =
    subst (λ e. option_or (first_fault refusal (range_with_len 0 e)) after ≡ None) whole none in
    let parts = rw (range-split n (suc more), first_fault-join refusal (range_with_len 0 n) (range_with_len n (suc more))) at all in
    by_parts (first_fault refusal (range_with_len 0 n)) (refusal n) (first_fault refusal (range_with_len (n + 1) more)) parts
  where
    by_parts : (before here later : Option Fault) → option_or (option_or before (option_or here later)) after ≡ None → here ≡ None
    by_parts None None later is = refl
    by_parts None (Some fault) later is = absurd (grind (arith, is))
    by_parts (Some fault) here later is = absurd (grind (arith, is))

-- a refusal of the first is one of both
pub more-refused : (first after : Option Fault) (fault : Fault)
    → (fault ≡ Storage) ⊎ (fault ≡ NoMemory) ⊎ (unless_refused first (Ok (tt {0})) ≡ Err fault)
    → (fault ≡ Storage) ⊎ (fault ≡ NoMemory) ⊎ (unless_refused (option_or first after) (Ok (tt {0})) ≡ Err fault)
more-refused first after fault (inl failed) = inl failed
more-refused first after fault (inr (inl memory)) = inr (inl memory)
more-refused None after fault (inr (inr refused)) = absurd (grind (arith, refused))
more-refused (Some found) after fault (inr (inr refused)) = inr (inr refused)

-- where none of the first is refused, what is after them decides
pub all-allowed : (refusal : ℕ → Option Fault) (end count : ℕ) (after found : Option Fault) → first_fault refusal (range_with_len 0 end) ≡ None
    → count ≡ end → after ≡ found → option_or (first_fault refusal (range_with_len 0 count)) after ≡ found
all-allowed refusal end count after found none is after_is =
    ap (λ n. option_or (first_fault refusal (range_with_len 0 n)) after) is ∙ ap (λ first. option_or first after) none ∙ after_is

-- an outcome is added by the counters of the sources, whichever block is kept
pub adds-by-sources : (sources : Sources) (first next : StorageState) (a b d : CountersState) (outcome : Outcome) (old new : PlannedChanges)
    → AreSources sources a → IsSameButBlock first a b → IsSameButBlock next b d → AddsOutcome d.header d.reftable outcome old new
    → AddsOutcome sources.header.now a.reftable outcome old new
adds-by-sources sources first next a b d outcome old new of same more added =
    let header : d.header ≡ sources.header.now = ap (λ (counters : CountersState). counters.header) more.same
    ∙ ap (λ (counters : CountersState). counters.header) same.same ∙ of.tables.reader in
    let reftable : d.reftable ≡ a.reftable = ap (λ (counters : CountersState). counters.reftable) more.same
    ∙ ap (λ (counters : CountersState). counters.reftable) same.same in
    subst (λ h. AddsOutcome h a.reftable outcome old new) header (subst (λ r. AddsOutcome d.header r outcome old new) reftable added)

-- what edits of a loaded table do is what those of the table do, also where it is said in fewer ranges
pub run-of-edits : (header : HeaderRecord) (table : HostCluster) (list : List Edit) (loaded bytes : Image) (outcome joined : Outcome) → loaded ≡ bytes
    → ComesToOutcome header list (numbers_at (l2_layout (geometry_of header)) table loaded) outcome
    → joined.gained.items ≡ outcome.gained.items → ((c : ℕ) → handed_back joined.freed.items c ≡ handed_back outcome.freed.items c)
    → ((c : ℕ) → handed_back joined.freed.items c ≡ handed_back (run_in header list (numbers_at (l2_layout (geometry_of header)) table bytes)).freed c)
    × (cluster_numbers joined.gained.items ≡ (run_in header list (numbers_at (l2_layout (geometry_of header)) table bytes)).gained)
run-of-edits header table list loaded bytes outcome joined same comes gained freed =
    let run = ap (λ there. run_in header list (numbers_at (l2_layout (geometry_of header)) table there)) same in (
      λ c. freed c ∙ ap (λ ranges. handed_back ranges c) (comes.freed ∙ ap (λ (end : RunEnd). end.freed) run),
      ap cluster_numbers gained ∙ comes.gained ∙ ap (λ (end : RunEnd). end.gained) run,
    )
