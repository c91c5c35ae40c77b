use Rattle.std.proofs.Common.{IsTrue, true, false, Bool, ◌==◌, if◌then◌else◌, ◌∷◌, [], ◌≡◌, ◌≢◌, ◌↔◌, IsErrOf, ◌⊎◌, ℕ, lit<, ◌+◌, ◌/◌, ◌%◌, ◌^◌, ◌<◌, ◌≤◌, List, length, slice_index, Option, None, Some, Result, Ok, Err, IfErr, MatchResult, ap, refl, subst, sym, ◌∙◌, inl, inr, arith}
use Rattle.std.proofs.lemmas.Bool.{cases_Bool, cases_lt}
use Rattle.std.proofs.lemmas.Bool.Decides.{nat_tests}
use Rattle.std.proofs.Math.Nat.{div-lt_iff_lt-mul, pow-le-pow_right}
use Rattle.std.proofs.lemmas.Nat.{pow_pos}
use Rattle.std.specs.Option.{option_or}
use Rattle.std.specs.List.{list_any}
use Rattle.qcow2_base.specs.Storage.{be, Image, IsBytes, OnImage, OnImages, SameDevice, SameOutside, StorageState}
use Rattle.qcow2_base.specs.Types.{IsClusterBits}
use Rattle.qcow2_base.specs.declared.fault.Fault.{Fault}
use Rattle.qcow2_base.specs.declared.fault.Fault.TheVariants.{CounterRange, NoMemory, Storage}
use Rattle.qcow2_base.specs.declared.types.HostCluster.{HostCluster}
use Rattle.qcow2_metadata.specs.Header.{HeaderRecord, geometry_of}
use Rattle.qcow2_metadata.specs.Placed.{numbers_at}
use Rattle.qcow2_metadata.specs.Results.{and_then, unless_refused}
use Rattle.qcow2_metadata.specs.Table.{l2_layout, loaded_l2_table}
use Rattle.qcow2_check.proofs.CountersLemmas.{counter-fits}
use Rattle.qcow2_check.specs.Counters.{counters_each, placed_reftable}
use Rattle.qcow2_check.specs.NamedTables.{loaded_l1_table, named_cluster}
use Rattle.qcow2_check.specs.Failures.{ReportsFailures}
use Rattle.qcow2_check.specs.Uses.{ImageTables, image_tables}
use Rattle.qcow2_apply.proofs.BlocksLemmas as of-blocks
use Rattle.qcow2_apply.proofs.CounterTablesLemmas.{block-of, counter-here}
use Rattle.qcow2_apply.proofs.GuestEditsLemmas.{no-edits-in}
use Rattle.qcow2_apply.proofs.PlannedTablesLemmas.{none-refused-at}
use Rattle.qcow2_apply.proofs.TablesLemmas as of-tables
use Rattle.qcow2_apply.proofs.TablesLemmas.{named-below}
use Rattle.qcow2_apply.specs.Apply.{Applies, AreAllApart, BreaksOffApplying, CanBeMade, FollowsPlan, InGains, InLosses, InTables, IsElsewhere, LeavesHeader, l2_tables_of, plan_tables, refblocks_of}
use Rattle.qcow2_apply.specs.CounterTables.{CounterTablesState, HasCounter, counter_of_cluster}
use Rattle.qcow2_apply.specs.Blocks.{FollowsChanges, SomeIsStuck, StopsFollowing}
use Rattle.qcow2_apply.specs.GuestEdits.{has_clusters_in, edits_refusal}
use Rattle.qcow2_apply.specs.Changes.{gains_of, losses_of}
use Rattle.qcow2_apply.specs.Passes.{IsOutside, PassBreaksOff, Passes}
use Rattle.qcow2_apply.specs.Plan.{IsPlanOf, planned_tables}
use Rattle.qcow2_apply.specs.declared.plan.Plan.{Plan}
use Rattle.qcow2_base.specs.OnDiskStruct.{big}
use Rattle.qcow2_metadata.specs.Header.Pointers.{HoldsBetween, cleared_fields}
use Rattle.qcow2_metadata.specs.Header.Open.{without_autoclear}
use Rattle.qcow2_apply.specs.PlannedChanges.{AreSorted, CannotCount}
use Rattle.qcow2_apply.specs.PlannedTables.{alone_fault, counter_tables, load_fault, mappings_fault, table_refusal, tables_refusal}
use Rattle.qcow2_apply.specs.Tables.{FirstFails, IsEdited}
use Rattle.qcow2_apply.specs.declared.changes.Changes.{Changes}
use Rattle.qcow2_apply.specs.declared.guest_edits.GuestEdit.{GuestEdit}

-- the L1 table of tables that edits are made by is the image's, and none of them is refused
pub are-planned : (header : HeaderRecord) (edits : List GuestEdit) (image : Image) (tables : ImageTables) → planned_tables header edits image ≡ Ok tables
    → (loaded_l1_table header image ≡ Ok tables.l1) × (tables_refusal tables edits image ≡ None)
are-planned header edits image tables is = by_edits (edits_refusal header edits) refl
  where
    Planned : ImageTables → Type 0
    Planned tables = (loaded_l1_table header image ≡ Ok tables.l1) × (tables_refusal tables edits image ≡ None)

    by_tables : (l1 reftable : List ℕ) (found : Option Fault) → loaded_l1_table header image ≡ Ok l1
        → tables_refusal (image_tables header l1 reftable) edits image ≡ found
        → unless_refused found (Ok (image_tables header l1 reftable)) ≡ Ok tables → Planned tables
    by_tables l1 reftable None loads none same = subst Planned (the_same _ _ same) (loads, none)
      where
        the_same : (a b : ImageTables) → (let one : Result ImageTables Fault = Ok a in let other : Result ImageTables Fault = Ok b in one ≡ other) → a ≡ b
        the_same a b same = grind (arith, same)
    by_tables l1 reftable (Some fault) loads none same = absurd (grind (arith, same))

    by_reftable : (l1 : List ℕ) (found : Result (List ℕ) Fault) → loaded_l1_table header image ≡ Ok l1
        → and_then found (λ reftable. unless_refused (tables_refusal (image_tables header l1 reftable) edits image) (Ok (image_tables header l1 reftable))) ≡ Ok tables
        → Planned tables
    by_reftable l1 (Ok reftable) loads same = by_tables l1 reftable (tables_refusal (image_tables header l1 reftable) edits image) loads refl same
    by_reftable l1 (Err fault) loads same = absurd (grind (arith, same))

    by_l1 : (found : Result (List ℕ) Fault) → loaded_l1_table header image ≡ found
        → and_then found (λ l1. and_then (placed_reftable header image) (λ reftable.
        unless_refused (tables_refusal (image_tables header l1 reftable) edits image) (Ok (image_tables header l1 reftable)))) ≡ Ok tables
        → Planned tables
    by_l1 (Ok l1) loads same = by_reftable l1 (placed_reftable header image) loads same
    by_l1 (Err fault) loads same = absurd (grind (arith, same))

    by_edits : (found : Option Fault) → edits_refusal header edits ≡ found → Planned tables
    by_edits None none = by_l1 (loaded_l1_table header image) refl (rw none at is)
    by_edits (Some fault) some = absurd (let never = rw some at is in grind (arith, never))

same-cluster : (a b : HostCluster) → a.0 ≡ b.0 → a ≡ b
same-cluster a b same = grind (arith, same)

-- a table that can't be loaded is refused
pub never-refused : (tables : ImageTables) (edits : List GuestEdit) (image : Image) (i : ℕ) (table : HostCluster) (fault : Fault)
    → list_any (has_clusters_in tables.header.v2.cluster_bits i) edits ≡ true
    → named_cluster tables.header.v2.cluster_bits (slice_index tables.l1 i) ≡ Some table
    → loaded_l2_table (geometry_of tables.header) table image ≡ Err fault → table_refusal tables edits image i ≡ None → ⊥
never-refused tables edits image i table fault has names fails none =
    let load : load_fault tables.header image table ≡ Some fault = rw (fails, load_fault) refl in
    let named = rw (has, names) at none in
    by_parts (alone_fault tables edits image i table) (load_fault tables.header image table) (mappings_fault tables edits image i) named load
  where
    by_parts : (alone load maps : Option Fault) → option_or alone (option_or load maps) ≡ None → load ≡ Some fault → ⊥
    by_parts None None maps is some = grind (arith, some)
    by_parts None (Some found) maps is some = grind (arith, is)
    by_parts (Some found) load maps is some = grind (arith, is)

-- counters can count what is gained
pub gains-count : (tables : CounterTablesState) (gains losses : Changes) (image : Image) → tables.header.base.refcount_order ≤ 6 → IsBytes image
    → AreSorted (counters_each tables.header) gains losses → ((c : ℕ) → CannotCount tables gains losses image c → ⊥) → SomeIsStuck tables gains image → ⊥
gains-count tables gains losses image orders bytes sorted count stuck = elim stuck.2 [
  | inl past ↦ count stuck.0 (stuck.1, inl (omega (arith, past, counter-fits tables.header tables.reftable image stuck.0 orders bytes), past))
  | inr never ↦ absurd (omega (arith, never, sorted.no_loss stuck.0))
]

-- and then what is lost
pub losses-count : (tables : CounterTablesState) (gains losses : Changes) (old gained edited : Image) → tables.header.base.refcount_order ≤ 6 → IsBytes edited
    → AreSorted (counters_each tables.header) gains losses → ((c : ℕ) → CannotCount tables gains losses old c → ⊥) → FollowsChanges tables gains old gained
    → ((c : ℕ) → HasCounter tables c → counter_of_cluster tables edited c ≡ counter_of_cluster tables gained c) → SomeIsStuck tables losses edited → ⊥
losses-count tables gains losses old gained edited orders bytes sorted count follows same stuck = let c = stuck.0 in elim stuck.2 [
  | inl past ↦ absurd (omega (arith, past, sorted.no_gain c, counter-fits tables.header tables.reftable edited c orders bytes))
  | inr less ↦ count c (stuck.1, inr (omega (arith, less, same c stuck.1, follows.followed c stuck.1, sorted.no_loss c, sorted.no_gain c)))
]

-- a pass over tables keeps counters
pub counters-stay : (tables : ImageTables) (old new : Image) → IsClusterBits tables.header.v2.cluster_bits → tables.header.base.refcount_order ≤ 6
    → AreAllApart tables → ((o : ℕ) → IsOutside (l2_tables_of tables) o → new o ≡ old o) → (c : ℕ) → HasCounter (counter_tables tables) c
    → counter_of_cluster (counter_tables tables) new c ≡ counter_of_cluster (counter_tables tables) old c
counters-stay tables old new bits orders apart others c has =
    let state = counter_tables tables in
    let found = block-of state c has in
    let same = of-blocks.are-of-clusters state bits orders found.0 old new
    (λ o here. others o (λ i table names at. apart.both_apart i (c / counters_each tables.header) found.0
    (subst (λ cluster. (l2_tables_of tables).place i ≡ Some cluster) (same-cluster table found.0 (sym at ∙ here)) names) found.1)) in
    counter-here state found.0 new c found.1 ∙ ap (λ (numbers : List ℕ). slice_index numbers (c % counters_each tables.header)) same ∙ sym (counter-here state found.0 old c found.1)

-- a byte of a cluster that isn't the header's is after the header's field of autoclear features
pub after-field : (cb o cluster : ℕ) → IsClusterBits cb → o / 2 ^ cb ≡ cluster → 0 < cluster → 88 + 8 ≤ o
after-field cb o cluster bits here some = elim (cases_lt o 96) [
  | inl before ↦
      let size : 2 ^ 9 ≤ 2 ^ cb = pow-le-pow_right (lit< tt) bits.0 in
      let low : o / 2 ^ cb < 1 = (div-lt_iff_lt-mul (pow_pos cb)).1 (omega (arith, before, size)) in
      absurd (omega (arith, low, here, some))
  | inr after ↦ after
]

-- a block is the same whatever that field is
pub counters-cleared : (tables : ImageTables) (first bytes : Image) → IsClusterBits tables.header.v2.cluster_bits → tables.header.base.refcount_order ≤ 6
    → AreAllApart tables → SameOutside 88 8 first bytes → (c : ℕ) → HasCounter (counter_tables tables) c
    → counter_of_cluster (counter_tables tables) bytes c ≡ counter_of_cluster (counter_tables tables) first c
counters-cleared tables first bytes bits orders apart same c has =
    let state = counter_tables tables in
    let found = block-of state c has in
    let some = apart.blocks_after (c / counters_each tables.header) found.0 found.1 in
    let numbers = of-blocks.are-of-clusters state bits orders found.0 first bytes
    (λ o here. same.after o (after-field tables.header.v2.cluster_bits o found.0.0 bits here some)) in
    counter-here state found.0 bytes c found.1 ∙ ap (λ (list : List ℕ). slice_index list (c % counters_each tables.header)) numbers
    ∙ sym (counter-here state found.0 first c found.1)

-- so what counters can count then they can count now
pub count-cleared : (tables : CounterTablesState) (gains losses : Changes) (first bytes : Image)
    → ((c : ℕ) → HasCounter tables c → counter_of_cluster tables bytes c ≡ counter_of_cluster tables first c)
    → ((c : ℕ) → CannotCount tables gains losses first c → ⊥) → (c : ℕ) → CannotCount tables gains losses bytes c → ⊥
count-cleared tables gains losses first bytes same count c cannot = elim cannot.1 [
  | inl past ↦ count c (cannot.0, inl (past.0, omega (arith, past.1, same c cannot.0)))
  | inr less ↦ count c (cannot.0, inr (omega (arith, less, same c cannot.0)))
]

-- a table that edits change and that could be loaded at first can be loaded when counters have followed
pub tables-load : (edits : List GuestEdit) (tables : ImageTables) (gains : Changes) (fault : Fault) (first old gained : Image)
    → IsClusterBits tables.header.v2.cluster_bits → AreAllApart tables → tables_refusal tables edits first ≡ None → SameOutside 88 8 first old
    → FollowsChanges (counter_tables tables) gains old gained → FirstFails tables.header tables.l1 edits fault gained → ⊥
tables-load edits tables gains fault first old gained bits apart none cleared follows (i, (table, names, some, fails), before) =
    let g = geometry_of tables.header in
    let counted : numbers_at (l2_layout g) table gained ≡ numbers_at (l2_layout g) table old =
    of-tables.are-of-clusters tables.header tables.l1 bits table old gained
    (λ o here. follows.others o (λ j block named at. apart.both_apart i j table names
    (subst (λ cluster. (refblocks_of tables).place j ≡ Some cluster) (same-cluster block table (sym at ∙ here)) named))) in
    let same : numbers_at (l2_layout g) table old ≡ numbers_at (l2_layout g) table first =
    of-tables.are-of-clusters tables.header tables.l1 bits table first old
    (λ o here. cleared.after o (after-field tables.header.v2.cluster_bits o table.0 bits here (apart.tables_after i table names))) in
    let numbers = counted ∙ same in
    let loads : loaded_l2_table g table first ≡ loaded_l2_table g table gained = rw numbers refl in
    let refusal : table_refusal tables edits first i ≡ None =
    none-refused-at (table_refusal tables edits first) (length tables.l1) i _ none (named-below tables.header tables.l1 i table names) in
    elim (cases_Bool (list_any (has_clusters_in tables.header.v2.cluster_bits i) edits)) [
      | inl has ↦ never-refused tables edits first i table fault has names (loads ∙ fails) refusal
      | inr has ↦ some (no-edits-in tables.header.v2.cluster_bits i edits has)
    ]

-- how the last part ends is how all do
pub ends-applying : (tables : ImageTables) (edits : List GuestEdit) (gains losses : Changes) (answer : Result (Unit {0}) Fault) (old gained edited new : Image)
    → FollowsChanges (counter_tables tables) gains old gained → Passes (l2_tables_of tables) (IsEdited tables.header edits) gained edited
    → MatchResult answer (λ _. FollowsChanges (counter_tables tables) losses edited new) (λ fault. StopsFollowing (counter_tables tables) losses fault edited new)
    → MatchResult answer (λ _. Applies tables edits gains losses old new) (λ fault. BreaksOffApplying tables edits gains losses fault old new)
ends-applying tables edits gains losses (Ok done) old gained edited new first second third = record {
  gained = gained;
  edited = edited;
  gains_counted = first;
  tables_edited = second;
  losses_counted = third;
}
ends-applying tables edits gains losses (Err fault) old gained edited new first second third = InLosses gained edited first second third

-- nothing had followed
stopped-at-once : (tables : CounterTablesState) (changes : Changes) (fault : Fault) (image : Image) → StopsFollowing tables changes fault image image
stopped-at-once tables changes fault image = (
  image,
  record { counters = λ c has. inl refl; others = λ o outside. refl },
  record { whole = λ other. refl; torn = inl refl },
)

-- edits that were planned ended before the first was made
pub cut-short : (header : HeaderRecord) (edits : List GuestEdit) (plan : Plan) (fault : Fault) (old new : Image) → SameOutside 88 8 old new
    → (header.base.autoclear_features ≡ 0 → new ≡ old) → fault ≡ Storage → FollowsPlan header edits plan (Err fault) old new
cut-short header edits plan fault old new clears idle failed = record {
  cleared = new;
  clears = clears;
  idle = idle;
  wiped = λ some ok. absurd (grind (arith, ok));
  ends = λ apart. InGains (stopped-at-once (counter_tables (plan_tables header plan)) plan.gains fault new);
  others = λ o elsewhere. refl;
  faults = λ apart. failed;
  memory = λ none. grind (arith, failed, none);
}

-- edits that are planned can be made
pub can-be-made : (header : HeaderRecord) (edits : List GuestEdit) (plan : Plan) (image : Image) → IsPlanOf header edits image plan
    → CanBeMade (plan_tables header plan) edits plan.gains plan.losses image
can-be-made header edits plan image of = record {
  tables_allow = (are-planned header edits image (image_tables header plan.l1_table.numbers plan.reftable.numbers) of.tables).1;
  counters_count = of.count;
}

-- the edits of tables broke off
pub breaks-in-tables : (tables : ImageTables) (edits : List GuestEdit) (gains losses : Changes) (fault : Fault) (old gained new : Image)
    → FollowsChanges (counter_tables tables) gains old gained → PassBreaksOff (l2_tables_of tables) (IsEdited tables.header edits) fault gained new
    → BreaksOffApplying tables edits gains losses fault old new
breaks-in-tables tables edits gains losses fault old gained new first second = InTables gained first second

-- a fault that counters can't be the reason of is the storage's
pub storage-alone : (answer : Result (Unit {0}) Fault) (before edited : StorageState) (Stuck Can : Image → Type 0)
    → edited.tells ≡ before.tells
    → (IsTrue before.tells → Stuck edited.byte_at → (first : Image) → Can first → SameOutside 88 8 first before.byte_at → ⊥)
    → IfErr answer (λ fault. (fault ≡ Storage) ⊎ ((fault ≡ CounterRange) × OnImage edited Stuck))
    → IfErr answer (λ fault. OnImage before (λ bytes. (first : Image) → Can first → SameOutside 88 8 first bytes → fault ≡ Storage))
storage-alone (Ok done) before edited Stuck Can tells never faults = tt
storage-alone (Err fault) before edited Stuck Can tells never (inl failed) = λ told first can same. failed
storage-alone (Err fault) before edited Stuck Can tells never (inr (range, stuck)) = λ told first can same.
    let known : IsTrue edited.tells = rw tells told in absurd (never told (stuck known) first can same)

-- counters are stuck where blocks are apart
pub stuck-where-apart : (answer : Result (Unit {0}) Fault) (edited : StorageState) (Stuck : Image → Type 0) (Apart : Type 0) → Apart
    → IfErr answer (λ fault. (fault ≡ Storage) ⊎ ((fault ≡ CounterRange) × (Apart → OnImage edited Stuck)))
    → IfErr answer (λ fault. (fault ≡ Storage) ⊎ ((fault ≡ CounterRange) × OnImage edited Stuck))
stuck-where-apart (Ok done) edited Stuck Apart apart faults = tt
stuck-where-apart (Err fault) edited Stuck Apart apart (inl failed) = inl failed
stuck-where-apart (Err fault) edited Stuck Apart apart (inr (range, stuck)) = inr (range, stuck apart)

-- edits that are planned were made
pub follows-plan : (header left : HeaderRecord) (edits : List GuestEdit) (plan : Plan) (answer : Result (Unit {0}) Fault) (before cleared after : StorageState)
    → left ≡ without_autoclear header → IsTrue cleared.tells → SameOutside 88 8 before.byte_at cleared.byte_at
    → (header.base.autoclear_features ≡ 0 → cleared.byte_at ≡ before.byte_at)
    → (header.base.autoclear_features ≢ 0 → be cleared.byte_at 88 8 ≡ 0) → IsPlanOf header edits before.byte_at plan
    → (let tables = image_tables left plan.l1_table.numbers plan.reftable.numbers in AreAllApart tables → OnImages cleared after (λ old new. MatchResult answer
    (λ _. Applies tables edits plan.gains plan.losses old new) (λ fault. BreaksOffApplying tables edits plan.gains plan.losses fault old new)))
    → (let tables = image_tables left plan.l1_table.numbers plan.reftable.numbers in
    OnImages cleared after (λ old new. (o : ℕ) → IsElsewhere tables o → new o ≡ old o))
    → (let tables = image_tables left plan.l1_table.numbers plan.reftable.numbers in AreAllApart tables → IfErr answer (λ fault. OnImage cleared (λ bytes.
    (first : Image) → CanBeMade tables edits plan.gains plan.losses first → SameOutside 88 8 first bytes → fault ≡ Storage)))
    → IfErr answer (λ fault. fault ≢ NoMemory) → FollowsPlan header edits plan answer before.byte_at after.byte_at
follows-plan header left edits plan answer before cleared after is told clears idle wiped planned applied others faults memory =
    let tables = λ (header : HeaderRecord). image_tables header plan.l1_table.numbers plan.reftable.numbers in
    record {
      cleared = cleared.byte_at;
      clears = clears;
      idle = idle;
      wiped = λ some ok. wiped some;
      ends = λ apart. subst (λ header. AreAllApart (tables header) → OnImages cleared after (λ old new. MatchResult answer
          (λ _. Applies (tables header) edits plan.gains plan.losses old new)
          (λ fault. BreaksOffApplying (tables header) edits plan.gains plan.losses fault old new))) is applied apart told;
      others = subst (λ header. OnImages cleared after (λ old new. (o : ℕ) → IsElsewhere (tables header) o → new o ≡ old o)) is others told;
      faults = λ apart. by_answer answer (subst (λ header. AreAllApart (tables header) → IfErr answer (λ fault. OnImage cleared (λ bytes.
          (first : Image) → CanBeMade (tables header) edits plan.gains plan.losses first → SameOutside 88 8 first bytes → fault ≡ Storage))) is faults apart);
      memory = memory;
    }
  where
    by_answer : (answer : Result (Unit {0}) Fault) → IfErr answer (λ fault. OnImage cleared (λ bytes. (first : Image)
        → CanBeMade (plan_tables header plan) edits plan.gains plan.losses first → SameOutside 88 8 first bytes → fault ≡ Storage)) → IfErr answer (λ fault. fault ≡ Storage)
    by_answer (Ok done) fact = tt
    by_answer (Err fault) fact = fact told before.byte_at (can-be-made header edits plan before.byte_at planned) clears

-- what says of an answer says of one with another value, or of the same fault without it
pub reports-value : {T U : Type 0} (value : T) (other : U) (a b : StorageState) → ReportsFailures (Ok value) a b → ReportsFailures (Ok other) a b
reports-value value other a b reports = record { failed = grind (arith, reports.failed); device = reports.device }

pub reports-fault : {T U : Type 0} (fault : Fault) (a b : StorageState) → ReportsFailures {T = T} (Err fault) a b → ReportsFailures {T = U} (Err fault) a b
reports-fault fault a b reports = record { failed = grind (arith, reports.failed); device = reports.device }

-- calls that fail after others that didn't
pub reports-then : {T : Type 0} (answer : Result T Fault) (a b d : StorageState) → b.failures ≡ a.failures → SameDevice a b → ReportsFailures answer b d
    → ReportsFailures answer a d
reports-then answer a b d same device other = record {
  failed = subst (λ count. IsErrOf answer Storage ↔ (d.failures ≢ count)) same other.failed;
  device = record {
    tells = other.device.tells ∙ device.tells;
    mem_align = other.device.mem_align ∙ device.mem_align;
    req_align = other.device.req_align ∙ device.req_align;
  };
}

-- a table is the same where only blocks changed
pub table-outside-blocks : (tables : ImageTables) (old new : Image) (i : ℕ) (table : HostCluster) → IsClusterBits tables.header.v2.cluster_bits → AreAllApart tables
    → ((o : ℕ) → IsOutside (refblocks_of tables) o → new o ≡ old o) → (l2_tables_of tables).place i ≡ Some table
    → numbers_at (l2_layout (geometry_of tables.header)) table new ≡ numbers_at (l2_layout (geometry_of tables.header)) table old
table-outside-blocks tables old new i table bits apart others names = of-tables.are-of-clusters tables.header tables.l1 bits table old new
    (λ o here. others o (λ j block named at. apart.both_apart i j table names
    (subst (λ cluster. (refblocks_of tables).place j ≡ Some cluster) (same-cluster block table (sym at ∙ here)) named)))

-- and whatever the header's field of autoclear features is
pub table-cleared : (tables : ImageTables) (old new : Image) (i : ℕ) (table : HostCluster) → IsClusterBits tables.header.v2.cluster_bits → AreAllApart tables
    → SameOutside 88 8 old new → (l2_tables_of tables).place i ≡ Some table
    → numbers_at (l2_layout (geometry_of tables.header)) table new ≡ numbers_at (l2_layout (geometry_of tables.header)) table old
table-cleared tables old new i table bits apart cleared names = of-tables.are-of-clusters tables.header tables.l1 bits table old new
    (λ o here. cleared.after o (after-field tables.header.v2.cluster_bits o table.0 bits here (apart.tables_after i table names)))

-- each table has what its edits leave of it
pub table-left : (tables : ImageTables) (edits : List GuestEdit) (gains losses : Changes) (old cleared new : Image) (i : ℕ) (table : HostCluster)
    → IsClusterBits tables.header.v2.cluster_bits → AreAllApart tables → SameOutside 88 8 old cleared → Applies tables edits gains losses cleared new
    → (l2_tables_of tables).place i ≡ Some table → IsEdited tables.header edits i (numbers_at (l2_layout (geometry_of tables.header)) table old)
    (numbers_at (l2_layout (geometry_of tables.header)) table new)
table-left tables edits gains losses old cleared new i table bits apart clears applied names =
    let first = table-cleared tables old cleared i table bits apart clears names in
    let second = table-outside-blocks tables cleared applied.gained i table bits apart applied.gains_counted.others names in
    let third = table-outside-blocks tables applied.edited new i table bits apart applied.losses_counted.others names in
    let edited = applied.tables_edited.changed i table names in
    subst (λ before. IsEdited tables.header edits i before (numbers_at (l2_layout (geometry_of tables.header)) table new)) (second ∙ first)
    (third ∙ edited)

-- at each cluster that has a counter, that and what the cluster loses are the counter before and what it gains
pub counter-left : (tables : ImageTables) (edits : List GuestEdit) (gains losses : Changes) (old cleared new : Image) (c : ℕ)
    → IsClusterBits tables.header.v2.cluster_bits → tables.header.base.refcount_order ≤ 6 → AreAllApart tables → SameOutside 88 8 old cleared
    → AreSorted (counters_each tables.header) gains losses → Applies tables edits gains losses cleared new → HasCounter (counter_tables tables) c
    → counter_of_cluster (counter_tables tables) new c + losses_of losses c ≡ counter_of_cluster (counter_tables tables) old c + gains_of gains c
counter-left tables edits gains losses old cleared new c bits orders apart clears sorted applied has =
    let first = counters-cleared tables old cleared bits orders apart clears c has in
    let gained = applied.gains_counted.followed c has in
    let same = counters-stay tables applied.gained applied.edited bits orders apart applied.tables_edited.others c has in
    let lost = applied.losses_counted.followed c has in
    omega (arith, first, gained, same, lost, sorted.no_loss c, sorted.no_gain c)

-- where the field of autoclear features was written, it is 0
pub field-wiped : (header : HeaderRecord) (image : Image) → HoldsBetween image 88 96 (cleared_fields header) → header.base.autoclear_features ≢ 0 → be image 88 8 ≡ 0
field-wiped header image held some = by_test (header.base.autoclear_features == 0) refl held
  where
    by_test : (none : Bool) → (header.base.autoclear_features == 0) ≡ none → HoldsBetween image 88 96 (if none then [] else (big 88 8 0 ∷ [])) → be image 88 8 ≡ 0
    by_test true is held = absurd (grind (arith, nat_tests, is, some))
    by_test false is held = held.0 (omega arith) (omega arith)

-- a header without autoclear features is left, whichever the answer
pub leaves-cleared : {T : Type 0} (header left : HeaderRecord) (answer : Result T Fault) → left ≡ without_autoclear header → LeavesHeader header answer left
leaves-cleared header left (Ok value) is = is
leaves-cleared header left (Err fault) is = inr is
