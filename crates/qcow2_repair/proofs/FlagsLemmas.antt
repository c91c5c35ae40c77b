use Rattle.std.proofs.Common.{◌≡◌, ◌≢◌, ◌⊎◌, ℕ, Bool, true, false, ◌+◌, ◌-◌, ◌*◌, ◌/◌, ◌^◌, ◌<◌, ◌≤◌, List, [], ◌∷◌, map, length, slice_index, slice_set, Option, Some, None, Ok, ap, refl, sym, ◌∙◌, inl, inr, arith}
use Rattle.std.proofs.lemmas.Bool.{cases_Bool, cases_eq, cases_lt}
use Rattle.std.proofs.lemmas.Bool.Decides.{nat_tests}
use Rattle.std.proofs.lemmas.Grind.{get_or-set_at}
use Rattle.std.proofs.lemmas.Option.{none-some}
use Rattle.std.proofs.lemmas.Nat.{pow_pos}
use Rattle.qcow2_base.specs.Storage.{Image, SameOutside}
use Rattle.qcow2_base.specs.declared.fault.Fault.{Fault}
use Rattle.qcow2_base.specs.declared.fault.Fault.TheVariants.{Storage}
use Rattle.qcow2_base.specs.declared.types.HostCluster.{HostCluster}
use Rattle.std.proofs.lemmas.List.{ext_get_or, get_or-map, get_or_past, get_or-set_other, length-map, length-set, set-get_or}
use Rattle.qcow2_metadata.proofs.CopiedLemmas.{is_copied-with_copied, l2_fault-with_copied, with_copied-fits, with_copied-same}
use Rattle.qcow2_metadata.proofs.TableLemmas.{full_cluster, no_fault_at_all}
use Rattle.qcow2_metadata.specs.Entries.{is_copied, offset_field, with_copied}
use Rattle.qcow2_metadata.specs.Entries.L2Entry.{is_compressed, l2_fault}
use Rattle.qcow2_metadata.specs.Header.{HeaderRecord, geometry_of}
use Rattle.qcow2_metadata.specs.Placed.{offset_of}
use Rattle.qcow2_metadata.specs.Results.{result_map}
use Rattle.qcow2_metadata.specs.Table.{first_fault, l2_layout, loaded_l2_table}
use Rattle.qcow2_check.specs.NamedTables.{named_cluster}
use Rattle.qcow2_check.specs.Tally.{cell_at}
use Rattle.qcow2_check.specs.Uses.{all_load, l1_entry_loads}
use Rattle.qcow2_repair.proofs.RepairLemmas.{entry-loads}
use Rattle.qcow2_summary.proofs.ClustersLemmas.{other-cluster, table-same}
use Rattle.qcow2_check.proofs.RepeatedLemmas.{named_earlier}
use Rattle.qcow2_check.specs.Repeats.{AreTimesOf, table_names, times_at}
use Rattle.qcow2_repair.specs.Flags.{BreaksOffL2, FlagPassState, IsOutsideL2Tables, NamesTable, PassesL2, TallyPass, l2_due, l2_in, pass_by, passed_l2, with_due}

-- an entry that has the flag stays, and so does one that the flag isn't due to
pub has_flag : (flag : Bool) (due : Option Bool) (v : ℕ) → v < 2 ^ 64 → is_copied v ≡ flag → with_due flag due v ≡ v
has_flag flag due v fits is = grind (arith, nat_tests, is, with_copied-same v fits)

pub not_due : (flag : Bool) (due : Option Bool) (v : ℕ) → due ≢ Some flag → with_due flag due v ≡ v
not_due true due v other = grind (arith, nat_tests, other)
not_due false due v other = grind (arith, nat_tests, other)

-- in a pass that clears flags an entry stays whose cluster has one use
pub sole_stays : (pass : TallyPass) (v c : ℕ) → pass.flag ≡ false → is_compressed v ≡ false → offset_field v / 2 ^ pass.header.v2.cluster_bits ≡ c
    → cell_at pass.tally c / 8 ≡ 1 → passed_l2 (pass_by pass) v ≡ v
sole_stays pass v c clears standard cluster one = grind (arith, nat_tests, clears, standard, cluster, one)

-- so the table stays
pub entry_passes : (numbers : List ℕ) (index w : ℕ) → w ≡ slice_index numbers index → slice_set numbers index w ≡ numbers
entry_passes numbers index w is = rw is (set-get_or numbers index 0)

-- the numbers before an index are mapped, and the others stay
pub record MapsBefore (f : ℕ → ℕ) (at : ℕ) (old new : List ℕ) : Type 0 where
  pub count : length new ≡ length old
  pub before : (k : ℕ) → k < at → slice_index new k ≡ f (slice_index old k)
  pub after : (k : ℕ) → at ≤ k → slice_index new k ≡ slice_index old k

-- one more is mapped
pub maps_next : (f : ℕ → ℕ) (at : ℕ) (old mid new : List ℕ) → at < length old → MapsBefore f at old mid
    → new ≡ slice_set mid at (f (slice_index mid at)) → MapsBefore f (at + 1) old new
maps_next f at old mid new below so_far is = record {
  count = rw is (length-set mid at _ ∙ so_far.count);
  before = λ k small. elim (cases_eq k at) [
    | inl here ↦ grind (arith, nat_tests, is, here, get_or-set_at, so_far.count, so_far.after at (omega arith))
    | inr elsewhere ↦ grind (arith, nat_tests, is, elsewhere, small, get_or-set_other, so_far.before k (omega (arith, small, elsewhere)))
  ];
  after = λ k more. grind (arith, nat_tests, is, more, get_or-set_other, so_far.after k (omega (arith, more)));
}

-- and so are several that stay
pub maps_same : (f : ℕ → ℕ) (at count : ℕ) (old new : List ℕ) → MapsBefore f at old new
    → ((k : ℕ) → k < count → f (slice_index new (at + k)) ≡ slice_index new (at + k)) → MapsBefore f (at + count) old new
maps_same f at count old new so_far same = record {
  count = so_far.count;
  before = λ k small. elim (cases_lt k at) [
    | inl less ↦ so_far.before k less
    | inr more ↦
        let place : at + (k - at) ≡ k = omega (arith, more) in
        let here : f (slice_index new k) ≡ slice_index new k = rw place at (same (k - at) (omega (arith, more, small))) in
        sym here ∙ ap f (so_far.after k more)
  ];
  after = λ k more. so_far.after k (omega (arith, more));
}

-- all are
pub maps_all : (f : ℕ → ℕ) (at : ℕ) (old new : List ℕ) → length old ≤ at → MapsBefore f at old new → new ≡ map f old
maps_all f at old new end so_far = ext_get_or 0 new (map f old) (so_far.count ∙ sym (length-map old f))
    (λ k below. so_far.before k (omega (arith, below, end, so_far.count)) ∙ sym (grind (arith, nat_tests, get_or-map, below, so_far.count)))

-- what one entry of a table comes to, and what all do
pub ruleset one_entry = (entry_passes, has_flag, not_due)

pub ruleset all_entries = (maps_all, maps_next)

-- what a pass makes of an entry: the entry, or that with the flag
pub passed_cases : (flag : Bool) (due : Option Bool) (v : ℕ) → (with_due flag due v ≡ v) ⊎ (with_due flag due v ≡ with_copied flag v)
passed_cases flag None v = inl refl
passed_cases true (Some true) v = inr refl
passed_cases true (Some false) v = inl refl
passed_cases false (Some true) v = inl refl
passed_cases false (Some false) v = inr refl

-- a pass that passes over an L2 entry again leaves it
pub twice-passed : (pass : FlagPassState) (v : ℕ) → passed_l2 pass (passed_l2 pass v) ≡ passed_l2 pass v
twice-passed pass v = elim (passed_cases pass.flag (l2_due pass v) v) [
  | inl same ↦ ap (passed_l2 pass) same
  | inr turned ↦ ap (passed_l2 pass) turned ∙ has_flag pass.flag (l2_due pass (with_copied pass.flag v)) (with_copied pass.flag v) (with_copied-fits pass.flag v) (is_copied-with_copied pass.flag v) ∙ sym turned
]

-- and so it does all of a table
table-twice : (pass : FlagPassState) (vs : List ℕ) → map (passed_l2 pass) (map (passed_l2 pass) vs) ≡ map (passed_l2 pass) vs
table-twice pass [] = refl
table-twice pass (v ∷ vs) = rw (twice-passed pass v, table-twice pass vs) refl

-- an L2 entry that a pass changes isn't compressed
due-standard : (pass : FlagPassState) (v : ℕ) (due : Bool) → l2_due pass v ≡ Some due → is_compressed v ≡ false
due-standard pass v due is = elim (cases_Bool (is_compressed v)) [
  | inl compressed ↦ absurd (grind (arith, nat_tests, compressed, is))
  | inr standard ↦ standard
]

-- so it stays valid
passed-valid : (pass : FlagPassState) (v : ℕ) → l2_fault pass.header.v2.cluster_bits v ≡ None → l2_fault pass.header.v2.cluster_bits (passed_l2 pass v) ≡ None
passed-valid pass v valid = by_due (l2_due pass v) refl
  where
    by_due : (due : Option Bool) → l2_due pass v ≡ due → l2_fault pass.header.v2.cluster_bits (with_due pass.flag due v) ≡ None
    by_due None is = valid
    by_due (Some due) is = elim (passed_cases pass.flag (Some due) v) [
      | inl same ↦ ap (l2_fault pass.header.v2.cluster_bits) same ∙ valid
      | inr turned ↦ ap (l2_fault pass.header.v2.cluster_bits) turned ∙ l2_fault-with_copied pass.flag pass.header.v2.cluster_bits v (due-standard pass v due is) ∙ valid
    ]

pub table-valid : (pass : FlagPassState) (vs : List ℕ) → first_fault (l2_fault pass.header.v2.cluster_bits) vs ≡ None
    → first_fault (l2_fault pass.header.v2.cluster_bits) (map (passed_l2 pass) vs) ≡ None
table-valid pass [] valid = refl
table-valid pass (v ∷ vs) valid =
    let parts = no_fault_at_all (l2_fault pass.header.v2.cluster_bits v) (first_fault (l2_fault pass.header.v2.cluster_bits) vs) valid in
    rw (passed-valid pass v parts.0) (table-valid pass vs parts.1)

-- an L2 table of another cluster stays where only the bytes of one change
pub other-table : (header : HeaderRecord) (table other : HostCluster) (old new : Image) → 9 ≤ header.v2.cluster_bits → other.0 ≢ table.0
    → SameOutside (offset_of (l2_layout (geometry_of header)) table) (l2_layout (geometry_of header)).byte_count old new
    → l2_in header other new ≡ l2_in header other old
other-table header table other old new least differs outside =
    let w = 2 ^ header.v2.cluster_bits in
    let whole : SameOutside (table.0 * w) w old new = rw (full_cluster header.v2.cluster_bits least) at outside in
    table-same (geometry_of header) other old new least (λ o here. other-cluster w table.0 o old new (pow_pos _) whole (λ at. differs (sym here ∙ at)))

-- each table is the old one or passed, those that the entries before an index name are passed, and no byte outside the tables changes
pub record PassesSome (pass : FlagPassState) (l1 : List ℕ) (index : ℕ) (old new : Image) : Type 0 where
  pub between : (table : HostCluster) → NamesTable pass.header l1 table →
      (l2_in pass.header table new ≡ l2_in pass.header table old) ⊎ (l2_in pass.header table new ≡ map (passed_l2 pass) (l2_in pass.header table old))
  pub passed : (k : ℕ) (table : HostCluster) → k < index → named_cluster pass.header.v2.cluster_bits (slice_index l1 k) ≡ Some table →
      l2_in pass.header table new ≡ map (passed_l2 pass) (l2_in pass.header table old)
  pub others : (o : ℕ) → IsOutsideL2Tables pass.header l1 o → new o ≡ old o

pub some-none : (pass : FlagPassState) (l1 : List ℕ) (image : Image) → PassesSome pass l1 0 image image
some-none pass l1 image = record {
  between = λ table names. inl refl;
  passed = λ k table below names. absurd (omega (arith, below));
  others = λ o outside. refl;
}

-- an entry that names no table
pub some-skip : (pass : FlagPassState) (l1 : List ℕ) (index : ℕ) (old new : Image) → named_cluster pass.header.v2.cluster_bits (slice_index l1 index) ≡ None
    → PassesSome pass l1 index old new → PassesSome pass l1 (index + 1) old new
some-skip pass l1 index old new none so_far = record {
  between = so_far.between;
  passed = λ k table below names. elim (cases_lt k index) [
    | inl less ↦ so_far.passed k table less names
    | inr more ↦
        let here : k ≡ index = omega (arith, below, more) in
        absurd (none-some table (sym none ∙ (rw here at names)))
  ];
  others = so_far.others;
}

-- or one whose table an entry before it names too
pub some-again : (pass : FlagPassState) (l1 times : List ℕ) (index : ℕ) (old new : Image) → index < length l1 → AreTimesOf (table_names l1) times
    → times_at times index ≡ 0 → PassesSome pass l1 index old new → PassesSome pass l1 (index + 1) old new
some-again pass l1 times index old new within are none so_far = record {
  between = so_far.between;
  passed = λ k table below names. elim (cases_lt k index) [
    | inl less ↦ so_far.passed k table less names
    | inr more ↦
        let here : k ≡ index = omega (arith, below, more) in
        let earlier = named_earlier pass.header.v2.cluster_bits l1 times index table within are none (rw here at names) in
        so_far.passed earlier.0 table earlier.1 earlier.2
  ];
  others = so_far.others;
}

pub same-cluster : (a b : HostCluster) → a.0 ≡ b.0 → a ≡ b
same-cluster a b same = grind (arith, same)

-- a table that an index names changes, or its write fails
pub record ChangesTable (header : HeaderRecord) (l1 : List ℕ) (index : ℕ) (table : HostCluster) (old new : Image) : Type 0 where
  pub least : 9 ≤ header.v2.cluster_bits
  pub names : named_cluster header.v2.cluster_bits (slice_index l1 index) ≡ Some table
  pub outside : SameOutside (offset_of (l2_layout (geometry_of header)) table) (l2_layout (geometry_of header)).byte_count old new

pub outside-stays : (header : HeaderRecord) (l1 : List ℕ) (index : ℕ) (table : HostCluster) (old new : Image) → ChangesTable header l1 index table old new
    → (o : ℕ) → IsOutsideL2Tables header l1 o → new o ≡ old o
outside-stays header l1 index table old new change o outside =
    let w = 2 ^ header.v2.cluster_bits in
    let whole : SameOutside (table.0 * w) w old new = rw (full_cluster header.v2.cluster_bits change.least) at change.outside in
    other-cluster w table.0 o old new (pow_pos _) whole (outside table (index, change.names))

-- one more table is passed
pub some-next : (pass : FlagPassState) (l1 : List ℕ) (index : ℕ) (table : HostCluster) (old mid new : Image) → ChangesTable pass.header l1 index table mid new
    → PassesSome pass l1 index old mid → l2_in pass.header table new ≡ map (passed_l2 pass) (l2_in pass.header table mid)
    → PassesSome pass l1 (index + 1) old new
some-next pass l1 index table old mid new change so_far is = record {
  between = λ other names. elim (cases_eq other.0 table.0) [
    | inl same ↦ inr (ap (λ t. l2_in pass.header t new) (same-cluster other table same) ∙ own ∙ ap (λ t. map (passed_l2 pass) (l2_in pass.header t old)) (sym (same-cluster other table same)))
    | inr differs ↦ rw (stays other differs) (so_far.between other names)
  ];
  passed = λ k other below names. elim (cases_eq other.0 table.0) [
    | inl same ↦ ap (λ t. l2_in pass.header t new) (same-cluster other table same) ∙ own ∙ ap (λ t. map (passed_l2 pass) (l2_in pass.header t old)) (sym (same-cluster other table same))
    | inr differs ↦ stays other differs ∙ so_far.passed k other (earlier k other below names differs) names
  ];
  others = λ o outside. outside-stays pass.header l1 index table mid new change o outside ∙ so_far.others o outside;
}
  where
    own : l2_in pass.header table new ≡ map (passed_l2 pass) (l2_in pass.header table old)
    own = is ∙ elim (so_far.between table (index, change.names)) [
      | inl same ↦ ap (map (passed_l2 pass)) same
      | inr passed ↦ ap (map (passed_l2 pass)) passed ∙ table-twice pass (l2_in pass.header table old)
    ]

    stays : (other : HostCluster) → other.0 ≢ table.0 → l2_in pass.header other new ≡ l2_in pass.header other mid
    stays other differs = other-table pass.header table other mid new change.least differs change.outside

    earlier : (k : ℕ) (other : HostCluster) → k < index + 1 → named_cluster pass.header.v2.cluster_bits (slice_index l1 k) ≡ Some other → other.0 ≢ table.0 → k < index
    earlier k other below names differs = elim (cases_lt k index) [
      | inl less ↦ less
      | inr more ↦
          let here : k ≡ index = omega (arith, below, more) in
          let same : Some other ≡ Some table = sym (rw here at names) ∙ change.names in
          absurd (differs (grind (arith, same)))
    ]

-- all are
pub some-all : (pass : FlagPassState) (l1 : List ℕ) (index : ℕ) (old new : Image) → length l1 ≤ index → PassesSome pass l1 index old new → PassesL2 pass l1 old new
some-all pass l1 index old new end so_far = record {
  tables = λ table names. elim (cases_lt names.0 index) [
    | inl less ↦ so_far.passed names.0 table less names.1
    | inr more ↦ absurd (past-none table (rw (get_or_past l1 names.0 0 (omega (arith, end, more))) at names.1))
  ];
  others = so_far.others;
}
  where
    past-none : (table : HostCluster) → named_cluster pass.header.v2.cluster_bits 0 ≡ Some table → ⊥
    past-none table names = grind (arith, nat_tests, names)

-- the write of a table failed
pub some-torn : (pass : FlagPassState) (l1 : List ℕ) (index : ℕ) (table : HostCluster) (fault : Fault) (old mid new : Image) → ChangesTable pass.header l1 index table mid new
    → (fault ≢ Storage → new ≡ mid) → PassesSome pass l1 index old mid → BreaksOffL2 pass l1 fault old new
some-torn pass l1 index table fault old mid new change whole so_far = (
  mid,
  record { tables = so_far.between; others = so_far.others },
  record { whole = whole; torn = inr (table, (index, change.names), change.outside) },
)

-- a table that L1 entries name loads, also after a pass
pub some-loads : (pass : FlagPassState) (l1 : List ℕ) (index : ℕ) (table : HostCluster) (old new : Image) → all_load (geometry_of pass.header) l1 old ≡ Ok tt
    → named_cluster pass.header.v2.cluster_bits (slice_index l1 index) ≡ Some table → PassesSome pass l1 index old new
    → loaded_l2_table (geometry_of pass.header) table new ≡ Ok (l2_in pass.header table new)
some-loads pass l1 index table old new loads names so_far =
    let here = entry-loads (geometry_of pass.header) l1 index old loads in
    let table_loads : result_map (λ _. tt {0}) (loaded_l2_table (geometry_of pass.header) table old) ≡ Ok tt = rw (names, l1_entry_loads) at here in
    elim (so_far.between table (index, names)) [
      | inl same ↦ grind (arith, nat_tests, table_loads, same)
      | inr passed ↦ grind (arith, nat_tests, table_loads, passed, table-valid pass (l2_in pass.header table old))
    ]
