use Rattle.std.proofs.Common.{◌≡◌, ℕ, zero, suc, Bool, true, false, if◌then◌else◌, ◌+◌, ◌-◌, ◌*◌, ◌^◌, ◌<◌, ◌≤◌, All, fold, length, slice_index, take, List, [], ◌∷◌, ◌++◌, Option, Some, None, option_map, option_to_list, inl, inr, refl, sym, subst, ap, ◌∙◌, add-zero, arith}
use Rattle.std.proofs.Math.Nat.{zero-add}
use Rattle.std.proofs.lemmas.Bool.{cases_lt}
use Rattle.std.proofs.lemmas.List.{append-nil, get_or-take, length-take-le, take_all}
use Rattle.std.proofs.lemmas.List.Elements.{All-append, All-cons, All-head, All-nil, All-tail}
use Rattle.std.proofs.lemmas.Nat.{pow_pos}
use Rattle.std.proofs.lemmas.Option.{none-some}
use Rattle.qcow2_base.specs.Format.{most_l1_entries}
use Rattle.qcow2_base.specs.Storage.{Image, OnImage, StorageState}
use Rattle.qcow2_base.specs.declared.types.HostCluster.{HostCluster}
use Rattle.qcow2_metadata.proofs.TableLemmas.{length-table_numbers}
use Rattle.qcow2_metadata.specs.Entries.{is_among}
use Rattle.qcow2_metadata.specs.Entries.L2Entry.{allocation, is_compressed}
use Rattle.qcow2_metadata.specs.Header.{Geometry, geometry_of}
use Rattle.qcow2_metadata.specs.Placed.{numbers_at, offset_of}
use Rattle.qcow2_metadata.specs.Table.{l2_entries, l2_layout}
use Rattle.qcow2_metadata.specs.declared.entries.ClustersToFreeEntry.{ClustersToFreeEntry}
use Rattle.qcow2_check.proofs.RepeatedLemmas.{entries_at, named_earlier, unrepeated_none, unrepeated_some, unrepeated_uses}
use Rattle.qcow2_check.proofs.SinkLemmas.{list_next}
use Rattle.qcow2_check.proofs.UsesLemmas.{guest_fits}
use Rattle.qcow2_check.specs.NamedTables.{named_cluster}
use Rattle.qcow2_check.specs.Repeats.{AreTimesOf, table_names, times_at}
use Rattle.qcow2_check.specs.Tally.{TallyState, cell_at}
use Rattle.qcow2_check.specs.Uses.{ImageTables}
use Rattle.qcow2_check.specs.Walk.{IsOwned, Took, entry_kind, entry_list, guest_list, l1_list, list_from, most_owners, tables_list, unrepeated_list, use_list}
use Rattle.qcow2_check.specs.declared.uses.Use.{Use}
use Rattle.qcow2_check.specs.declared.uses.UseKind.TheVariants.{Compressed, Data}
use Rattle.qcow2_layout.proofs.WindowLemmas.{first-use, used-stays}
use Rattle.qcow2_layout.specs.Parts.{use_in}
use Rattle.qcow2_layout.specs.Window.{PlacesMore, cell_after, cell_of}

-- the first use of a cluster among some uses and others after them
use-before : (first second : List Use) (c : ℕ) (found : Use) → use_in first c ≡ Some found → use_in (first ++ second) c ≡ Some found
use-before [] second c found is = absurd (none-some found is)
use-before (used ∷ first) second c found is = by_use (is_among used.clusters c) refl (λ later. use-before first second c found later)
  where
    by_use : (has : Bool) → is_among used.clusters c ≡ has → (use_in first c ≡ Some found → use_in (first ++ second) c ≡ Some found)
        → use_in ((used ∷ first) ++ second) c ≡ Some found
    by_use true has rest = rw has (rw has at is)
    by_use false has rest = rw has (rest (rw has at is))

use-after : (first second : List Use) (c : ℕ) → use_in first c ≡ None → use_in (first ++ second) c ≡ use_in second c
use-after [] second c none = refl
use-after (used ∷ first) second c none = by_use (is_among used.clusters c) refl (λ later. use-after first second c later)
  where
    by_use : (has : Bool) → is_among used.clusters c ≡ has → (use_in first c ≡ None → use_in (first ++ second) c ≡ use_in second c)
        → use_in ((used ∷ first) ++ second) c ≡ use_in second c
    by_use true has rest = absurd (none-some used (sym (rw has at none)))
    by_use false has rest = rw has (rest (rw has at none))

-- where neither use it, both together don't
neither : (first second : List Use) (c : ℕ) → use_in first c ≡ None → use_in second c ≡ None → use_in (first ++ second) c ≡ None
neither first second c none other = use-after first second c none ∙ other

none-before : (first second : List Use) (c : ℕ) → use_in (first ++ second) c ≡ None → use_in first c ≡ None
none-before first second c none = by_found (use_in first c) refl
  where
    by_found : (found : Option Use) → use_in first c ≡ found → use_in first c ≡ None
    by_found None is = is
    by_found (Some used) is = absurd (none-some used (sym none ∙ use-before first second c used is))

none-after : (first second : List Use) (c : ℕ) → use_in (first ++ second) c ≡ None → use_in second c ≡ None
none-after first second c none = sym (use-after first second c (none-before first second c none)) ∙ none

-- what follows uses doesn't tell, but for the first use of the cluster there
same-before : (first second other : List Use) (c : ℕ) → use_in second c ≡ use_in other c → use_in (first ++ second) c ≡ use_in (first ++ other) c
same-before first second other c same = by_found (use_in first c) refl
  where
    by_found : (found : Option Use) → use_in first c ≡ found → use_in (first ++ second) c ≡ use_in (first ++ other) c
    by_found None is = use-after first second c is ∙ same ∙ sym (use-after first other c is)
    by_found (Some used) is = use-before first second c used is ∙ sym (use-before first other c used is)

same-after : (first other second : List Use) (c : ℕ) → use_in first c ≡ use_in other c → use_in (first ++ second) c ≡ use_in (other ++ second) c
same-after first other second c same = by_found (use_in first c) refl
  where
    by_found : (found : Option Use) → use_in first c ≡ found → use_in (first ++ second) c ≡ use_in (other ++ second) c
    by_found None is = use-after first second c is ∙ sym (use-after other second c (sym same ∙ is))
    by_found (Some used) is = use-before first second c used is ∙ sym (use-before other second c used (sym same ∙ is))

-- uses that come to nothing where those before have the cluster
same-within : (first second : List Use) (c : ℕ) → (use_in first c ≡ None → use_in second c ≡ None) → use_in (first ++ second) c ≡ use_in first c
same-within first second c none = by_found (use_in first c) refl
  where
    by_found : (found : Option Use) → use_in first c ≡ found → use_in (first ++ second) c ≡ use_in first c
    by_found None is = use-after first second c is ∙ none is ∙ sym is
    by_found (Some used) is = use-before first second c used is ∙ sym is

-- what an entry refers to, for any guest cluster
abbrev entry_of : Bool → Option ClustersToFreeEntry → ℕ → ℕ → List Use
entry_of external found guest v = if external then []
    else option_to_list (option_map (λ clusters. record { kind = entry_kind v; clusters = clusters; owner = guest }) found)

entry-none : (external : Bool) (found : Option ClustersToFreeEntry) (guest other v c : ℕ) → use_in (entry_of external found guest v) c ≡ None
    → use_in (entry_of external found other v) c ≡ None
entry-none true found guest other v c none = refl
entry-none false None guest other v c none = refl
entry-none false (Some clusters) guest other v c none = by_use (is_among clusters c) refl
  where
    by_use : (has : Bool) → is_among clusters c ≡ has → use_in (entry_of false (Some clusters) other v) c ≡ None
    by_use true has = absurd (none-some _ (sym (rw has at none)))
    by_use false has = rw has refl

-- so the clusters that a table refers to don't depend on the L1 entry that names it
entries-none : (g : Geometry) (guest other : ℕ) (vs : List ℕ) (c : ℕ) → use_in (list_from (entry_list g) guest vs) c ≡ None
    → use_in (list_from (entry_list g) other vs) c ≡ None
entries-none g guest other [] c none = refl
entries-none g guest other (v ∷ vs) c none =
    let first = entry_list g guest v in
    let rest = list_from (entry_list g) (guest + 1) vs in
    neither (entry_list g other v) (list_from (entry_list g) (other + 1) vs) c
    (entry-none g.external_data_file (allocation g v) guest other v c (none-before first rest c none))
    (entries-none g (guest + 1) (other + 1) vs c (none-after first rest c none))

-- where none of some numbers uses a cluster, each doesn't
none-within : (uses : ℕ → ℕ → List Use) (place : ℕ) (vs : List ℕ) (i c : ℕ) → i < length vs → use_in (list_from uses place vs) c ≡ None
    → use_in (uses (place + i) (slice_index vs i)) c ≡ None
none-within uses place [] i c below none = absurd (omega (arith, below))
none-within uses place (v ∷ vs) zero c below none = rw (add-zero place) (none-before (uses place v) (list_from uses (place + 1) vs) c none)
none-within uses place (v ∷ vs) (suc i) c below none =
    let sum : place + 1 + i ≡ place + suc i = omega arith in
    subst (λ n. use_in (uses n (slice_index vs i)) c ≡ None) sum
    (none-within uses (place + 1) vs i c (omega (arith, below)) (none-after (uses place v) (list_from uses (place + 1) vs) c none))

module _ (g : Geometry) (image : Image) (l1 times : List ℕ) (are : AreTimesOf (table_names l1) times) (c : ℕ) where
  -- a table that counts before refers to no cluster that no entry before it refers to
  again-none : (index : ℕ) → index < length l1 → times_at times index ≡ 0 → use_in (list_from (l1_list g image) 0 (take index l1)) c ≡ None
      → use_in (l1_list g image index (slice_index l1 index)) c ≡ None
  again-none index below again none = by_name (named_cluster g.cluster_bits (slice_index l1 index)) refl
    where
      by_name : (found : Option HostCluster) → named_cluster g.cluster_bits (slice_index l1 index) ≡ found
          → use_in (l1_list g image index (slice_index l1 index)) c ≡ None
      by_name None unnamed = ap (λ found. use_in (entries_at g image index found) c) unnamed
      by_name (Some cluster) named =
          let earlier = named_earlier g.cluster_bits l1 times index cluster below are again named in
          let within : earlier.0 < length (take index l1) = omega (arith, earlier.1, length-take-le index l1 (omega (arith, below))) in
          let there : slice_index (take index l1) earlier.0 ≡ slice_index l1 earlier.0 = get_or-take index l1 earlier.0 0 earlier.1 in
          let before : use_in (l1_list g image (0 + earlier.0) (slice_index l1 earlier.0)) c ≡ None =
          subst (λ w. use_in (l1_list g image (0 + earlier.0) w) c ≡ None) there
          (none-within (l1_list g image) 0 (take index l1) earlier.0 c within none) in
          let table : use_in (entries_at g image (0 + earlier.0) (Some cluster)) c ≡ None =
          sym (ap (λ found. use_in (entries_at g image (0 + earlier.0) found) c) earlier.2) ∙ before in
          ap (λ found. use_in (entries_at g image index found) c) named
          ∙ entries-none g ((0 + earlier.0) * l2_entries g.cluster_bits) (index * l2_entries g.cluster_bits) (numbers_at (l2_layout g) cluster image) c table

  -- so the first use of a cluster stays where such tables are left out
  first-stays : (index : ℕ) → index ≤ length l1
      → use_in (list_from (unrepeated_uses g times image) 0 (take index l1)) c ≡ use_in (list_from (l1_list g image) 0 (take index l1)) c
  first-stays zero within = refl
  first-stays (suc index) within =
      let below : index < length l1 = omega (arith, within) in
      let sum : suc index ≡ index + 1 = omega arith in
      let v = slice_index l1 index in
      let once = list_from (unrepeated_uses g times image) 0 (take index l1) in
      let all = list_from (l1_list g image) 0 (take index l1) in
      let so_far : use_in once c ≡ use_in all c = first-stays index (omega (arith, within)) in
      let next-once : list_from (unrepeated_uses g times image) 0 (take (suc index) l1) ≡ once ++ unrepeated_uses g times image index v =
      ap (λ n. list_from (unrepeated_uses g times image) 0 (take n l1)) sum ∙ list_next (unrepeated_uses g times image) 0 l1 index below
      ∙ ap (λ n. once ++ unrepeated_uses g times image n v) (zero-add index) in
      let next-all : list_from (l1_list g image) 0 (take (suc index) l1) ≡ all ++ l1_list g image index v =
      ap (λ n. list_from (l1_list g image) 0 (take n l1)) sum ∙ list_next (l1_list g image) 0 l1 index below
      ∙ ap (λ n. all ++ l1_list g image n v) (zero-add index) in
      let step : use_in (once ++ unrepeated_uses g times image index v) c ≡ use_in (all ++ l1_list g image index v) c = elim (cases_lt 0 (times_at times index)) [
        | inl counts ↦
            ap (λ us. use_in (once ++ us) c) (unrepeated_some g times image index v counts) ∙ same-after once all (l1_list g image index v) c so_far
        | inr again ↦
            let none : times_at times index ≡ 0 = omega (arith, again) in
            ap (λ us. use_in (once ++ us) c) (unrepeated_none g times image index v none) ∙ ap (λ us. use_in us c) (append-nil once) ∙ so_far
            ∙ sym (same-within all (l1_list g image index v) c (again-none index below none))
      ] in
      ap (λ us. use_in us c) next-once ∙ step ∙ sym (ap (λ us. use_in us c) next-all)

-- and so in all that an image uses
uses-stay : (tables : ImageTables) (times : List ℕ) (image : Image) (c : ℕ) → AreTimesOf (table_names tables.l1) times
    → use_in (tables_list tables ++ unrepeated_list tables times image) c ≡ use_in (use_list tables image) c
uses-stay tables times image c are =
    let g = geometry_of tables.header in
    let all : take (length tables.l1) tables.l1 ≡ tables.l1 = take_all (length tables.l1) tables.l1 (omega arith) in
    same-before (tables_list tables) (unrepeated_list tables times image) (guest_list tables image) c
    (subst (λ l1. use_in (list_from (unrepeated_uses g times image) 0 l1) c ≡ use_in (list_from (l1_list g image) 0 l1) c) all
    (first-stays g image tables.l1 times are c (length tables.l1) (omega arith)))

-- uses of which the first that has a cluster is the same give the same cell
same-cell : (c cell : ℕ) (uses others : List Use) → use_in uses c ≡ use_in others c → fold (cell_after c) cell uses ≡ fold (cell_after c) cell others
same-cell c cell uses others same = elim (cases_lt 0 cell) [
  | inl some ↦ used-stays uses c cell some ∙ sym (used-stays others c cell some)
  | inr none ↦
      let zero_cell : cell ≡ 0 = omega (arith, none) in
      rw zero_cell (first-use uses c ∙ ap (λ found. cell_of found) same ∙ sym (first-use others c))
]

-- the owners of what entries refer to are guest clusters
guest-owners : (compressed : Bool) → most_owners (if compressed then Compressed else Data) ≡ 2 ^ 40
guest-owners true = refl
guest-owners false = refl

entry-owned : (external : Bool) (found : Option ClustersToFreeEntry) (guest v : ℕ) → guest < 2 ^ 40 → All IsOwned (entry_of external found guest v)
entry-owned true found guest v fits = All-nil IsOwned
entry-owned false None guest v fits = All-nil IsOwned
entry-owned false (Some clusters) guest v fits =
    All-cons IsOwned (record { kind = entry_kind v; clusters = clusters; owner = guest }) [] (subst (λ n. guest < n) (sym (guest-owners (is_compressed v))) fits)
    (All-nil IsOwned)

entries-owned : (g : Geometry) (guest : ℕ) (vs : List ℕ) → guest + length vs ≤ 2 ^ 40 → All IsOwned (list_from (entry_list g) guest vs)
entries-owned g guest [] fit = All-nil IsOwned
entries-owned g guest (v ∷ vs) fit =
    All-append IsOwned (entry_list g guest v) (list_from (entry_list g) (guest + 1) vs)
    (entry-owned g.external_data_file (allocation g v) guest v (omega (arith, fit)))
    (entries-owned g (guest + 1) vs (omega (arith, fit)))

table-owned : (g : Geometry) (image : Image) (index : ℕ) (found : Option HostCluster) → g.cluster_bits ≤ 21 → index < most_l1_entries
    → All IsOwned (entries_at g image index found)
table-owned g image index None small below = All-nil IsOwned
table-owned g image index (Some cluster) small below =
    let numbers = numbers_at (l2_layout g) cluster image in
    let count : length numbers ≡ l2_entries g.cluster_bits = length-table_numbers image (offset_of (l2_layout g) cluster) (l2_entries g.cluster_bits) in
    let some : 0 < 2 ^ (g.cluster_bits - 3) = pow_pos (g.cluster_bits - 3) in
    let last = guest_fits g.cluster_bits index (2 ^ (g.cluster_bits - 3) - 1) small below (omega (arith, some)) in
    entries-owned g (index * l2_entries g.cluster_bits) numbers (omega (arith, count, some, last))

guest-owned : (g : Geometry) (image : Image) (place : ℕ) (vs : List ℕ) → g.cluster_bits ≤ 21 → place + length vs ≤ most_l1_entries
    → All IsOwned (list_from (l1_list g image) place vs)
guest-owned g image place [] small fit = All-nil IsOwned
guest-owned g image place (v ∷ vs) small fit =
    All-append IsOwned (l1_list g image place v) (list_from (l1_list g image) (place + 1) vs)
    (table-owned g image place (named_cluster g.cluster_bits v) small (omega (arith, fit)))
    (guest-owned g image (place + 1) vs small (omega (arith, fit)))

-- some uses of which each has its owner, among more
first-owned-of : (first second : List Use) → All IsOwned (first ++ second) → All IsOwned first
first-owned-of [] second owned = All-nil IsOwned
first-owned-of (used ∷ first) second owned =
    All-cons IsOwned used first (All-head IsOwned used (first ++ second) owned) (first-owned-of first second (All-tail IsOwned used (first ++ second) owned))

-- so cells don't tell whether each table was placed at each entry that names it, or only at the first
pub placed_once : (tables : ImageTables) (times : List ℕ) (image : StorageState) (old new : TallyState) → tables.header.v2.cluster_bits ≤ 21
    → length tables.l1 ≤ most_l1_entries → AreTimesOf (table_names tables.l1) times
    → Took PlacesMore image (λ bytes. tables_list tables ++ unrepeated_list tables times bytes) old new
    → OnImage image (λ bytes. PlacesMore (use_list tables bytes) old new)
placed_once tables times image old new small few are took = λ told.
    let once = tables_list tables ++ unrepeated_list tables times image.byte_at in
    let placed : PlacesMore once old new = subst (λ uses. PlacesMore uses old new) (took.known told) took.taken in
    let all = use_list tables image.byte_at in
    record {
      owned = All-append IsOwned (tables_list tables) (guest_list tables image.byte_at)
          (first-owned-of (tables_list tables) (unrepeated_list tables times image.byte_at) placed.owned)
          (guest-owned (geometry_of tables.header) image.byte_at 0 tables.l1 small (omega (arith, few)));
      first = placed.first;
      end = placed.end;
      cells = λ c from before. placed.cells c from before ∙ same-cell c (cell_at old c) once all (uses-stay tables times image.byte_at c are);
    }
