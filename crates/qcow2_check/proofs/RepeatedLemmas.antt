use Rattle.std.proofs.Common.{◌≡◌, ℕ, zero, suc, Bool, true, false, if◌then◌else◌, ◌==◌, ◌+◌, ◌*◌, ◌<◌, List, [], ◌∷◌, ◌++◌, flat_map, length, map, slice_index, take, Some, None, Option, OnOk, Result, Ok, Err, inl, inr, refl, subst, sym, ◌∙◌, ap, arith}
use Rattle.std.proofs.lemmas.Bool.{cases_eq}
use Rattle.std.proofs.lemmas.Bool.Decides.{nat_tests}
use Rattle.std.proofs.lemmas.List.{get_or-take, length-map, length-take-le, map-append}
use Rattle.std.proofs.lemmas.List.Sums.{sum_by-append, sum_by-cons}
use Rattle.std.proofs.lemmas.Option.{none-some}
use Rattle.std.specs.List.{fold, sum_by}
use Rattle.qcow2_base.specs.Storage.{Image, OnImage, StorageState}
use Rattle.qcow2_base.specs.declared.fault.Fault.{Fault}
use Rattle.qcow2_metadata.specs.Entries.{is_among, offset_field}
use Rattle.qcow2_metadata.specs.Header.{Geometry, geometry_of}
use Rattle.qcow2_base.specs.declared.types.HostCluster.{HostCluster}
use Rattle.qcow2_metadata.specs.Placed.{IsLoaded, numbers_at}
use Rattle.qcow2_metadata.specs.Results.{result_map}
use Rattle.qcow2_metadata.specs.Table.{TableState, l2_layout, loaded_l2_table}
use Rattle.qcow2_check.proofs.CountingLemmas.{counted_entries, counted_l1, guest_uses, kinds_commute, same_counts}
use Rattle.qcow2_check.proofs.FindingsLemmas.{kind-cons}
use Rattle.qcow2_check.proofs.FlagsLemmas.{loads_each}
use Rattle.qcow2_check.proofs.RepeatsLemmas.{again_where, name_at}
use Rattle.qcow2_check.proofs.UsesLemmas.{all_load_more, loaded, no_entry_uses, take_more}
use Rattle.qcow2_check.proofs.TallyLemmas.{nothing_counts}
use Rattle.qcow2_check.specs.Findings.{uses_of_kind}
use Rattle.qcow2_check.specs.NamedTables.{cluster_unless_zero, named_cluster}
use Rattle.qcow2_check.specs.Repeats.{AreTimesOf, table_names, times_at, worth_from}
use Rattle.qcow2_check.specs.Tally.{ClusterUse, CountsMore, TallyState, cell_at, cell_with, repetition, with_use, with_uses}
use Rattle.qcow2_check.specs.Uses.{ImageTables, all_load, entry_uses, image_uses, l1_entry_loads}
use Rattle.qcow2_check.specs.Walk.{CountsUses, Took, counted_use, entries_list, guest_list, l1_list, list_from, repeated_list, tables_list, use_list}
use Rattle.qcow2_check.specs.declared.tally.TallyKind.{TallyKind}
use Rattle.qcow2_check.specs.declared.tally.TallyKind.TheVariants.{Fixed, Guest, L2Table}
use Rattle.qcow2_check.specs.declared.uses.Use.{Use}

-- several uses of a kind, and one of any other, in either order
one_commutes : (many one : TallyKind) (times cell : ℕ) → with_uses many times (with_use one cell) ≡ with_use one (with_uses many times cell)
one_commutes many one zero cell = refl
one_commutes many one (suc times) cell =
    ap (λ x. with_uses many times x) (kinds_commute many one cell) ∙ one_commutes many one times (with_use many cell)

-- one use more
one_more : (kind : TallyKind) (times cell : ℕ) → with_uses kind (1 + times) cell ≡ with_use kind (with_uses kind times cell)
one_more kind times cell =
    let same : 1 + times ≡ suc times = omega arith in
    ap (λ n. with_uses kind n cell) same ∙ one_commutes kind kind times cell

-- the cell that counts that many uses of each kind more
abbrev with_kinds : ℕ → ℕ → ℕ → ℕ → ℕ
with_kinds fixed tables guest cell = with_uses Guest guest (with_uses L2Table tables (with_uses Fixed fixed cell))

same_kinds : (fixed tables guest more_fixed more_tables more_guest cell : ℕ) → fixed ≡ more_fixed → tables ≡ more_tables → guest ≡ more_guest
    → with_kinds fixed tables guest cell ≡ with_kinds more_fixed more_tables more_guest cell
same_kinds fixed tables guest more_fixed more_tables more_guest cell one two three =
    ap (λ n. with_kinds n tables guest cell) one ∙ ap (λ n. with_kinds more_fixed n guest cell) two ∙ ap (λ n. with_kinds more_fixed more_tables n cell) three

-- what uses add to a cell, by how many there are of each kind
pub by_kinds : (c cell : ℕ) (uses : List ClusterUse)
    → fold (cell_with c) cell uses ≡ with_kinds (uses_of_kind Fixed uses c) (uses_of_kind L2Table uses c) (uses_of_kind Guest uses c) cell
by_kinds c cell [] = refl
by_kinds c cell (used ∷ uses) = by_case (λ more. by_kinds c more uses) used.kind refl (is_among used.clusters c) refl
  where
    by_case : ((more : ℕ) → fold (cell_with c) more uses ≡ with_kinds (uses_of_kind Fixed uses c) (uses_of_kind L2Table uses c) (uses_of_kind Guest uses c) more)
        → (kind : TallyKind) → used.kind ≡ kind → (among : Bool) → is_among used.clusters c ≡ among
        → fold (cell_with c) cell (used ∷ uses)
        ≡ with_kinds (uses_of_kind Fixed (used ∷ uses) c) (uses_of_kind L2Table (used ∷ uses) c) (uses_of_kind Guest (used ∷ uses) c) cell
    by_case rest kind is false in_it =
        ap (λ test. fold (cell_with c) (if test then with_use used.kind cell else cell) uses) in_it ∙ rest cell
        ∙ same_kinds (uses_of_kind Fixed uses c) (uses_of_kind L2Table uses c) (uses_of_kind Guest uses c) (uses_of_kind Fixed (used ∷ uses) c)
        (uses_of_kind L2Table (used ∷ uses) c) (uses_of_kind Guest (used ∷ uses) c) cell (sym (out Fixed)) (sym (out L2Table)) (sym (out Guest))
      where
        out : (other : TallyKind) → uses_of_kind other (used ∷ uses) c ≡ uses_of_kind other uses c
        out other = kind-cons other used uses c ∙ grind (arith, nat_tests, in_it)
    by_case rest Fixed is true in_it =
        let f = uses_of_kind Fixed uses c in
        let t = uses_of_kind L2Table uses c in
        let g = uses_of_kind Guest uses c in
        let fixed : 1 + f ≡ uses_of_kind Fixed (used ∷ uses) c = grind (arith, nat_tests, is, in_it, kind-cons Fixed used uses c) in
        let tables : t ≡ uses_of_kind L2Table (used ∷ uses) c = grind (arith, nat_tests, is, in_it, kind-cons L2Table used uses c) in
        let guest : g ≡ uses_of_kind Guest (used ∷ uses) c = grind (arith, nat_tests, is, in_it, kind-cons Guest used uses c) in
        ap (λ test. fold (cell_with c) (if test then with_use used.kind cell else cell) uses) in_it
        ∙ ap (λ kind. fold (cell_with c) (with_use kind cell) uses) is ∙ rest (with_use Fixed cell)
        ∙ ap (λ x. with_uses Guest g (with_uses L2Table t x)) (one_commutes Fixed Fixed f cell ∙ sym (one_more Fixed f cell))
        ∙ same_kinds (1 + f) (t) (g) (uses_of_kind Fixed (used ∷ uses) c) (uses_of_kind L2Table (used ∷ uses) c) (uses_of_kind Guest (used ∷ uses) c) cell fixed tables guest
    by_case rest L2Table is true in_it =
        let f = uses_of_kind Fixed uses c in
        let t = uses_of_kind L2Table uses c in
        let g = uses_of_kind Guest uses c in
        let fixed : f ≡ uses_of_kind Fixed (used ∷ uses) c = grind (arith, nat_tests, is, in_it, kind-cons Fixed used uses c) in
        let tables : 1 + t ≡ uses_of_kind L2Table (used ∷ uses) c = grind (arith, nat_tests, is, in_it, kind-cons L2Table used uses c) in
        let guest : g ≡ uses_of_kind Guest (used ∷ uses) c = grind (arith, nat_tests, is, in_it, kind-cons Guest used uses c) in
        ap (λ test. fold (cell_with c) (if test then with_use used.kind cell else cell) uses) in_it
        ∙ ap (λ kind. fold (cell_with c) (with_use kind cell) uses) is ∙ rest (with_use L2Table cell)
        ∙ ap (λ x. with_uses Guest g (with_uses L2Table t x)) (one_commutes Fixed L2Table f cell)
        ∙ ap (λ x. with_uses Guest g x) (one_commutes L2Table L2Table t (with_uses Fixed f cell) ∙ sym (one_more L2Table t (with_uses Fixed f cell)))
        ∙ same_kinds (f) (1 + t) (g) (uses_of_kind Fixed (used ∷ uses) c) (uses_of_kind L2Table (used ∷ uses) c) (uses_of_kind Guest (used ∷ uses) c) cell fixed tables guest
    by_case rest Guest is true in_it =
        let f = uses_of_kind Fixed uses c in
        let t = uses_of_kind L2Table uses c in
        let g = uses_of_kind Guest uses c in
        let fixed : f ≡ uses_of_kind Fixed (used ∷ uses) c = grind (arith, nat_tests, is, in_it, kind-cons Fixed used uses c) in
        let tables : t ≡ uses_of_kind L2Table (used ∷ uses) c = grind (arith, nat_tests, is, in_it, kind-cons L2Table used uses c) in
        let guest : 1 + g ≡ uses_of_kind Guest (used ∷ uses) c = grind (arith, nat_tests, is, in_it, kind-cons Guest used uses c) in
        ap (λ test. fold (cell_with c) (if test then with_use used.kind cell else cell) uses) in_it
        ∙ ap (λ kind. fold (cell_with c) (with_use kind cell) uses) is ∙ rest (with_use Guest cell)
        ∙ ap (λ x. with_uses Guest g (with_uses L2Table t x)) (one_commutes Fixed Guest f cell)
        ∙ ap (λ x. with_uses Guest g x) (one_commutes L2Table Guest t (with_uses Fixed f cell))
        ∙ one_commutes Guest Guest g (with_uses L2Table t (with_uses Fixed f cell)) ∙ sym (one_more Guest g (with_uses L2Table t (with_uses Fixed f cell)))
        ∙ same_kinds (f) (t) (1 + g) (uses_of_kind Fixed (used ∷ uses) c) (uses_of_kind L2Table (used ∷ uses) c) (uses_of_kind Guest (used ∷ uses) c) cell fixed tables guest

-- uses of which there are as many of each kind count the same
pub same_uses : (c cell : ℕ) (uses others : List ClusterUse) → ((kind : TallyKind) → uses_of_kind kind uses c ≡ uses_of_kind kind others c)
    → fold (cell_with c) cell uses ≡ fold (cell_with c) cell others
same_uses c cell uses others same =
    by_kinds c cell uses ∙ same_kinds (uses_of_kind Fixed uses c) (uses_of_kind L2Table uses c) (uses_of_kind Guest uses c)
    (uses_of_kind Fixed others c) (uses_of_kind L2Table others c) (uses_of_kind Guest others c) cell (same Fixed) (same L2Table) (same Guest)
    ∙ sym (by_kinds c cell others)

kind-append : (kind : TallyKind) (uses others : List ClusterUse) (c : ℕ) → uses_of_kind kind (uses ++ others) c ≡ uses_of_kind kind uses c + uses_of_kind kind others c
kind-append kind uses others c = sum_by-append _ uses others

-- how many uses there are that many times over
repeated_kinds : (kind : TallyKind) (times : ℕ) (uses : List ClusterUse) (c : ℕ) → uses_of_kind kind (repetition times uses) c ≡ times * uses_of_kind kind uses c
repeated_kinds kind zero uses c = grind arith
repeated_kinds kind (suc times) uses c =
    let more = repeated_kinds kind times uses c in
    kind-append kind uses (repetition times uses) c ∙ grind (arith, more)

times_add : (times a b : ℕ) → times * (a + b) ≡ times * a + times * b
times_add zero a b = grind arith
times_add (suc times) a b = let more = times_add times a b in grind (arith, more)

-- uses that many times over, one after another or all of them at once
flat_repeated : {X : Type 0} (kind : TallyKind) (f : X → List ClusterUse) (times : ℕ) (xs : List X) (c : ℕ)
    → uses_of_kind kind (flat_map (λ x. repetition times (f x)) xs) c ≡ times * uses_of_kind kind (flat_map f xs) c
flat_repeated kind f times [] c = grind arith
flat_repeated kind f times (x ∷ xs) c =
    let first = repeated_kinds kind times (f x) c in
    let rest = flat_repeated kind f times xs c in
    let sum = times_add times (uses_of_kind kind (f x) c) (uses_of_kind kind (flat_map f xs) c) in
    let product : times * uses_of_kind kind (f x ++ flat_map f xs) c ≡ times * (uses_of_kind kind (f x) c + uses_of_kind kind (flat_map f xs) c) =
    ap (λ n. times * n) (kind-append kind (f x) (flat_map f xs) c) in
    kind-append kind (repetition times (f x)) (flat_map (λ x. repetition times (f x)) xs) c ∙ grind (arith, first, rest) ∙ sym sum ∙ sym product

pub repeated_together : {X : Type 0} (f : X → List ClusterUse) (times : ℕ) (xs : List X) (a b : TallyState)
    → CountsMore (flat_map (λ x. repetition times (f x)) xs) a b → CountsMore (repetition times (flat_map f xs)) a b
repeated_together f times xs a b counts = record {
  first = counts.first;
  end = counts.end;
  cells = λ c from before. counts.cells c from before ∙ same_uses c (cell_at a c) (flat_map (λ x. repetition times (f x)) xs) (repetition times (flat_map f xs))
      (λ kind. flat_repeated kind f times xs c ∙ sym (repeated_kinds kind times (flat_map f xs) c));
}

-- no entry uses clusters of an image whose guest data lies in an external data file, however often
pub no_repeated_uses : (g : Geometry) (numbers : List ℕ) (times : ℕ) (tally : TallyState) → g.external_data_file ≡ true
    → CountsMore (repetition times (flat_map (entry_uses g) numbers)) tally tally
no_repeated_uses g numbers times tally external = rw (no_entry_uses g numbers external) (nothing_counts times tally)

-- uses that many times over, as a tally counts them
counted_repeated : (times : ℕ) (uses : List Use) → map counted_use (repetition times uses) ≡ repetition times (map counted_use uses)
counted_repeated zero uses = refl
counted_repeated (suc times) uses =
    map-append counted_use uses (repetition times uses) ∙ ap (λ us. map counted_use uses ++ us) (counted_repeated times uses)

-- what the entries refer to of a table that an L1 entry may name
abbrev pub entries_at : Geometry → Image → ℕ → Option HostCluster → List Use
entries_at g image index named = elim named [
  | None ↦ []
  | Some cluster ↦ entries_list g index (numbers_at (l2_layout g) cluster image)
]

-- what the entries of an L2 table refer to that was loaded
pub took_repeated : (answer : Result (Unit {0}) Fault) (image : StorageState) (g : Geometry) (index v times : ℕ) (cluster : HostCluster) (table : TableState)
    (a b : TallyState) → IsLoaded (l2_layout g) g cluster image table → named_cluster g.cluster_bits v ≡ Some cluster
    → OnOk answer (CountsMore (repetition times (flat_map (entry_uses table.geometry) table.numbers)) a b)
    → OnOk answer (Took CountsUses image (λ bytes. repetition times (l1_list g bytes index v)) a b)
took_repeated (Ok done) image g index v times cluster table a b is_loaded named counts = record {
  uses = repetition times (entries_list g index table.numbers);
  taken =
      let uses : map counted_use (repetition times (entries_list g index table.numbers)) ≡ repetition times (flat_map (entry_uses g) table.numbers) =
      counted_repeated times (entries_list g index table.numbers) ∙ ap (λ us. repetition times us) (counted_entries g index table.numbers) in
      subst (λ us. CountsMore us a b) (sym uses) (subst (λ geometry. CountsMore (repetition times (flat_map (entry_uses geometry) table.numbers)) a b) is_loaded.geometry counts);
  known = λ told. ap (λ numbers. repetition times (entries_list g index numbers)) (is_loaded.numbers told)
      ∙ sym (ap (λ found. repetition times (entries_at g image.byte_at index found)) named);
}
took_repeated (Err fault) image g index v times cluster table a b is_loaded named counts = tt

-- nothing where no table is named
pub took_nothing : (image : StorageState) (g : Geometry) (index v times : ℕ) (a : TallyState) → named_cluster g.cluster_bits v ≡ None
    → Took CountsUses image (λ bytes. repetition times (l1_list g bytes index v)) a a
took_nothing image g index v times a none = record {
  uses = [];
  taken = record { first = refl; end = omega arith; cells = λ c from before. refl };
  known = λ told. sym (ap (λ found. repetition times (entries_at g image.byte_at index found)) none ∙ nothing times);
}
  where
    nothing : (times : ℕ) → repetition {Used = Use} times [] ≡ []
    nothing zero = refl
    nothing (suc times) = nothing times

-- an L1 entry that names a table has an offset
some_offset : (cb v : ℕ) → (named_cluster cb v ≡ None → ⊥) → 0 < offset_field v
some_offset cb v named = elim (cases_eq (offset_field v) 0) [
  | inl none ↦ absurd (named (grind (arith, nat_tests, none)))
  | inr some ↦ omega (arith, some)
]

-- whether the table can be loaded that is found
abbrev loads_found : Geometry → Image → Option HostCluster → Result (Unit {0}) Fault
loads_found g image found = elim found [
  | None ↦ Ok tt
  | Some cluster ↦ result_map (λ _. tt) (loaded_l2_table g cluster image)
]

-- a table that counts before is named by an entry before
pub named_earlier : (cb : ℕ) (l1 times : List ℕ) (index : ℕ) (cluster : HostCluster) → index < length l1 → AreTimesOf (table_names l1) times
    → times_at times index ≡ 0 → named_cluster cb (slice_index l1 index) ≡ Some cluster
    → (earlier : ℕ) × (earlier < index) × (named_cluster cb (slice_index l1 earlier) ≡ Some cluster)
named_earlier cb l1 times index cluster below are none named =
    let names = table_names l1 in
    let inside : index < length names = omega (arith, below, length-map l1 offset_field) in
    let here = name_at l1 index below in
    let some : 0 < slice_index names index = rw here (some_offset cb (slice_index l1 index) (λ unnamed. none-some cluster (sym unnamed ∙ named))) in
    let earlier = again_where names index inside ((are.again index inside some).0 none) in
    let same : offset_field (slice_index l1 earlier.0) ≡ offset_field (slice_index l1 index) =
    sym (name_at l1 earlier.0 (omega (arith, earlier.1, below))) ∙ earlier.2 ∙ here in
    (earlier.0, earlier.1, ap (λ offset. cluster_unless_zero cb offset) same ∙ named)

-- where the tables of the first L1 entries can be loaded, so can that of the next, if it counts before or names none
pub loads_again : (g : Geometry) (image : Image) (l1 times : List ℕ) (index : ℕ) → index < length l1 → AreTimesOf (table_names l1) times
    → times_at times index ≡ 0 → all_load g (take index l1) image ≡ loaded → all_load g (take (index + 1) l1) image ≡ loaded
loads_again g image l1 times index below are none so_far =
    rw (take_more l1 index 0 below, all_load_more g image (take index l1) (slice_index l1 index), so_far) (by_name (named_cluster g.cluster_bits (slice_index l1 index)) refl)
  where
    by_name : (found : Option HostCluster) → named_cluster g.cluster_bits (slice_index l1 index) ≡ found → l1_entry_loads g image (slice_index l1 index) ≡ loaded
    by_name None unnamed = ap (λ found. loads_found g image found) unnamed
    by_name (Some cluster) named =
        let earlier = named_earlier g.cluster_bits l1 times index cluster below are none named in
        let within : earlier.0 < length (take index l1) = omega (arith, earlier.1, length-take-le index l1 (omega (arith, below))) in
        let there : slice_index (take index l1) earlier.0 ≡ slice_index l1 earlier.0 = get_or-take index l1 earlier.0 0 earlier.1 in
        let before : l1_entry_loads g image (slice_index l1 earlier.0) ≡ loaded =
        subst (λ w. l1_entry_loads g image w ≡ loaded) there (loads_each g image (take index l1) earlier.0 within so_far) in
        ap (λ found. loads_found g image found) (named ∙ sym earlier.2) ∙ before

-- what the L2 table of an L1 entry refers to, as often as it counts
abbrev pub repeated_uses : Geometry → List ℕ → Image → ℕ → ℕ → List Use
repeated_uses g times image index v = repetition (times_at times index) (l1_list g image index v)

-- the same, once at most
abbrev pub unrepeated_uses : Geometry → List ℕ → Image → ℕ → ℕ → List Use
unrepeated_uses g times image index v = if times_at times index == 0 then [] else l1_list g image index v

-- that is nothing where it counts 0 times, and else all
pub unrepeated_none : (g : Geometry) (times : List ℕ) (image : Image) (index v : ℕ) → times_at times index ≡ 0 → unrepeated_uses g times image index v ≡ []
unrepeated_none g times image index v none = ap (λ n. if n == 0 then [] else l1_list g image index v) none

pub unrepeated_some : (g : Geometry) (times : List ℕ) (image : Image) (index v : ℕ) → 0 < times_at times index
    → unrepeated_uses g times image index v ≡ l1_list g image index v
unrepeated_some g times image index v some =
    let counts : times_at times index == 0 ≡ false = grind (arith, nat_tests, some) in
    ap (λ test. if test then [] else l1_list g image index v) counts

-- so a sink that took all of it took that
pub taken_unrepeated : {Sink : Type 0} (takes : List Use → Sink → Sink → Type 0) (answer : Result (Unit {0}) Fault) (image : StorageState) (g : Geometry)
    (times : List ℕ) (index v : ℕ) (a b : Sink) → 0 < times_at times index
    → OnOk answer (Took takes image (λ bytes. l1_list g bytes index v) a b) → OnOk answer (Took takes image (λ bytes. unrepeated_uses g times bytes index v) a b)
taken_unrepeated takes (Ok done) image g times index v a b some took = record {
  uses = took.uses;
  taken = took.taken;
  known = λ told. took.known told ∙ sym (unrepeated_some g times image.byte_at index v some);
}
taken_unrepeated takes (Err fault) image g times index v a b some took = tt

-- how many of what the table at an offset refers to are uses of a cluster of a kind
abbrev worth_at : Geometry → Image → TallyKind → ℕ → ℕ → ℕ
worth_at g image kind c offset = uses_of_kind kind (elim (cluster_unless_zero g.cluster_bits offset) [
  | None ↦ []
  | Some cluster ↦ flat_map (entry_uses g) (numbers_at (l2_layout g) cluster image)
]) c

-- those of the tables that L1 entries name, each as often as it counts
repeated_worth : (g : Geometry) (image : Image) (kind : TallyKind) (c : ℕ) (times : ℕ → ℕ) (place : ℕ) (vs : List ℕ)
    → uses_of_kind kind (map counted_use (list_from (λ i v. repetition (times i) (l1_list g image i v)) place vs)) c
    ≡ worth_from times (worth_at g image kind c) place (table_names vs)
repeated_worth g image kind c times place [] = refl
repeated_worth g image kind c times place (v ∷ vs) =
    let one = repetition (times place) (l1_list g image place v) in
    let rest = list_from (λ i w. repetition (times i) (l1_list g image i w)) (place + 1) vs in
    let here : uses_of_kind kind (map counted_use one) c ≡ times place * worth_at g image kind c (offset_field v) =
    ap (λ us. uses_of_kind kind us c) (counted_repeated (times place) (l1_list g image place v) ∙ ap (λ us. repetition (times place) us) (counted_l1 g image place v))
    ∙ repeated_kinds kind (times place) (guest_uses g image v) c in
    ap (λ us. uses_of_kind kind us c) (map-append counted_use one rest) ∙ kind-append kind (map counted_use one) (map counted_use rest) c
    ∙ ap (λ n. n + uses_of_kind kind (map counted_use rest) c) here
    ∙ ap (λ n. times place * worth_at g image kind c (offset_field v) + n) (repeated_worth g image kind c times (place + 1) vs)

-- and each once
plain_worth : (g : Geometry) (image : Image) (kind : TallyKind) (c place : ℕ) (vs : List ℕ)
    → uses_of_kind kind (map counted_use (list_from (l1_list g image) place vs)) c ≡ sum_by (worth_at g image kind c) (table_names vs)
plain_worth g image kind c place [] = refl
plain_worth g image kind c place (v ∷ vs) =
    let one = l1_list g image place v in
    let rest = list_from (l1_list g image) (place + 1) vs in
    ap (λ us. uses_of_kind kind us c) (map-append counted_use one rest) ∙ kind-append kind (map counted_use one) (map counted_use rest) c
    ∙ ap (λ n. n + uses_of_kind kind (map counted_use rest) c) (ap (λ us. uses_of_kind kind us c) (counted_l1 g image place v))
    ∙ ap (λ n. worth_at g image kind c (offset_field v) + n) (plain_worth g image kind c (place + 1) vs)
    ∙ sym (sum_by-cons (worth_at g image kind c) (offset_field v) (table_names vs))

-- so a tally doesn't tell whether each table is counted at each entry that names it, or as often at the first
pub same_repeated : (c cell : ℕ) (tables : ImageTables) (times : List ℕ) (image : Image) → AreTimesOf (table_names tables.l1) times
    → fold (cell_with c) cell (map counted_use (tables_list tables ++ repeated_list tables times image))
    ≡ fold (cell_with c) cell (map counted_use (use_list tables image))
same_repeated c cell tables times image are =
    let own = tables_list tables in
    let repeats = repeated_list tables times image in
    let guest = guest_list tables image in
    same_uses c cell (map counted_use (own ++ repeats)) (map counted_use (own ++ guest)) (λ kind.
    let g = geometry_of tables.header in
    let same : uses_of_kind kind (map counted_use repeats) c ≡ uses_of_kind kind (map counted_use guest) c =
    repeated_worth g image kind c (times_at times) 0 tables.l1 ∙ are.worth (worth_at g image kind c) ∙ sym (plain_worth g image kind c 0 tables.l1) in
    ap (λ us. uses_of_kind kind us c) (map-append counted_use own repeats) ∙ kind-append kind (map counted_use own) (map counted_use repeats) c
    ∙ ap (λ n. uses_of_kind kind (map counted_use own) c + n) same
    ∙ sym (ap (λ us. uses_of_kind kind us c) (map-append counted_use own guest) ∙ kind-append kind (map counted_use own) (map counted_use guest) c))

-- what a tally that took them counts
pub counted_all : (answer : Result (Unit {0}) Fault) (state : StorageState) (tables : ImageTables) (times : List ℕ) (old new : TallyState)
    → AreTimesOf (table_names tables.l1) times
    → OnOk answer (Took CountsUses state (λ bytes. tables_list tables ++ repeated_list tables times bytes) old new)
    → OnOk answer (OnImage state (λ bytes. CountsMore (image_uses tables bytes) old new))
counted_all (Ok done) state tables times old new are took = λ told.
    let all : CountsMore (map counted_use (tables_list tables ++ repeated_list tables times state.byte_at)) old new =
    subst (λ uses. CountsMore (map counted_use uses) old new) (took.known told) took.taken in
    record {
      first = all.first;
      end = all.end;
      cells = λ c from before. all.cells c from before ∙ same_repeated c (cell_at old c) tables times state.byte_at are
          ∙ same_counts c (cell_at old c) tables state.byte_at;
    }
counted_all (Err fault) state tables times old new are took = tt
