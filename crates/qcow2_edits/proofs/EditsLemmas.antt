use Rattle.std.proofs.Common.{◌≡◌, ℕ, Bool, true, not, ◌&&◌, nat_le, nat_eq, ◌+◌, ◌-◌, ◌/◌, ◌^◌, ◌<◌, if◌then◌else◌, Option, None, option_map, List, [], map, ◌∷◌, ◌++◌, length, take, drop, get_or, suc, option_to_list, append_assoc, append-nil, ap, refl, sym, ◌∙◌, arith}
use Rattle.std.proofs.Math.Nat.{le-div_iff_mul-le}
use Rattle.std.proofs.lemmas.Nat.{pow_pos}
use Rattle.std.proofs.lemmas.Bool.Decides.{nat_tests}
use Rattle.std.proofs.lemmas.Iterator.{YieldsList-from_slice}
use Rattle.std.proofs.lemmas.Iterator.Search.{position_from_yields_List}
use Rattle.std.proofs.lemmas.List.Folds.{list_all-map}
use Rattle.std.proofs.Math.Seq.{drop-cons}
use Rattle.std.proofs.lemmas.List.{length-set, map-append, set-set}
use Rattle.std.proofs.lemmas.List.Sums.{AllPass-from_list_all}
use Rattle.std.proofs.lemmas.Iterator.Adapters.{position_from-zero}
use Rattle.std.specs.List.{list_all, position, position_from}
use Rattle.qcow2_base.specs.Types.{IsClusterBits}
use Rattle.qcow2_base.specs.declared.types.HostCluster.{HostCluster}
use Rattle.qcow2_edits.specs.Edits.{Balances, HasRoom, Makes, are_some, edits_left, first_unfit_edit, edit_fits, table_left, cluster_numbers, table_edit}
use Rattle.qcow2_edits.specs.declared.edits.Change.{Change}
use Rattle.qcow2_edits.specs.declared.edits.Edit.{Edit}
use Rattle.qcow2_edits.specs.declared.edits.Outcome.{Outcome}
use Rattle.qcow2_metadata.proofs.L2GuardsLemmas.{balance-run}
use Rattle.qcow2_metadata.specs.Table.L2Guards.{RunEnd, TableEdit, after_edit, fits_table, is_mappable, run_of}
use Rattle.qcow2_metadata.specs.Header.{Geometry}
use Rattle.qcow2_metadata.specs.Placed.{with_number}
use Rattle.qcow2_metadata.specs.Table.{TableState}
use Rattle.qcow2_metadata.specs.declared.entries.ClustersToFreeEntry.{ClustersToFreeEntry}

-- whether a cluster can be mapped to, by the greatest that can
pub mappable_by_greatest : (g : Geometry) (cluster greatest : ℕ) → greatest ≡ (2 ^ 56 - 512) / 2 ^ g.cluster_bits → is_mappable g cluster ≡ (nat_le cluster greatest && (if g.external_data_file then true else not (nat_eq cluster 0)))
mappable_by_greatest g cluster greatest is =
    grind (arith, nat_tests, le-div_iff_mul-le {k = 2 ^ g.cluster_bits} {x = cluster} {y = 2 ^ 56 - 512} (pow_pos g.cluster_bits))

-- an entry that is changed twice is as after the second change
pub edited_twice : (table : TableState) (index v w : ℕ) → with_number (with_number table index v) index w ≡ with_number table index w
edited_twice table index v w = rw (set-set table.numbers index v w) refl

-- what was done before, and then what a run did
abbrev pub joined : List ClustersToFreeEntry → List ℕ → RunEnd → RunEnd
joined freed gained rest = record { numbers = rest.numbers; freed = freed ++ rest.freed; gained = gained ++ rest.gained }

-- that many of the edits are made, and those that are left lead from the table as it is to the end of all
pub record IsPartWay (edits : List Edit) (done : ℕ) (before now : TableState) (outcome : Outcome) : Type 0 where
  pub run : joined outcome.freed.items (cluster_numbers outcome.gained.items) (run_of before.geometry (map table_edit (drop done edits)) now.numbers)
      ≡ run_of before.geometry (map table_edit edits) before.numbers
  pub table : now ≡ table_left (take done edits) before now.numbers
  pub entries : length now.numbers ≡ length before.numbers
  pub room : HasRoom (length edits - done) outcome

-- the entry after one more edit, and what was done to references, continue the run
joined-more : (freed : List ClustersToFreeEntry) (gained : List ℕ) (one : Option ClustersToFreeEntry) (other : Option ℕ) (rest : RunEnd) → joined (freed ++ option_to_list one) (gained ++ option_to_list other) rest ≡ joined freed gained (joined (option_to_list one) (option_to_list other) rest)
joined-more freed gained one other rest = rw (append_assoc freed (option_to_list one) rest.freed, append_assoc gained (option_to_list other) rest.gained) refl

-- the numbers of one more cluster, if there is one
numbers_of-more : (clusters : List HostCluster) (other : Option HostCluster) → cluster_numbers (clusters ++ option_to_list other) ≡ cluster_numbers clusters ++ option_to_list (option_map (λ (cluster : HostCluster). cluster.0) other)
numbers_of-more clusters other = grind (arith, map-append, append-nil)

-- some edits are made once one more is
are_some-take : (edits : List Edit) (done : ℕ) → done < length edits → are_some (take (done + 1) edits) ≡ true
are_some-take edits done below = grind (arith, below)

-- one more edit is made
pub part_way-next : (edits : List Edit) (done : ℕ) (default : Edit) (before now next : TableState) (change : Change) (outcome after : Outcome) → done < length edits → IsPartWay edits done before now outcome → Makes (table_edit (get_or edits done default)) change now next → after.gained.items ≡ outcome.gained.items ++ option_to_list change.gained → after.freed.items ≡ outcome.freed.items ++ option_to_list change.freed → ((more : ℕ) → HasRoom (more + 1) outcome → HasRoom more after) → IsPartWay edits (done + 1) before next after
part_way-next edits done default before now next change outcome after below way made gained freed room =
    let e : TableEdit = table_edit (get_or edits done default) in
    let one_more : done + 1 ≡ suc done = omega arith in
    let enough : length edits - (done + 1) + 1 ≡ length edits - done = omega (arith, below) in
    let geometry : now.geometry ≡ before.geometry = ap (λ (table : TableState). table.geometry) way.table in
    let changed : next.numbers ≡ after_edit now.geometry e now.numbers = ap (λ (table : TableState). table.numbers) made.table in
    let numbers : next.numbers ≡ after_edit before.geometry e now.numbers = rw (← geometry) changed in
    let left : drop done edits ≡ get_or edits done default ∷ drop (suc done) edits = drop-cons edits done default below in
    let run : joined outcome.freed.items (cluster_numbers outcome.gained.items) (run_of before.geometry (e ∷ map table_edit (drop (suc done) edits)) now.numbers) ≡ run_of before.geometry (map table_edit edits) before.numbers = rw left at way.run in
    record {
      run = rw (freed, gained, numbers_of-more, joined-more, made.freed, made.gained, geometry, numbers, one_more) run;
      table = grind (arith, made.table, way.table, are_some-take edits done below);
      entries = ap length changed ∙ length-set now.numbers e.index _ ∙ way.entries;
      room = room (length edits - (done + 1)) (rw enough way.room);
    }

all_pass-from : {X : Type 0} (test : X → Bool) (start : ℕ) (xs : List X) → position_from (λ x. not (test x)) start xs ≡ None → list_all test xs ≡ true
all_pass-from test start [] none = refl
all_pass-from test start (x ∷ xs) none = grind (arith, none, all_pass-from test (start + 1) xs)

-- where no item is the first that fails a test, all pass it
pub all_pass : {X : Type 0} (test : X → Bool) (xs : List X) → position (λ x. not (test x)) xs ≡ None → list_all test xs ≡ true
all_pass test xs none = all_pass-from test 0 xs (sym (position_from-zero (λ x. not (test x)) xs) ∙ none)

-- where none is the first that doesn't fit, all edits fit
pub all_fit : (table : TableState) (edits : List Edit) → first_unfit_edit table edits ≡ None → list_all (fits_table table.geometry (length table.numbers)) (map table_edit edits) ≡ true
all_fit table edits none =
    list_all-map (fits_table table.geometry (length table.numbers)) table_edit edits ∙ all_pass (edit_fits table) edits none

-- what is left fits the table as it is
pub part_way_fits : (edits : List Edit) (done : ℕ) (default : Edit) (before now : TableState) (outcome : Outcome) → first_unfit_edit before edits ≡ None → done < length edits → IsPartWay edits done before now outcome → edit_fits now (get_or edits done default) ≡ true
part_way_fits edits done default before now outcome none below way =
    let fits = AllPass-from_list_all (edit_fits before) edits (all_pass (edit_fits before) edits none) done default below in
    grind (arith, nat_tests, way.table, way.entries, fits)

-- what a run of edits that fit leaves and hands back is in balance
pub run_balances : (edits : List Edit) (outcome : Outcome) (old new : TableState) → IsClusterBits old.geometry.cluster_bits → first_unfit_edit old edits ≡ None → edits_left new outcome ≡ run_of old.geometry (map table_edit edits) old.numbers → new ≡ table_left edits old new.numbers → Balances outcome old new
run_balances edits outcome old new bits none run left = λ cluster.
    grind (arith, run, left, balance-run old.geometry (map table_edit edits) old.numbers cluster bits (all_fit old edits none))

-- the position that a search for an edit returns
pub ruleset unfit_position = (YieldsList-from_slice, position_from_yields_List)
